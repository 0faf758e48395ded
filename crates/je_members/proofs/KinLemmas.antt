-- What a look at a class comes to.
use Rattle.std.proofs.Common.{◌≡◌, Ok, Err, sym, subst}
use Rattle.je_desc.specs.declared.summary.Summary.{Summary}
use Rattle.je_world.specs.declared.link.Link.TheVariants as link
use Rattle.je_world.specs.declared.stop.Stop.{Stop}
use Rattle.je_world.specs.declared.stop.Stop.TheVariants.{Memory}
use Rattle.je_world.specs.Question.{Name, Known, Absent, Broken, IsClass, Answered}
use Rattle.je_world.specs.Seen.{Seen, Leads, Breaks}
use Rattle.je_world.specs.World.{Looks}
use Rattle.je_world.proofs.LeadsLemmas.{leads_look, breaks_look, no_memory}
use Rattle.je_members.specs.declared.kin.Kin.{Kin}
use Rattle.je_members.specs.Among.{found}
use Rattle.je_members.specs.Kin.{kin_at, kin_of}

pub kin_is : {old new : Seen} {name : Name} (class : Summary) {kin : Kin} → kin ≡ kin_of class → Looks name old (Ok (IsClass class)) new → Leads old (kin_at name) new (Answered (Ok kin))
kin_is {old} {new} {name} class same h =
    subst (λ kin. Leads old (kin_at name) new (Answered (Ok kin))) (sym same)
    (leads_look (λ known. Answered (found name kin_of known)) (IsClass class) h)

pub kin_none : {old new : Seen} {name copied : Name} → copied ≡ name → Looks name old (Ok Absent) new → Leads old (kin_at name) new (Answered (Err (link.NotFound copied)))
kin_none {old} {new} {name} same h =
    subst (λ (n : Name). Leads old (kin_at name) new (Answered (Err (link.NotFound n)))) (sym same)
    (leads_look (λ known. Answered (found name kin_of known)) Absent h)

pub kin_broken : {old new : Seen} {name copied : Name} → copied ≡ name → Looks name old (Ok Broken) new → Leads old (kin_at name) new (Answered (Err (link.Broken copied)))
kin_broken {old} {new} {name} same h =
    subst (λ (n : Name). Leads old (kin_at name) new (Answered (Err (link.Broken n)))) (sym same)
    (leads_look (λ known. Answered (found name kin_of known)) Broken h)

pub kin_full : {old new : Seen} {name : Name} (known : Known) → Looks name old (Ok known) new → Breaks old (kin_at name) new Memory
kin_full {name = name} known h =
    no_memory (leads_look (λ known. Answered (found name kin_of known)) known h)

pub kin_stops : {old new : Seen} {name : Name} (why : Stop) → Looks name old (Err why) new → Breaks old (kin_at name) new why
kin_stops {name = name} why h =
    breaks_look (λ known. Answered (found name kin_of known)) why h
