-- Reading off a class that is looked at, and asking on from an answer.
use Rattle.std.proofs.Common.{◌≡◌, Result, Ok, Err, IfOk, IfErr, sym, subst}
use Rattle.je_desc.specs.declared.summary.Summary.{Summary}
use Rattle.je_world.specs.declared.link.Link.{Link}
use Rattle.je_world.specs.declared.link.Link.TheVariants as link
use Rattle.je_world.specs.declared.stop.Stop.{Stop}
use Rattle.je_world.specs.declared.stop.Stop.TheVariants.{Memory}
use Rattle.je_world.specs.Question.{Name, Known, Absent, Broken, IsClass, Question, Answered, Look}
use Rattle.je_world.specs.Seen.{Seen, Leads, Breaks, Gives}
use Rattle.je_world.specs.World.{Looks}
use Rattle.je_world.proofs.LeadsLemmas.{leads_look, breaks_look, no_memory, leads_then, leads_here, breaks_in}
use Rattle.je_members.specs.Among.{found, on_ok, try_then}
use Rattle.je_members.specs.Common.{object}

-- a look at a class, of which something is read
abbrev pub reading : {A : Type 0} → Name → (Summary → A) → Question (Result A Link)
reading name read = Look name (λ known. Answered (found name read known))

pub read_is : {A : Type 0} {old new : Seen} (name : Name) (read : Summary → A) (class : Summary) {a : A} → a ≡ read class → Looks name old (Ok (IsClass class)) new → Leads old (reading name read) new (Answered (Ok a))
read_is {A} {old} {new} name read class same h =
    subst (λ (a : A). Leads old (reading name read) new (Answered (Ok a))) (sym same)
    (leads_look (λ known. Answered (found name read known)) (IsClass class) h)

pub read_none : {A : Type 0} {old new : Seen} (name : Name) (read : Summary → A) {copied : Name} → copied ≡ name → Looks name old (Ok Absent) new → Leads old (reading name read) new (Answered (Err (link.NotFound copied)))
read_none {A} {old} {new} name read same h =
    subst (λ (n : Name). Leads old (reading name read) new (Answered (Err (link.NotFound n)))) (sym same)
    (leads_look (λ known. Answered (found name read known)) Absent h)

pub read_broken : {A : Type 0} {old new : Seen} (name : Name) (read : Summary → A) {copied : Name} → copied ≡ name → Looks name old (Ok Broken) new → Leads old (reading name read) new (Answered (Err (link.Broken copied)))
read_broken {A} {old} {new} name read same h =
    subst (λ (n : Name). Leads old (reading name read) new (Answered (Err (link.Broken n)))) (sym same)
    (leads_look (λ known. Answered (found name read known)) Broken h)

pub read_full : {A : Type 0} {old new : Seen} (name : Name) (read : Summary → A) (known : Known) → Looks name old (Ok known) new → Breaks old (reading name read) new Memory
read_full name read known h =
    no_memory (leads_look (λ known. Answered (found name read known)) known h)

pub read_stops : {A : Type 0} {old new : Seen} (name : Name) (read : Summary → A) (why : Stop) → Looks name old (Err why) new → Breaks old (reading name read) new why
read_stops name read why h = breaks_look (λ known. Answered (found name read known)) why h

pub tried : {A B : Type 0} {old after : Seen} (q : Question (Result A Link)) (next : A → Question (Result B Link)) (r : Result A Link) → Leads old q after (Answered r) → Leads old (try_then q next) after (on_ok next r)
unfolding try_then
tried {after = after} q next r h = leads_then (on_ok next) h (leads_here after (on_ok next r))

pub try_breaks : {A B : Type 0} {old after : Seen} (q : Question (Result A Link)) (next : A → Question (Result B Link)) (why : Stop) → Breaks old q after why → Breaks old (try_then q next) after why
unfolding try_then
try_breaks q next why h = breaks_in (on_ok next) why h

pub found_object : {old now : Seen} {q : Question (Result Name Link)} (r : Result (Result Name Link) Stop) → IfOk r (λ found. found ≡ Ok object) → IfErr r (λ why. why ≡ Memory) → Leads old q now (Answered (Ok object)) → Gives old q now r
found_object {old} {now} {q} (Ok found) is none h =
    subst (λ (f : Result Name Link). Leads old q now (Answered f)) (sym is) h
found_object {old} {now} {q} (Err why) is none h =
    subst (λ (w : Stop). Breaks old q now w) (sym none) (no_memory h)
