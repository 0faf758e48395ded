-- What a name that is met comes to, in the searches of a world.
use Rattle.std.proofs.Common.{◌≡◌, Bool, true, false, cond, List, Some, None, Result, refl}
use Rattle.je_world.specs.declared.link.Link.{Link}
use Rattle.je_world.specs.declared.stop.Stop.{Stop}
use Rattle.je_world.specs.declared.stop.Stop.TheVariants.{Memory}
use Rattle.je_world.specs.Question.{Name, Known, Absent, Broken, IsClass, Question, Answered, Look, and_then}
use Rattle.je_world.specs.Seen.{Seen, Leads, Breaks}
use Rattle.je_world.specs.World.{is_listed}
use Rattle.je_world.specs.Search as search
use Rattle.je_world.specs.Search.{met_then, meet_by, seen_then}
use Rattle.je_world.proofs.LeadsLemmas.{leads_then, breaks_in, leads_here, no_memory}
use Rattle.je_members.specs.declared.kin.Kin.{Kin}
use Rattle.je_members.specs.declared.ending.Step.TheVariants.{Met}
use Rattle.je_members.specs.Among.{among, found}
use Rattle.je_members.specs.Kin.{kin_of, kin_at}
use Rattle.je_members.specs.Step.{meet, came, on_step}

-- ---- a name is sought

pub sought_is : {old : Seen} (sought : List Name) (name : Name) {copied : Name} → is_listed name sought ≡ true → copied ≡ name → Leads old (meet sought name) old (Answered (Met copied))
unfolding meet
sought_is {old} sought name {copied} is same =
    rw (is, same) (leads_here old (Answered (Met name)))

pub sought_full : {old : Seen} (sought : List Name) (name : Name) → Breaks old (meet sought name) old Memory
sought_full {old} sought name = no_memory (leads_here old (meet sought name))

pub looked_at : {old new : Seen} (sought : List Name) (name : Name) (kin : Result Kin Link) → is_listed name sought ≡ false → Leads old (kin_at name) new (Answered kin) → Leads old (meet sought name) new (Answered (came kin))
unfolding meet
looked_at {old} {new} sought name kin is h =
    rw is (leads_then (λ k. Answered (came k)) h (leads_here new (Answered (came kin))))

pub looked_broken : {old new : Seen} (sought : List Name) (name : Name) (why : Stop) → is_listed name sought ≡ false → Breaks old (kin_at name) new why → Breaks old (meet sought name) new why
unfolding meet
looked_broken {old} {new} sought name why is h =
    rw is (breaks_in (λ k. Answered (came k)) why h)

-- ---- the search goes on

after_look : {N : Type 0} (name : Name) (next : Kin → Question (search.Ending N Name)) (known : Known) → seen_then name (λ class. None) (λ class. next (kin_of class)) known ≡ on_step next (came (found name kin_of known))
after_look name next Absent = refl
after_look name next Broken = refl
after_look name next (IsClass class) = refl

pub met_same : {N : Type 0} (sought : List Name) (name : Name) (next : Kin → Question (search.Ending N Name)) → met_then (among sought) name (λ class. next (kin_of class)) ≡ and_then (meet sought name) (on_step next)
unfolding met_then meet and_then
met_same {N} sought name next = go (is_listed name sought)
  where
    go : (b : Bool) → meet_by name (cond b (Some name) None) (λ class. None) (λ class. next (kin_of class)) ≡ and_then (cond b (Answered (Met name)) (and_then (kin_at name) (λ kin. Answered (came kin)))) (on_step next)
    go true = refl
    go false = λ i. Look name (λ known. after_look name next known i)
