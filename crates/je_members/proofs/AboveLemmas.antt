-- A search along interfaces, name by name.
use Rattle.std.proofs.Common.{◌≡◌, ℕ, zero, suc, Bool, true, false, cond, List, [], ◌∷◌, ◌++◌, Option, Some, None, Result, Ok, Err, IfOk, IfErr, sym, subst, refl, ◌∙◌, length, arith}
use Rattle.je_world.specs.declared.link.Link.TheVariants.{Cycle}
use Rattle.je_world.specs.declared.stop.Stop.{Stop}
use Rattle.je_world.specs.declared.stop.Stop.TheVariants.{Memory}
use Rattle.je_world.specs.Question.{Name, Question, Answered, Look, and_then}
use Rattle.je_world.specs.Seen.{Seen, Leads, Breaks, Gives}
use Rattle.je_world.specs.World.{is_listed}
use Rattle.je_world.specs.Search as search
use Rattle.je_world.specs.Search.{above, waiting, went_then, going_on, met_then}
use Rattle.je_world.proofs.LeadsLemmas.{leads_then, leads_on, leads_here, breaks_in, breaks_on, no_memory}
use Rattle.je_members.specs.declared.kin.Kin.{Kin}
use Rattle.je_members.specs.declared.ending.Step.{Step}
use Rattle.je_members.specs.declared.ending.Step.TheVariants.{Bad, Met, Into}
use Rattle.je_members.specs.declared.ending.Ending as ending
use Rattle.je_members.specs.declared.ending.Ending.TheVariants as end_at
use Rattle.je_members.specs.Among.{among}
use Rattle.je_members.specs.Ending.{ended, ending_of}
use Rattle.je_members.specs.Step.{meet, step, on_step, on_pass, passing}
use Rattle.je_members.proofs.StepLemmas.{met_same}

assoc : {A B C : Type 0} (q : Question A) (f : A → Question B) (g : B → Question C) → and_then (and_then q f) g ≡ and_then q (λ a. and_then (f a) g)
unfolding and_then
assoc (Answered a) f g = refl
assoc (Look name go) f g = λ i. Look name (λ known. assoc (go known) f g i)

-- what is above a name
abbrev pub over : List Name → ℕ → List Name → List Name → Name → Kin → Question (search.Ending (List Name) Name)
over sought n below so_far name kin =
    above (among sought) n (name ∷ below) (so_far ++ name ∷ []) kin.interfaces

into : (next : List Name → Question (search.Ending (List Name) Name)) (up : Kin → Question (search.Ending (List Name) Name)) (met : Step) → on_step (λ kin. went_then (up kin) next) met ≡ and_then (on_step up met) (going_on next)
unfolding went_then and_then
into next up (Bad bad) = refl
into next up (Met name) = refl
into next up (Into kin) = refl

passes : (q : Question Step) (so_far : List Name) (next : List Name → Question (search.Ending (List Name) Name)) (up : Kin → Question (search.Ending (List Name) Name)) → and_then q (on_step (λ kin. went_then (up kin) next)) ≡ and_then (and_then (and_then q (λ met. Answered (Some met))) (on_pass so_far up)) (going_on next)
unfolding went_then and_then
passes (Answered met) so_far next up = into next up met
passes (Look name go) so_far next up =
    λ i. Look name (λ known. passes (go known) so_far next up i)

waits : (sought : List Name) (n : ℕ) (below so_far : List Name) (name : Name) (rest : List Name) → waiting (among sought) (above (among sought) n) below so_far (name ∷ rest) ≡ went_then (passing sought n below so_far name) (λ names. waiting (among sought) (above (among sought) n) below names rest)
unfolding waiting went_then passing step and_then
waits sought n below so_far name rest = go (is_listed name below) (is_listed name so_far)
  where
    next : List Name → Question (search.Ending (List Name) Name)
    next names = waiting (among sought) (above (among sought) n) below names rest

    go : (b d : Bool) → cond b (Answered (search.Bad (Cycle name))) (cond d (waiting (among sought) (above (among sought) n) below so_far rest) (met_then (among sought) name (λ class. went_then (above (among sought) n (name ∷ below) (so_far ++ name ∷ []) class.interfaces) (λ names. waiting (among sought) (above (among sought) n) below names rest)))) ≡ and_then (and_then (cond b (Answered (Some (Bad (Cycle name)))) (cond d (Answered None) (and_then (meet sought name) (λ met. Answered (Some met))))) (on_pass so_far (over sought n below so_far name))) (going_on (λ names. waiting (among sought) (above (among sought) n) below names rest))
    go true d = refl
    go false true = refl
    go false false =
        met_same sought name (λ kin. went_then (over sought n below so_far name kin) (λ names. waiting (among sought) (above (among sought) n) below names rest))
        ∙ passes (meet sought name) so_far (λ names. waiting (among sought) (above (among sought) n) below names rest) (over sought n below so_far name)

-- the search stands before names that wait
abbrev pub AtNames : Seen → Question (search.Ending (List Name) Name) → Seen → List Name → ℕ → List Name → List Name → List Name → Type 0
AtNames old q now sought left below so_far names =
    Leads old q now (above (among sought) left below so_far names)

next_name : {old now : Seen} {q : Question (search.Ending (List Name) Name)} (sought : List Name) (left n : ℕ) (below so_far : List Name) (names : List Name) (name : Name) (rest : List Name) → left ≡ suc n → names ≡ name ∷ rest → AtNames old q now sought left below so_far names → Leads old q now (went_then (passing sought n below so_far name) (λ names. above (among sought) (suc n) below names rest))
unfolding above
next_name {old} {now} {q} sought left n below so_far names name rest is first h =
    subst (λ x. Leads old q now x) (waits sought n below so_far name rest)
    (subst (λ (l : List Name). AtNames old q now sought (suc n) below so_far l) first
    (subst (λ (m : ℕ). AtNames old q now sought m below so_far names) is h))

-- what comes of that name
abbrev pub behind : List Name → ℕ → List Name → List Name → search.Ending (List Name) Name → Question (search.Ending (List Name) Name)
behind sought left below rest = going_on (λ names. above (among sought) left below names rest)

pub gone_by : {old now after : Seen} {q : Question (search.Ending (List Name) Name)} (sought : List Name) (left n : ℕ) (below so_far : List Name) (names : List Name) (name : Name) (rest : List Name) (end : search.Ending (List Name) Name) → left ≡ suc n → names ≡ name ∷ rest → AtNames old q now sought left below so_far names → Leads now (passing sought n below so_far name) after (Answered end) → Leads old q after (behind sought left below rest end)
unfolding went_then
gone_by {old} {now} {after} {q} sought left n below so_far names name rest end is first h k =
    subst (λ (m : ℕ). Leads old q after (behind sought m below rest end)) (sym is)
    (leads_on (next_name sought left n below so_far names name rest is first h)
    (leads_then (behind sought (suc n) below rest) k (leads_here after (behind sought (suc n) below rest end))))

pub gone_breaks : {old now after : Seen} {q : Question (search.Ending (List Name) Name)} (sought : List Name) (left n : ℕ) (below so_far : List Name) (names : List Name) (name : Name) (rest : List Name) (why : Stop) → left ≡ suc n → names ≡ name ∷ rest → AtNames old q now sought left below so_far names → Breaks now (passing sought n below so_far name) after why → Breaks old q after why
unfolding went_then
gone_breaks sought left n below so_far names name rest why is first h k =
    breaks_on why (next_name sought left n below so_far names name rest is first h)
    (breaks_in (behind sought (suc n) below rest) why k)

no_names : (names : List Name) → length names ≡ 0 → names ≡ []
no_names [] is = refl
no_names (name ∷ names) is = absurd (omega (arith, is))

at_end : {old now : Seen} {q : Question (search.Ending (List Name) Name)} (sought : List Name) (left : ℕ) (below so_far : List Name) → AtNames old q now sought left below so_far [] → Leads old q now (Answered (search.Went so_far))
unfolding above waiting
at_end sought zero below so_far h = h
at_end sought (suc n) below so_far h = h

pub all_gone : {old now : Seen} {q : Question (search.Ending (List Name) Name)} (sought : List Name) (left : ℕ) (below so_far : List Name) (names : List Name) → length names ≡ 0 → AtNames old q now sought left below so_far names → Leads old q now (Answered (search.Went so_far))
all_gone {old} {now} {q} sought left below so_far names is h =
    at_end sought left below so_far
    (subst (λ (l : List Name). AtNames old q now sought left below so_far l) (no_names names is) h)

pub no_higher : {old now : Seen} {q : Question (search.Ending (List Name) Name)} (sought : List Name) (left : ℕ) (below so_far : List Name) (names : List Name) (name : Name) (rest : List Name) → left ≡ 0 → names ≡ name ∷ rest → AtNames old q now sought left below so_far names → Leads old q now (Answered (search.Bad (Cycle name)))
unfolding above
no_higher {old} {now} {q} sought left below so_far names name rest is first h =
    subst (λ (l : List Name). AtNames old q now sought 0 below so_far l) first
    (subst (λ (m : ℕ). AtNames old q now sought m below so_far names) is h)

-- ---- one name

pub above_itself : {old : Seen} (sought below so_far : List Name) (name : Name) {copied : Name} → is_listed name below ≡ true → copied ≡ name → Leads old (step sought below so_far name) old (Answered (Some (Bad (Cycle copied))))
unfolding step
above_itself {old} sought below so_far name is same =
    rw (is, same) (leads_here old (Answered (Some (Bad (Cycle name)))))

pub was_before : {old : Seen} (sought below so_far : List Name) (name : Name) → is_listed name below ≡ false → is_listed name so_far ≡ true → Leads old (step sought below so_far name) old (Answered None)
unfolding step
was_before {old} sought below so_far name new is = rw (new, is) (leads_here old (Answered None))

pub met_now : {old after : Seen} (sought below so_far : List Name) (name : Name) (met : Step) → is_listed name below ≡ false → is_listed name so_far ≡ false → Leads old (meet sought name) after (Answered met) → Leads old (step sought below so_far name) after (Answered (Some met))
unfolding step
met_now {old} {after} sought below so_far name met new is h =
    rw (new, is) (leads_then (λ met. Answered (Some met)) h (leads_here after (Answered (Some met))))

pub met_breaks : {old after : Seen} (sought below so_far : List Name) (name : Name) (why : Stop) → is_listed name below ≡ false → is_listed name so_far ≡ false → Breaks old (meet sought name) after why → Breaks old (step sought below so_far name) after why
unfolding step
met_breaks {old} {after} sought below so_far name why new is h =
    rw (new, is) (breaks_in (λ met. Answered (Some met)) why h)

-- ---- what comes of it

pub passed : {old after : Seen} (sought : List Name) (n : ℕ) (below so_far : List Name) (name : Name) (met : Option Step) → Leads old (step sought below so_far name) after (Answered met) → Leads old (passing sought n below so_far name) after (on_pass so_far (over sought n below so_far name) met)
unfolding passing
passed {old} {after} sought n below so_far name met h =
    leads_then (on_pass so_far (over sought n below so_far name)) h
    (leads_here after (on_pass so_far (over sought n below so_far name) met))

pub pass_breaks : {old after : Seen} (sought : List Name) (n : ℕ) (below so_far : List Name) (name : Name) (why : Stop) → Breaks old (step sought below so_far name) after why → Breaks old (passing sought n below so_far name) after why
unfolding passing
pass_breaks sought n below so_far name why h =
    breaks_in (on_pass so_far (over sought n below so_far name)) why h

-- a name that is copied at the end, if there is memory
pub ends_cycle : {old now : Seen} {q : Question (search.Ending (List Name) Name)} {name : Name} (r : Result (ending.Ending (List Name)) Stop) → IfOk r (λ end. end ≡ end_at.Bad (Cycle name)) → IfErr r (λ why. why ≡ Memory) → Leads old q now (Answered (search.Bad (Cycle name))) → Gives old q now (ended r)
ends_cycle {old} {now} {q} (Ok end) is none h =
    subst (λ (e : ending.Ending (List Name)). Leads old q now (Answered (ending_of e))) (sym is) h
ends_cycle {old} {now} {q} (Err why) is none h =
    subst (λ (w : Stop). Breaks old q now w) (sym none) (no_memory h)
