-- A search along superclasses, class by class.
use Rattle.std.proofs.Common.{◌≡◌, ℕ, zero, suc, true, false, List, [], ◌∷◌, ◌++◌, Option, Some, None, sym, subst}
use Rattle.je_world.specs.declared.link.Link.TheVariants.{Cycle}
use Rattle.je_world.specs.declared.stop.Stop.{Stop}
use Rattle.je_world.specs.Question.{Name, Question, Answered, and_then}
use Rattle.je_world.specs.Seen.{Seen, Leads, Breaks}
use Rattle.je_world.specs.World.{is_listed}
use Rattle.je_world.specs.Walk.{Class, names_of, most}
use Rattle.je_world.specs.Search as search
use Rattle.je_world.specs.Search.{chain, on_to}
use Rattle.je_world.proofs.LeadsLemmas.{leads_then, leads_on, leads_here, breaks_in, breaks_on}
use Rattle.je_members.specs.declared.kin.Kin.{Kin}
use Rattle.je_members.specs.declared.ending.Step.{Step}
use Rattle.je_members.specs.declared.ending.Step.TheVariants.{Into}
use Rattle.je_members.specs.Among.{among}
use Rattle.je_members.specs.Step.{meet, on_step}
use Rattle.je_members.proofs.StepLemmas.{met_same}

-- what is asked on behind a class
abbrev pub up : List Name → ℕ → List Class → Name → Kin → Question (search.Ending (List Class) Name)
up sought n classes name kin =
    on_to (classes ++ (name, kin.interfaces) ∷ []) kin.super_name (chain (among sought) n)

chain_step : (sought : List Name) (n : ℕ) (classes : List Class) (name : Name) → is_listed name (names_of classes) ≡ false → chain (among sought) (suc n) classes name ≡ and_then (meet sought name) (on_step (up sought n classes name))
unfolding chain
chain_step sought n classes name new = rw new (met_same sought name (up sought n classes name))

-- the search stands at a name
abbrev pub AtName : Seen → Question (search.Ending (List Class) Name) → Seen → List Name → ℕ → List Class → Name → Type 0
AtName old q now sought left classes name =
    Leads old q now (chain (among sought) left classes name)

stepped : {old now : Seen} {q : Question (search.Ending (List Class) Name)} (sought : List Name) (left n : ℕ) (classes : List Class) (name : Name) → left ≡ suc n → is_listed name (names_of classes) ≡ false → AtName old q now sought left classes name → Leads old q now (and_then (meet sought name) (on_step (up sought n classes name)))
stepped {old} {now} {q} sought left n classes name is new h =
    subst (λ rest. Leads old q now rest) (chain_step sought n classes name new)
    (subst (λ (m : ℕ). AtName old q now sought m classes name) is h)

pub rises : {old now after : Seen} {q : Question (search.Ending (List Class) Name)} (sought : List Name) (left n : ℕ) (classes : List Class) (name : Name) (step : Step) → left ≡ suc n → is_listed name (names_of classes) ≡ false → AtName old q now sought left classes name → Leads now (meet sought name) after (Answered step) → Leads old q after (on_step (up sought n classes name) step)
rises {after = after} sought left n classes name step is new h k =
    leads_on (stepped sought left n classes name is new h)
    (leads_then (on_step (up sought n classes name)) k
    (leads_here after (on_step (up sought n classes name) step)))

pub rise_breaks : {old now after : Seen} {q : Question (search.Ending (List Class) Name)} (sought : List Name) (left n : ℕ) (classes : List Class) (name : Name) (why : Stop) → left ≡ suc n → is_listed name (names_of classes) ≡ false → AtName old q now sought left classes name → Breaks now (meet sought name) after why → Breaks old q after why
rise_breaks sought left n classes name why is new h k =
    breaks_on why (stepped sought left n classes name is new h)
    (breaks_in (on_step (up sought n classes name)) why k)

-- it is above itself
pub again : {old now : Seen} {q : Question (search.Ending (List Class) Name)} (sought : List Name) (left : ℕ) (classes : List Class) (name : Name) → is_listed name (names_of classes) ≡ true → AtName old q now sought left classes name → Leads old q now (Answered (search.Bad (Cycle name)))
unfolding chain
again sought zero classes name is h = h
again {old} {now} {q} sought (suc n) classes name is h =
    rw is at h

pub too_high : {old now : Seen} {q : Question (search.Ending (List Class) Name)} (sought : List Name) (left : ℕ) (classes : List Class) (name : Name) → left ≡ 0 → AtName old q now sought left classes name → Leads old q now (Answered (search.Bad (Cycle name)))
unfolding chain
too_high {old} {now} {q} sought left classes name is h =
    subst (λ (m : ℕ). AtName old q now sought m classes name) is h

-- on to the superclass
pub higher : {old after : Seen} {q : Question (search.Ending (List Class) Name)} (sought : List Name) (n : ℕ) (classes : List Class) (name : Name) (kin : Kin) (super : Name) → kin.super_name ≡ Some super → Leads old q after (on_step (up sought n classes name) (Into kin)) → AtName old q after sought n (classes ++ (name, kin.interfaces) ∷ []) super
higher {old} {after} {q} sought n classes name kin super is h =
    subst (λ (o : Option Name). Leads old q after (on_to (classes ++ (name, kin.interfaces) ∷ []) o (chain (among sought) n))) is h

pub at_top : {old after : Seen} {q : Question (search.Ending (List Class) Name)} (sought : List Name) (n : ℕ) (classes : List Class) (name : Name) (kin : Kin) → kin.super_name ≡ None → Leads old q after (on_step (up sought n classes name) (Into kin)) → Leads old q after (Answered (search.Went (classes ++ (name, kin.interfaces) ∷ [])))
at_top {old} {after} {q} sought n classes name kin is h =
    subst (λ (o : Option Name). Leads old q after (on_to (classes ++ (name, kin.interfaces) ∷ []) o (chain (among sought) n))) is h

-- before the first name
pub begins : (now : Seen) (sought : List Name) (name : Name) {classes : List Class} → classes ≡ [] → AtName now (chain (among sought) most [] name) now sought 18446744073709551616 classes name
unfolding most
begins now sought name {classes} is =
    subst (λ (l : List Class). AtName now (chain (among sought) most [] name) now sought 18446744073709551616 l name) (sym is)
    (leads_here now (chain (among sought) most [] name))
