-- A search along the walk of a class: the superclasses, and then the interfaces of each.
use Rattle.std.proofs.Common.{◌≡◌, List, [], ◌∷◌, refl, subst, length, arith}
use Rattle.je_world.specs.declared.stop.Stop.{Stop}
use Rattle.je_world.specs.Question.{Name, Question, Answered, and_then}
use Rattle.je_world.specs.Seen.{Seen, Leads, Breaks}
use Rattle.je_world.specs.Walk.{Class, names_of, most}
use Rattle.je_world.specs.Search as search
use Rattle.je_world.specs.Search.{above, sides, chain, walk, went_then, going_on}
use Rattle.je_world.proofs.LeadsLemmas.{leads_then, leads_on, leads_here, breaks_in, breaks_on}
use Rattle.je_members.specs.Among.{among}

-- what comes behind the interfaces of a class
abbrev pub beside : List Name → List Name → List Class → search.Ending (List Name) Name → Question (search.Ending (List Name) Name)
beside sought below rest = going_on (λ names. sides (among sought) below names rest)

open_side : {old now : Seen} {q : Question (search.Ending (List Name) Name)} (sought below gone : List Name) (left : List Class) (class : Class) (rest : List Class) → left ≡ class ∷ rest → Leads old q now (sides (among sought) below gone left) → Leads old q now (and_then (above (among sought) 18446744073709551616 (class.0 ∷ below) gone class.1) (beside sought (class.0 ∷ below) rest))
unfolding sides most went_then
open_side {old} {now} {q} sought below gone left class rest first h =
    subst (λ (l : List Class). Leads old q now (sides (among sought) below gone l)) first h

pub side_by : {old now after : Seen} {q : Question (search.Ending (List Name) Name)} (sought below gone : List Name) (left : List Class) (class : Class) (rest : List Class) (end : search.Ending (List Name) Name) → left ≡ class ∷ rest → Leads old q now (sides (among sought) below gone left) → Leads now (above (among sought) 18446744073709551616 (class.0 ∷ below) gone class.1) after (Answered end) → Leads old q after (beside sought (class.0 ∷ below) rest end)
side_by {after = after} sought below gone left class rest end first h k =
    leads_on (open_side sought below gone left class rest first h)
    (leads_then (beside sought (class.0 ∷ below) rest) k
    (leads_here after (beside sought (class.0 ∷ below) rest end)))

pub side_breaks : {old now after : Seen} {q : Question (search.Ending (List Name) Name)} (sought below gone : List Name) (left : List Class) (class : Class) (rest : List Class) (why : Stop) → left ≡ class ∷ rest → Leads old q now (sides (among sought) below gone left) → Breaks now (above (among sought) 18446744073709551616 (class.0 ∷ below) gone class.1) after why → Breaks old q after why
side_breaks sought below gone left class rest why first h k =
    breaks_on why (open_side sought below gone left class rest first h)
    (breaks_in (beside sought (class.0 ∷ below) rest) why k)

no_classes : (classes : List Class) → length classes ≡ 0 → classes ≡ []
no_classes [] is = refl
no_classes (class ∷ classes) is = absurd (omega (arith, is))

pub all_sides : {old now : Seen} {q : Question (search.Ending (List Name) Name)} (sought below gone : List Name) (left : List Class) → length left ≡ 0 → Leads old q now (sides (among sought) below gone left) → Leads old q now (Answered (search.Went gone))
unfolding sides
all_sides {old} {now} {q} sought below gone left is h =
    subst (λ (l : List Class). Leads old q now (sides (among sought) below gone l)) (no_classes left is) h

-- what comes behind the superclasses
abbrev pub then_sides : List Name → search.Ending (List Class) Name → Question (search.Ending (List Name) Name)
then_sides sought = going_on (λ classes. sides (among sought) [] (names_of classes) classes)

pub walked : {old after : Seen} (sought : List Name) (name : Name) (end : search.Ending (List Class) Name) → Leads old (chain (among sought) most [] name) after (Answered end) → Leads old (walk (among sought) name) after (then_sides sought end)
unfolding walk went_then
walked {old} {after} sought name end h =
    leads_then (then_sides sought) h (leads_here after (then_sides sought end))

pub walk_breaks : {old after : Seen} (sought : List Name) (name : Name) (why : Stop) → Breaks old (chain (among sought) most [] name) after why → Breaks old (walk (among sought) name) after why
unfolding walk went_then
walk_breaks sought name why h = breaks_in (then_sides sought) why h
