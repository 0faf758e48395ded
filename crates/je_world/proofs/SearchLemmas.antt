-- Searches along walks, against what they come to over the walk's names.
use Rattle.std.proofs.Common.{◌≡◌, ℕ, zero, suc, true, false, List, [], ◌∷◌, ◌++◌, Option, Some, None, refl, ap, ◌∙◌}
use Rattle.std.proofs.lemmas.List.{append-nil}
use Rattle.je_desc.specs.declared.summary.Summary.{Summary}
use Rattle.je_world.specs.declared.link.Link.{Link}
use Rattle.je_world.specs.declared.link.Link.TheVariants.{NotFound, Cycle}
use Rattle.je_world.specs.declared.link.Link.TheVariants as link
use Rattle.je_world.specs.Question.{Name, Known, Absent, Broken, IsClass, Map, Question, answer_by, names_by}
use Rattle.je_world.specs.World.{is_listed}
use Rattle.je_world.specs.Walk.{Class, names_of, most, IsAgain}
use Rattle.je_world.specs.Search.{Search, Ending, Went, Bad, Decided, Asked, asked_by, seeing, meeting, search_over, at_end, going_on, went_then, see_by, seen_then, meet_by, met_then, on_to, chain, waiting, above, fields}
use Rattle.je_world.proofs.LeadsLemmas.{answer_by-then, names_by-then}

-- ---- parts in a row

pub pair : {X Y : Type 0} {a b : X} {c d : Y} → a ≡ b → c ≡ d → ◌≡◌ {A = X × Y} (a, c) (b, d)
pair p q = λ i. (p i, q i)

-- what comes behind a part, by the part's end
abbrev pub then_by : {N M A : Type 0} → List Name → Ending N A → (N → Asked M A) → Asked M A
then_by names (Went gone) next = (names ++ (next gone).0, (next gone).1)
then_by names (Bad bad) next = (names, Bad bad)
then_by names (Decided answer) next = (names, Decided answer)

abbrev pub asked_then : {N M A : Type 0} → Asked N A → (N → Asked M A) → Asked M A
asked_then p next = then_by p.0 p.1 next

then_on : {N M A : Type 0} (map : Map) (names : List Name) (e : Ending N A) (next : N → Question (Ending M A)) → ◌≡◌ {A = Asked M A} (names ++ names_by map (going_on next e), answer_by map (going_on next e)) (then_by names e (λ gone. asked_by map (next gone)))
then_on map names (Went gone) next = refl
then_on map names (Bad bad) next = pair (append-nil names) refl
then_on map names (Decided answer) next = pair (append-nil names) refl

pub asked_by-then : {N M A : Type 0} (map : Map) (q : Question (Ending N A)) (next : N → Question (Ending M A)) → asked_by map (went_then q next) ≡ asked_then (asked_by map q) (λ gone. asked_by map (next gone))
unfolding went_then
asked_by-then map q next =
    pair (names_by-then map q (going_on next)) (answer_by-then map q (going_on next)) ∙ then_on map (names_by map q) (answer_by map q) next

seeing-then : {N M A : Type 0} (name : Name) (o : Option A) (names : List Name) (e : Ending N A) (next : N → Asked M A) → asked_then (seeing name o (names, e)) next ≡ seeing name o (then_by names e next)
seeing-then name (Some answer) names e next = refl
seeing-then name None names (Went gone) next = refl
seeing-then name None names (Bad bad) next = refl
seeing-then name None names (Decided answer) next = refl

meeting-then : {N M A : Type 0} (name : Name) (o : Option A) (sees : Summary → Option A) (known : Known) (rest : Summary → Asked N A) (next : N → Asked M A) → asked_then (meeting name o sees known rest) next ≡ meeting name o sees known (λ class. asked_then (rest class) next)
meeting-then name (Some answer) sees known rest next = refl
meeting-then name None sees Absent rest next = refl
meeting-then name None sees Broken rest next = refl
meeting-then name None sees (IsClass class) rest next =
    seeing-then name (sees class) (rest class).0 (rest class).1 next

pub search_over-then : {N M A : Type 0} (s : Search A) (map : Map) (names : List Name) (behind : Asked N A) (next : N → Asked M A) → asked_then (search_over s map names behind) next ≡ search_over s map names (asked_then behind next)
search_over-then s map [] behind next = refl
search_over-then {N} {M} {A} s map (name ∷ names) behind next =
    meeting-then name (s.meets name) s.sees (map name) (λ class. search_over s map names behind) next
    ∙ ap (λ (p : Asked M A). meeting name (s.meets name) s.sees (map name) (λ class. p)) (search_over-then s map names behind next)

pub search_over-append : {N A : Type 0} (s : Search A) (map : Map) (front back : List Name) (behind : Asked N A) → search_over s map (front ++ back) behind ≡ search_over s map front (search_over s map back behind)
search_over-append s map [] back behind = refl
search_over-append {N} {A} s map (name ∷ front) back behind =
    ap (λ (p : Asked N A). meeting name (s.meets name) s.sees (map name) (λ class. p)) (search_over-append s map front back behind)

-- ---- a name that is met

-- where there is no class, nothing comes behind it
pub meeting_absent : {M A : Type 0} (name : Name) (o : Option A) (sees : Summary → Option A) (rest : Summary → Asked M A) (other : Summary → Asked M A) → meeting name o sees Absent rest ≡ meeting name o sees Absent other
meeting_absent name (Some answer) sees rest other = refl
meeting_absent name None sees rest other = refl

pub meeting_broken : {M A : Type 0} (name : Name) (o : Option A) (sees : Summary → Option A) (rest : Summary → Asked M A) (other : Summary → Asked M A) → meeting name o sees Broken rest ≡ meeting name o sees Broken other
meeting_broken name (Some answer) sees rest other = refl
meeting_broken name None sees rest other = refl

pub meeting_class : {M A : Type 0} (name : Name) (o : Option A) (sees : Summary → Option A) (class : Summary) (rest other : Summary → Asked M A) → rest class ≡ other class → meeting name o sees (IsClass class) rest ≡ meeting name o sees (IsClass class) other
meeting_class name (Some answer) sees class rest other same = refl
meeting_class {M} {A} name None sees class rest other same =
    ap (λ (p : Asked M A). seeing name (sees class) p) same

-- what is bad stays
pub at_bad : {N M A : Type 0} (s : Search A) (bad : Link) (gone : N) (other : M) (next : N → Asked M A) → asked_then (at_end s (Some bad) gone) next ≡ at_end s (Some bad) other
at_bad s (Cycle name) gone other next = refl
at_bad {A = A} s (NotFound name) gone other next = go (s.meets name)
  where
    go : (o : Option A) → asked_then (meeting name o s.sees Absent (λ class. ([], Went gone))) next ≡ meeting name o s.sees Absent (λ class. ([], Went other))
    go (Some answer) = refl
    go None = refl
at_bad {A = A} s (link.Broken name) gone other next = go (s.meets name)
  where
    go : (o : Option A) → asked_then (meeting name o s.sees Broken (λ class. ([], Went gone))) next ≡ meeting name o s.sees Broken (λ class. ([], Went other))
    go (Some answer) = refl
    go None = refl

asked_seen : {N A : Type 0} (map : Map) (name : Name) (o : Option A) (q : Question (Ending N A)) → ◌≡◌ {A = Asked N A} (name ∷ names_by map (see_by o q), answer_by map (see_by o q)) (seeing name o (asked_by map q))
asked_seen map name (Some answer) q = refl
asked_seen map name None q = refl

asked_met : {N A : Type 0} (map : Map) (s : Search A) (name : Name) (next : Summary → Question (Ending N A)) → asked_by map (met_then s name next) ≡ meeting name (s.meets name) s.sees (map name) (λ class. asked_by map (next class))
unfolding met_then
asked_met {N} {A} map s name next = go (s.meets name)
  where
    look : (known : Known) → ◌≡◌ {A = Asked N A} (name ∷ names_by map (seen_then name s.sees next known), answer_by map (seen_then name s.sees next known)) (meeting name None s.sees known (λ class. asked_by map (next class)))
    look Absent = refl
    look Broken = refl
    look (IsClass class) = asked_seen map name (s.sees class) (next class)

    go : (o : Option A) → asked_by map (meet_by name o s.sees next) ≡ meeting name o s.sees (map name) (λ class. asked_by map (next class))
    go (Some answer) = refl
    go None = look (map name)

-- ---- the steps of the questions

pub chain_again : {A : Type 0} (map : Map) (s : Search A) (left : ℕ) (so_far : List Class) (name : Name) → IsAgain left (names_of so_far) name → asked_by map (chain s left so_far name) ≡ ([], Bad (Cycle name))
unfolding chain
chain_again map s zero so_far name h = refl
chain_again map s (suc left) so_far name h = rw h refl

pub chain_enters : {A : Type 0} (map : Map) (s : Search A) (left : ℕ) (so_far : List Class) (name : Name) → is_listed name (names_of so_far) ≡ false → asked_by map (chain s (suc left) so_far name) ≡ meeting name (s.meets name) s.sees (map name) (λ class. asked_by map (on_to (so_far ++ (name, class.interfaces) ∷ []) class.super_name (chain s left)))
unfolding chain
chain_enters map s left so_far name h =
    rw h (asked_met map s name (λ class. on_to (so_far ++ (name, class.interfaces) ∷ []) class.super_name (chain s left)))

pub above_done : {A : Type 0} (map : Map) (s : Search A) (left : ℕ) (below so_far : List Name) → asked_by map (above s left below so_far []) ≡ ([], Went so_far)
unfolding above waiting
above_done map s zero below so_far = refl
above_done map s (suc left) below so_far = refl

pub above_again : {A : Type 0} (map : Map) (s : Search A) (left : ℕ) (below so_far : List Name) (name : Name) (rest : List Name) → IsAgain left below name → asked_by map (above s left below so_far (name ∷ rest)) ≡ ([], Bad (Cycle name))
unfolding above waiting
above_again map s zero below so_far name rest h = refl
above_again map s (suc left) below so_far name rest h = rw h refl

pub above_passed : {A : Type 0} (map : Map) (s : Search A) (left : ℕ) (below so_far : List Name) (name : Name) (rest : List Name) → is_listed name below ≡ false → is_listed name so_far ≡ true → asked_by map (above s (suc left) below so_far (name ∷ rest)) ≡ asked_by map (above s (suc left) below so_far rest)
unfolding above waiting
above_passed map s left below so_far name rest h met = rw (h, met) refl

pub above_enters : {A : Type 0} (map : Map) (s : Search A) (left : ℕ) (below so_far : List Name) (name : Name) (rest : List Name) → is_listed name below ≡ false → is_listed name so_far ≡ false → asked_by map (above s (suc left) below so_far (name ∷ rest)) ≡ meeting name (s.meets name) s.sees (map name) (λ class. asked_by map (went_then (above s left (name ∷ below) (so_far ++ name ∷ []) class.interfaces) (λ names. above s (suc left) below names rest)))
unfolding above waiting
above_enters map s left below so_far name rest h new =
    rw (h, new) (asked_met map s name (λ class. went_then (above s left (name ∷ below) (so_far ++ name ∷ []) class.interfaces) (λ names. above s (suc left) below names rest)))

pub fields_again : {A : Type 0} (map : Map) (s : Search A) (left : ℕ) (below so_far : List Name) (name : Name) → IsAgain left below name → asked_by map (fields s left below so_far name) ≡ ([], Bad (Cycle name))
unfolding fields
fields_again map s zero below so_far name h = refl
fields_again map s (suc left) below so_far name h = rw h refl

pub fields_enters : {A : Type 0} (map : Map) (s : Search A) (left : ℕ) (below so_far : List Name) (name : Name) → is_listed name below ≡ false → asked_by map (fields s (suc left) below so_far name) ≡ meeting name (s.meets name) s.sees (map name) (λ class. asked_by map (went_then (above s most (name ∷ below) (so_far ++ name ∷ []) class.interfaces) (λ names. on_to names class.super_name (fields s left (name ∷ below)))))
unfolding fields
fields_enters map s left below so_far name h =
    rw h (asked_met map s name (λ class. went_then (above s most (name ∷ below) (so_far ++ name ∷ []) class.interfaces) (λ names. on_to names class.super_name (fields s left (name ∷ below)))))
