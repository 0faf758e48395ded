-- The class of a name among those that are kept.
use Rattle.std.proofs.Common.{◌≡◌, ℕ, zero, suc, ◌+◌, ◌<◌, Bool, true, cond, List, [], ◌∷◌, Some, length, drop, get_or, refl, sym, ◌∙◌, arith}
use Rattle.std.specs.List.{AllByRecursion}
use Rattle.std.specs.Prelude.{slice_get}
use Rattle.std.proofs.lemmas.List.{drop_more}
use Rattle.std.proofs.lemmas.List.Elements.{All-from_recursion}
use Rattle.je_base.specs.Text.{is_same_text}
use Rattle.je_class.specs.Class.{Class}
use Rattle.je_pool.specs.declared.node.Node.{Node}
use Rattle.je_pool.specs.Node.{classes_of, IsSummed}
use Rattle.je_pool.specs.Pool.{kept}

-- the first of the rest
pub kept_first : (name : List ℕ) (n : Node) (rest : List Class) (b : Bool) → IsSummed n → is_same_text n.summary.name name ≡ b → kept name (n.class ∷ rest) ≡ cond b (Some n.class) (kept name rest)
kept_first name n rest b summed test = rw (summed.summary.name, test) refl

-- a turn of the search
pub kept_turn : (name : List ℕ) (nodes : List Node) (i : ℕ) (d : Node) (b : Bool) → AllByRecursion IsSummed nodes → i < length nodes → is_same_text (get_or nodes i d).summary.name name ≡ b → kept name (classes_of (drop i nodes)) ≡ cond b (Some (get_or nodes i d).class) (kept name (classes_of (drop (i + 1) nodes)))
kept_turn name nodes i d b summed lt test =
    rw (drop_more nodes i d lt) (kept_first name (get_or nodes i d) (classes_of (drop (i + 1) nodes)) b (All-from_recursion IsSummed nodes summed i d lt) test)

-- the class of a node is that of its place
pub class_at_place : (nodes : List Node) (i : ℕ) (d : Node) → i < length nodes → slice_get (classes_of nodes) i ≡ Some (get_or nodes i d).class
class_at_place [] i d lt = absurd (omega (arith, lt))
class_at_place (n ∷ nodes) zero d lt = refl
class_at_place (n ∷ nodes) (suc i) d lt = class_at_place nodes i d (omega (arith, lt))

-- the first of the name is found
pub found_at : (name : List ℕ) (nodes : List Node) (i : ℕ) (d : Node) → AllByRecursion IsSummed nodes → i < length nodes → is_same_text (get_or nodes i d).summary.name name ≡ true → kept name (classes_of (drop i nodes)) ≡ kept name (classes_of nodes) → slice_get (classes_of nodes) i ≡ kept name (classes_of nodes)
found_at name nodes i d summed lt test left =
    class_at_place nodes i d lt ∙ sym (kept_turn name nodes i d true summed lt test) ∙ left
