-- An index by which methods are found.
use Rattle.std.specs.Prelude.{ℕ, List, Option, IfSome, IfNone, All, option_and_then}
use Rattle.indexmap.specs.IndexMap.{get}
use Rattle.je_base.specs.Text.{is_same_text}
use Rattle.je_class.specs.declared.method_index.MethodIndex.{MethodIndex}
use Rattle.je_class.specs.Class.{Class, IsNamed, IsMethodAt}

-- what the index answers for a name and a descriptor
abbrev pub answer : MethodIndex → List ℕ → List ℕ → Option ℕ
answer index name descriptor =
    option_and_then (λ places. get is_same_text places descriptor)
    (get is_same_text index.by_name name)

-- the place of the first such method of the class, and none where it has none
pub record Finds (c : Class) (found : List ℕ → List ℕ → Option ℕ) : Type 0 where
  pub first : (name descriptor : List ℕ)
      → IfSome (found name descriptor) (IsMethodAt c name descriptor)
  pub none : (name descriptor : List ℕ)
      → IfNone (found name descriptor) (All (λ m. IsNamed c.consts name descriptor m → ⊥) c.methods)

-- the index answers so for each name and descriptor
abbrev pub IsIndexOf : Class → MethodIndex → Type 0
IsIndexOf c index = Finds c (answer index)
