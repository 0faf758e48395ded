-- Shapes as they are answered: of those that say the same, one.
use Rattle.std.specs.Prelude.{ℕ, List, [], ◌∷◌}
use Rattle.std.specs.List.{AllByRecursion}
use Rattle.std.specs.List.Sorted.{IsStrictlySortedBy}
use Rattle.std.specs.Cmp.Lexicographic.{slice_cmp}
use Rattle.std.specs.Ordering.{nat_cmp}
use Rattle.je_shape.specs.Slot.{Slot, Top, Reference}
use Rattle.je_shape.specs.Shape.{Shape, Known, Has}

-- names in order of their bytes, each once
abbrev pub IsCanonicalNames : List (List ℕ) → Type 0
IsCanonicalNames names = IsStrictlySortedBy (slice_cmp nat_cmp) names

abbrev pub IsCanonicalSlot : Slot → Type 0
IsCanonicalSlot (Reference names) = IsCanonicalNames names
IsCanonicalSlot _ = Unit {0}

abbrev pub IsNotTop : Slot → Type 0
IsNotTop Top = ⊥
IsNotTop _ = Unit {0}

-- the last one is not Top
abbrev pub EndsInSlot : List Slot → Type 0
EndsInSlot [] = Unit {0}
EndsInSlot (last ∷ []) = IsNotTop last
EndsInSlot (first ∷ second ∷ rest) = EndsInSlot (second ∷ rest)

pub record IsCanonicalShape (s : Shape) : Type 0 where
  pub stack : AllByRecursion IsCanonicalSlot s.stack
  pub locals : AllByRecursion IsCanonicalSlot s.locals
  pub last : EndsInSlot s.locals

abbrev pub IsCanonical : Known → Type 0
IsCanonical (Has s) = IsCanonicalShape s
IsCanonical _ = Unit {0}
