-- Types of arrays, and the type that a class names.
use Rattle.std.proofs.Common.{◌≡◌, ℕ, zero, suc, ◌+◌, ◌≤◌, List, refl, arith, add-one}
use Rattle.je_desc.specs.FieldType.{FieldType, Object, Array, dimensions}
use Rattle.je_desc.specs.Names.{IsClassName}
use Rattle.je_instr.specs.Allowed.{NamesType}
use Rattle.je_instr.proofs.OperationLemmas.{one_class}
use Rattle.je_value.specs.FieldType.{array_of}

dimensions_of : (n : ℕ) (t : FieldType) → dimensions (array_of n t) ≡ n + dimensions t
dimensions_of zero t = omega arith
dimensions_of (suc n) t = let e = dimensions_of n t in omega arith

-- an array has no more dimensions than its type says
pub dimensions_within : (n : ℕ) (t : FieldType) → dimensions (array_of n t) ≤ 255 → n ≤ 255
dimensions_within n t h = let e = dimensions_of n t in omega arith

pub one_more : (n : ℕ) (t : FieldType) → array_of (n + 1) t ≡ Array (array_of n t)
one_more n t = rw (add-one n) refl

-- a class that is no array names its own type
pub own_type : (text : List ℕ) (t : FieldType) → IsClassName text → NamesType text t → t ≡ Object text
own_type text t is names = one_class text t (Object text) names (is, refl)
