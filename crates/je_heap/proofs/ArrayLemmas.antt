-- Descriptors of arrays, and many arrays one after the other.
use Rattle.std.proofs.Common.{◌≡◌, ℕ, zero, suc, ◌+◌, ◌-◌, ◌<◌, ◌≤◌, List, [], ◌∷◌, ◌++◌, refl, sym}
use Rattle.std.proofs.Common.{ap, ◌∙◌, append_assoc, append-nil, arith, length}
use Rattle.std.specs.Prelude.{replicate}
use Rattle.je_desc.specs.FieldType.{FieldType, descriptor}
use Rattle.je_machine.specs.Value.{Value}
use Rattle.je_machine.specs.Heap.{Heap, Making, make_many, make_array, make_object, component_of}
use Rattle.je_machine.specs.Heap as machine
use Rattle.je_value.specs.FieldType.{array_of}

pub descriptor_is : (n : ℕ) (t : FieldType)
    → descriptor (array_of n t) ≡ replicate n 91 ++ descriptor t
descriptor_is zero t = refl
descriptor_is (suc n) t = ap (λ d. 91 ∷ d) (descriptor_is n t)

-- so many more, behind what is made
abbrev pub later : Making Value → List Value → ℕ → Heap → List Value × Heap
later make made n heap =
    let rest = make_many make n heap in
    (made ++ rest.0, rest.1)

pub later_step : (make : Making Value) (made : List Value) (count i : ℕ) (heap : Heap) → i < count
    → later make made (count - i) heap
    ≡ later make (made ++ (make heap).0 ∷ []) (count - (i + 1)) (make heap).1
later_step make made count i heap h =
    let e : count - i ≡ suc (count - (i + 1)) = omega (arith, h) in
    let rest = make_many make (count - (i + 1)) (make heap).1 in
    ap (λ n. later make made n heap) e
    ∙ ap (λ (vs : List Value). (vs, rest.1))
    (sym (append_assoc made ((make heap).0 ∷ []) rest.0))

pub later_end : (make : Making Value) (made : List Value) (count i : ℕ) (heap : Heap) → count ≤ i
    → later make made (count - i) heap ≡ (made, heap)
later_end make made count i heap h =
    let e : count - i ≡ zero = omega (arith, h) in
    ap (λ n. later make made n heap) e ∙ ap (λ (vs : List Value). (vs, heap)) (append-nil made)

-- an array of arrays
pub outer_is : (t : FieldType) (size : ℕ) (rest sizes : List ℕ) (heap : Heap) → sizes ≡ size ∷ rest
    → 0 < length rest
    → make_array t sizes heap
    ≡ (let made = make_many (make_array (component_of t) rest) size heap in make_object
    (machine.Array (descriptor t) made.0) made.1)
outer_is t size [] sizes heap e h = absurd (omega (arith, h))
outer_is t size (next ∷ rest) sizes heap e h = ap (λ sizes. make_array t sizes heap) e

-- one more is made
pub later_on : (make : Making Value) (made next : List Value) (count i : ℕ) (heap after : Heap)
    (v : Value) (all : List Value × Heap) → i < count
    → (v, after) ≡ make heap → next ≡ made ++ v ∷ [] → all ≡ later make made (count - i) heap
    → all ≡ later make next (count - (i + 1)) after
later_on make made next count i heap after v all h one put e =
    e ∙ later_step make made count i heap h
    ∙ ap (λ (m : Value × Heap). later make (made ++ m.0 ∷ []) (count - (i + 1)) m.1) (sym one)
    ∙ ap (λ vs. later make vs (count - (i + 1)) after) (sym put)
