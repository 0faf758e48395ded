-- Whether bytes are a name or a descriptor is decided, over all lists of bytes.
use Rattle.std.proofs.Common.{◌≡◌, ◌≢◌, ℕ, zero, suc, ◌+◌, ◌≤◌, ◌<◌, ◌⊎◌, inl, inr, cond, eqb, bit_and, Option, Some, None, List, [], ◌∷◌, ◌++◌, length, take, drop, refl, sym, ap, subst, arith, length-append}
use Rattle.std.specs.List.{AllByRecursion}
use Rattle.std.proofs.lemmas.Bool.{cases_lt}
use Rattle.std.proofs.lemmas.Bool.Decides.{eqb_tells}
use Rattle.std.proofs.lemmas.List.Elements.{All-from_recursion, recursion_from_All}
use Rattle.je_desc.specs.Names.{IsNameByte, IsClassName}
use Rattle.je_desc.specs.FieldType.{Byte, Char, Double, Float, Int, Long, Short, Boolean, FieldType, Base, Object, Array, descriptor}
use Rattle.je_desc.specs.Descriptor.{units_of, FieldDescriptor, MethodDescriptor, IsDescriptorOf}
use Rattle.je_desc.specs.Front.{IsBaseLetter, NameFront, FieldFront, ParamsFront, ReturnDescriptor}
use Rattle.je_desc.proofs.Descriptors.{field_of-front, front_of-field, of-return, return-void, return-field, method_of-front, front_of-method}
use Rattle.je_desc.proofs.FieldFronts.{IsLetter, letter_among, base_front, base_leaves, object_front, object_leaves, other_front, array_front, element_leaves, element_front, none_only}
use Rattle.je_desc.proofs.MethodFronts.{no_params, end_front, end_leaves, more_leaves, front_of-goes, step_front, step_leaves}
use Rattle.je_desc.proofs.NameFronts.{end_of, end_of-name, NameFront-end, end-NameFront}

abbrev pub Decided : Type 0 → Type 0
Decided P = P ⊎ (P → ⊥)

is_number : (m n : ℕ) → Decided (m ≡ n)
is_number m n = elim (eqb_tells m n) [ inl same ↦ inl same.1 | inr other ↦ inr other.1 ]

no_number : (m n : ℕ) → Decided (m ≢ n)
no_number m n = elim (is_number m n) [ inl same ↦ inr (λ other. other same) | inr other ↦ inl other ]

no_more : (m n : ℕ) → Decided (m ≤ n)
no_more m n = elim (cases_lt n m) [ inl more ↦ inr (λ h. omega arith) | inr h ↦ inl h ]

both : {P Q : Type 0} → Decided P → Decided Q → Decided (P × Q)
both (inl p) (inl q) = inl (p, q)
both (inl p) (inr q) = inr (λ h. q h.1)
both (inr p) q = inr (λ h. p h.0)

either : {P Q : Type 0} → Decided P → Decided Q → Decided (P ⊎ Q)
either (inl p) q = inl (inl p)
either (inr p) (inl q) = inl (inr q)
either (inr p) (inr q) = inr (λ h. elim h [ inl x ↦ p x | inr y ↦ q y ])

by_both : {P Q : Type 0} → (P → Q) → (Q → P) → Decided P → Decided Q
by_both to from (inl p) = inl (to p)
by_both to from (inr p) = inr (λ q. p (from q))

-- ---- names

name_byte : (b : ℕ) → Decided (IsNameByte b)
name_byte b =
    elim (no_number b 46) [
      | inr dot ↦ inr (λ h. dot h.0)
      | inl a ↦ elim (both (no_number b 59) (no_number b 91)) [ inl h ↦ inl (a, h.0, h.1) | inr other ↦ inr (λ h. other (h.1, h.2)) ]
    ]

name_bytes : (name : List ℕ) → Decided (AllByRecursion IsNameByte name)
name_bytes [] = inl tt
name_bytes (b ∷ name) = both (name_byte b) (name_bytes name)

some_bytes : (name : List ℕ) → Decided (name ≢ [])
some_bytes [] = inr (λ h. h refl)
some_bytes (b ∷ name) = inl (λ e. cc)

pub class_name : (name : List ℕ) → Decided (IsClassName name)
class_name name =
    both (some_bytes name) (by_both (All-from_recursion IsNameByte name) (recursion_from_All IsNameByte name) (name_bytes name))

-- ---- what stands at the front

-- one rest comes after it, or it does not stand there
abbrev OneFront : (List ℕ → Type 0) → Type 0
OneFront Front = ((rest : List ℕ) × Front rest × ((x : List ℕ) → Front x → rest ≡ x)) ⊎ ((x : List ℕ) → Front x → ⊥)

front_by : {P Q : List ℕ → Type 0} → ((x : List ℕ) → P x → Q x) → ((x : List ℕ) → Q x → P x) → OneFront P → OneFront Q
front_by to from (inl h) = inl (h.0, to h.0 h.1, λ x q. h.2 x (from x q))
front_by to from (inr none) = inr (λ x q. none x (from x q))

name_front_by : (bytes : List ℕ) (end : Option ℕ) → end_of bytes ≡ end → OneFront (NameFront bytes)
name_front_by bytes None e = inr (λ x front. absurd (cc (end_of-name bytes x front, e)))
name_front_by bytes (Some i) e =
    elim (class_name (take i bytes)) [
      | inl named ↦ inl (drop (i + 1) bytes, NameFront-end bytes i e named, λ x front. (end-NameFront bytes x i e front).1)
      | inr other ↦ inr (λ x front. other (end-NameFront bytes x i e front).0)
    ]

name_front : (bytes : List ℕ) → OneFront (NameFront bytes)
name_front bytes = name_front_by bytes (end_of bytes) refl

among_letter : (b : ℕ) → IsBaseLetter b → IsLetter b
among_letter b (Byte, e) = inl e
among_letter b (Char, e) = inr (inl e)
among_letter b (Double, e) = inr (inr (inl e))
among_letter b (Float, e) = inr (inr (inr (inl e)))
among_letter b (Int, e) = inr (inr (inr (inr (inl e))))
among_letter b (Long, e) = inr (inr (inr (inr (inr (inl e)))))
among_letter b (Short, e) = inr (inr (inr (inr (inr (inr (inl e))))))
among_letter b (Boolean, e) = inr (inr (inr (inr (inr (inr (inr e))))))

base_letter : (b : ℕ) → Decided (IsBaseLetter b)
base_letter b = by_both (letter_among b) (among_letter b) (either (is_number b 66) (either (is_number b 67) (either (is_number b 68) (either (is_number b 70) (either (is_number b 73) (either (is_number b 74) (either (is_number b 83) (is_number b 90))))))))

element : (bytes : List ℕ) → OneFront (FieldFront 255 bytes)
element [] = inr (λ x front. none_only front.type x front.whole)
element (b ∷ rest) =
    elim (base_letter b) [
      | inl base ↦ inl (rest, base_front (b ∷ rest) b rest refl base, λ x front. base_leaves (b ∷ rest) b rest refl x base front)
      | inr base ↦ elim (is_number b 76) [
        | inl object ↦ front_by (λ x front. object_front (b ∷ rest) b rest refl x object front) (λ x front. object_leaves (b ∷ rest) b rest refl x object front) (name_front rest)
        | inr object ↦ inr (λ x front. other_front (b ∷ rest) b rest refl x base object front)
      ]
    ]

field_front : (bytes : List ℕ) (read : ℕ) → read ≤ 255 → OneFront (FieldFront read bytes)
field_front [] read most = inr (λ x front. none_only front.type x front.whole)
field_front (b ∷ rest) read most =
    elim (is_number b 91) [
      | inr array ↦ front_by (λ x front. element_front read (b ∷ rest) x most front) (λ x front. element_leaves (b ∷ rest) b rest refl read x array front) (element (b ∷ rest))
      | inl array ↦ elim (cases_lt read 255) [
        | inl less ↦ front_by (λ x front. (array_front (b ∷ rest) b rest refl read x array).0 front) (λ x front. (array_front (b ∷ rest) b rest refl read x array).1 front) (field_front rest (read + 1) (omega arith))
        | inr all ↦ inr (λ x front. let left = (array_front (b ∷ rest) b rest refl read x array).1 front in omega (arith, left.within))
      ]
    ]

nothing_left : (bytes : List ℕ) → OneFront (FieldFront 0 bytes) → Decided (FieldDescriptor bytes)
nothing_left bytes (inl ([], front, only)) = inl (field_of-front bytes [] refl front)
nothing_left bytes (inl (b ∷ rest, front, only)) = inr (λ field. let e = only [] (front_of-field bytes field) in absurd cc)
nothing_left bytes (inr none) = inr (λ field. none [] (front_of-field bytes field))

pub field : (bytes : List ℕ) → Decided (FieldDescriptor bytes)
field bytes = nothing_left bytes (field_front bytes 0 (omega arith))

-- ---- methods

-- the units of a parameter, by its first byte
units_at : ℕ → ℕ
units_at b = cond (eqb b 74) 2 (cond (eqb b 68) 2 1)

width : (b : ℕ) (t : FieldType) (x y : List ℕ) → b ∷ x ≡ descriptor t ++ y → units_at b ≡ units_of t
unfolding units_at
width b (Base Byte) x y e = let first : b ≡ 66 = cc in ap units_at first
width b (Base Char) x y e = let first : b ≡ 67 = cc in ap units_at first
width b (Base Double) x y e = let first : b ≡ 68 = cc in ap units_at first
width b (Base Float) x y e = let first : b ≡ 70 = cc in ap units_at first
width b (Base Int) x y e = let first : b ≡ 73 = cc in ap units_at first
width b (Base Long) x y e = let first : b ≡ 74 = cc in ap units_at first
width b (Base Short) x y e = let first : b ≡ 83 = cc in ap units_at first
width b (Base Boolean) x y e = let first : b ≡ 90 = cc in ap units_at first
width b (Object name) x y e = let first : b ≡ 76 = cc in ap units_at first
width b (Array component) x y e = let first : b ≡ 91 = cc in ap units_at first

-- parameters of one number of units, and one rest, or there are none
abbrev OneParams : List ℕ → Type 0
OneParams bytes = ((n : ℕ) × (rest : List ℕ) × ParamsFront bytes n rest × ((m : ℕ) (x : List ℕ) → ParamsFront bytes m x → (n ≡ m) × (rest ≡ x))) ⊎ ((m : ℕ) (x : List ℕ) → ParamsFront bytes m x → ⊥)

shorter : (t : FieldType) (bytes rest : List ℕ) → bytes ≡ descriptor t ++ rest → length rest < length bytes
shorter (Base base) bytes rest e = omega (arith, ap length e)
shorter (Object name) bytes rest e = omega (arith, ap length e, length-append (name ++ 59 ∷ []) rest)
shorter (Array component) bytes rest e = omega (arith, ap length e, length-append (descriptor component) rest)

params : (fuel : ℕ) (bytes : List ℕ) → length bytes ≤ fuel → OneParams bytes
params fuel [] within = inr (λ m x front. no_params [] m x (omega arith) front)
params zero (b ∷ rest) within = absurd (omega arith)
params (suc fuel) (b ∷ rest) within =
    elim (is_number b 41) [
      | inl ends ↦ inl (0, rest, end_front (b ∷ rest) b rest refl ends, λ m x front. let same = end_leaves (b ∷ rest) b rest refl m x ends front in (sym same.0, same.1))
      | inr more ↦ elim (field_front (b ∷ rest) 0 (omega arith)) [
        | inr none ↦ inr (λ m x front. let goes = more_leaves (b ∷ rest) b rest refl m x more front in none goes.after (front_of-goes (b ∷ rest) m x goes))
        | inl one ↦
            let less = shorter one.1.type (b ∷ rest) one.0 one.1.whole in
            elim (params fuel one.0 (omega (arith, less, within))) [
              | inl others ↦ inl (
                units_at b + others.0,
                others.1,
                step_front (b ∷ rest) b rest one.0 (units_at b) refl (width b) one.1 others.0 others.1 others.2,
                λ m x front.
                    let left = step_leaves (b ∷ rest) b rest one.0 (units_at b) refl (width b) more one.2 m x front in
                    let same = others.3 left.0 x left.2 in
                    (omega (arith, left.1, same.0), same.1),
              )
              | inr none ↦ inr (λ m x front. let left = step_leaves (b ∷ rest) b rest one.0 (units_at b) refl (width b) more one.2 m x front in none left.0 x left.2)
            ]
      ]
    ]

is_void : (bytes : List ℕ) → Decided (bytes ≡ 86 ∷ [])
is_void [] = inr (λ e. cc)
is_void (b ∷ []) = by_both (λ e. ap (λ (n : ℕ). n ∷ []) e) (λ e. cc) (is_number b 86)
is_void (b ∷ c ∷ rest) = inr (λ e. cc)

returned : (bytes : List ℕ) → Decided (ReturnDescriptor bytes)
returned bytes =
    by_both (λ h. elim h [ inl void ↦ return-void bytes void | inr type ↦ return-field bytes type ]) (of-return bytes) (either (is_void bytes) (field bytes))

-- the parameters' units are of one number, or there is no method descriptor
abbrev OneMethod : List ℕ → Type 0
OneMethod bytes = ((n : ℕ) × MethodDescriptor bytes n × ((m : ℕ) → MethodDescriptor bytes m → n ≡ m)) ⊎ ((m : ℕ) → MethodDescriptor bytes m → ⊥)

one_method : (bytes : List ℕ) → OneMethod bytes
one_method [] = inr (λ m method. absurd cc)
one_method (b ∷ rest) =
    elim (params (length rest) rest (omega arith)) [
      | inr none ↦ inr (λ m method. let front = front_of-method (b ∷ rest) b rest m refl method in none m front.2 front.3)
      | inl one ↦ elim (both (is_number b 40) (both (no_more one.0 255) (returned one.1))) [
        | inl h ↦ inl (
          one.0,
          method_of-front (b ∷ rest) b rest one.0 one.1 refl h.0 h.1.0 one.2 h.1.1,
          λ m method. let front = front_of-method (b ∷ rest) b rest m refl method in (one.3 m front.2 front.3).0,
        )
        | inr other ↦ inr (λ m method.
            let front = front_of-method (b ∷ rest) b rest m refl method in
            let same = one.3 m front.2 front.3 in
            other (front.0, (omega (arith, same.0, front.1), subst ReturnDescriptor (sym same.1) front.4)))
      ]
    ]

allowed : (access : ℕ) (bytes : List ℕ) → OneMethod bytes → Decided (IsDescriptorOf access bytes)
allowed access bytes (inr none) = inr (λ h. none h.0 h.1)
allowed access bytes (inl one) =
    by_both (λ h. (one.0, one.1, h)) (λ h. elim h.2 [ inl static ↦ inl static | inr room ↦ let same = one.2 h.0 h.1 in inr (omega (arith, same, room)) ])
    (either (no_number (bit_and access 8) 0) (no_more (one.0 + 1) 255))

pub method : (access : ℕ) (bytes : List ℕ) → Decided (IsDescriptorOf access bytes)
method access bytes = allowed access bytes (one_method bytes)
