-- The short form of each instruction is read as that instruction.
use Rattle.std.proofs.Common.{◌≡◌, ℕ, zero, suc, ◌+◌, ◌^◌, ◌<◌, ◌≤◌, Bool, true, false, cond}
use Rattle.std.proofs.Common.{nat_lt, nat_le, nat_eq, ◌&&◌, List, [], ◌∷◌, ◌++◌, length, get_or}
use Rattle.std.proofs.Common.{is_some, Ok, Err, ℤ, pos, negsuc, ◌+ℤ◌, FitsSigned, refl, ap, subst}
use Rattle.std.proofs.Common.{◌∙◌, arith}
use Rattle.std.specs.List.{AllByRecursion}
use Rattle.std.specs.Int.{w8, w16, cast_unsigned}
use Rattle.std.proofs.lemmas.Bool.{leb-true}
use Rattle.je_base.specs.Bytes.{u1, u2}
use Rattle.je_instr.specs.declared.fault.CodeFault.TheVariants.{CutShort, BadOperand}
use Rattle.je_instr.specs.declared.instr.Instr.{Instr}
use Rattle.je_instr.specs.declared.instr.Instr.TheVariants.{IntPush, Ldc, Local, Iinc, Branch, Goto}
use Rattle.je_instr.specs.declared.instr.Instr.TheVariants.{InvokeInterface, InvokeDynamic}
use Rattle.je_instr.specs.declared.instr.Instr.TheVariants.{NewArray, MultiNew}
use Rattle.je_instr.specs.declared.opcodes.TheConstants as op
use Rattle.je_instr.specs.Opcodes.{beside, local_operations, conditions}
use Rattle.je_instr.specs.Forms.{u1_at, u2_at, s1_at, s2_at, near, size_of, push_form, local_form}
use Rattle.je_instr.specs.Forms.{jump_form, member_form, fixed_form, sized, wide_form, form_at}
use Rattle.je_instr.specs.Shortest.{s1, s2, is_from, push_bytes, push_size, with_slot, local_bytes}
use Rattle.je_instr.specs.Shortest.{local_size, is_narrow, iinc_bytes, iinc_size, ldc_bytes}
use Rattle.je_instr.specs.Shortest.{ldc_size, distance}
use Rattle.je_instr.proofs.HoldLemmas.{Holds, holds_front, holds_back, holds_tail, byte_there}
use Rattle.je_instr.proofs.HoldLemmas.{two_there, signed_1_there, signed_2_there, near_there}
use Rattle.je_instr.proofs.OpcodeFormLemmas.{form_by, wide_by, ok, not_less, other, form_is}
use Rattle.je_instr.proofs.OpcodeFormLemmas.{wide_is, enough, rows, indexed, ldc_w_form}

-- ---- constants

bytes_fit : (n : ℤ) → is_from (negsuc 127) (pos 127) n ≡ true → FitsSigned w8 n
bytes_fit (pos k) e = record { sfits = let le = leb-true k 127 e in omega (arith, le) }
bytes_fit (negsuc k) e = record { sfits = let le = leb-true k 127 (first (nat_le k 127) true e) in omega (arith, le) } where
  first : (a b : Bool) → (a && b) ≡ true → a ≡ true
  first true b e = refl
  first false b e = absurd cc

-- the seven numbers that have an opcode
seven : (P : ℤ → Type 0) → P (negsuc 0) → P (pos 0) → P (pos 1) → P (pos 2) → P (pos 3) → P (pos 4) → P (pos 5) → (n : ℤ) → is_from (negsuc 0) (pos 5) n ≡ true → P n
seven P m a b c d f g (pos zero) e = a
seven P m a b c d f g (pos (suc zero)) e = b
seven P m a b c d f g (pos (suc (suc zero))) e = c
seven P m a b c d f g (pos (suc (suc (suc zero)))) e = d
seven P m a b c d f g (pos (suc (suc (suc (suc zero))))) e = f
seven P m a b c d f g (pos (suc (suc (suc (suc (suc zero)))))) e = g
seven P m a b c d f g (pos (suc (suc (suc (suc (suc (suc k))))))) e = let le = leb-true (suc (suc (suc (suc (suc (suc k)))))) 5 e in absurd (omega (arith, le))
seven P m a b c d f g (negsuc zero) e = m
seven P m a b c d f g (negsuc (suc k)) e = let le = leb-true (suc k) 0 (first (nat_le (suc k) 0) true e) in absurd (omega (arith, le)) where
  first : (a b : Bool) → (a && b) ≡ true → a ≡ true
  first true b e = refl
  first false b e = absurd cc

abbrev IsConstForm : ℤ → Type 0
IsConstForm n = (code : List ℕ) (at : ℕ) → form_by (cast_unsigned w8 (pos op.ICONST_0 +ℤ n)) code at ≡ sized code at 1 (Ok (IntPush n))

const_form : (n : ℤ) → is_from (negsuc 0) (pos 5) n ≡ true → IsConstForm n
unfolding size_of fixed_form push_form
const_form n e = seven IsConstForm (λ code at. refl) (λ code at. refl) (λ code at. refl) (λ code at. refl) (λ code at. refl) (λ code at. refl) (λ code at. refl) n e

bipush_form : (code : List ℕ) (at : ℕ) → form_by op.BIPUSH code at ≡ sized code at 2 (Ok (IntPush (s1_at code (at + 1))))
unfolding size_of fixed_form push_form
bipush_form code at = refl

sipush_form : (code : List ℕ) (at : ℕ) → form_by op.SIPUSH code at ≡ sized code at 3 (Ok (IntPush (s2_at code (at + 1))))
unfolding size_of fixed_form push_form
sipush_form code at = refl

ldc_form : (code : List ℕ) (at : ℕ) → form_by op.LDC code at ≡ sized code at 2 (Ok (Ldc (u1_at code (at + 1))))
unfolding size_of fixed_form push_form
ldc_form code at = refl

module _ (code : List ℕ) (at : ℕ) where
  const_there : (n : ℤ) → is_from (negsuc 0) (pos 5) n ≡ true → Holds code at (u1 (cast_unsigned w8 (pos op.ICONST_0 +ℤ n))) → form_at code at ≡ ok (IntPush n) (at + 1)
  const_there n e h =
      let opcode = cast_unsigned w8 (pos op.ICONST_0 +ℤ n) in
      form_is code at opcode (byte_there code at opcode [] h) ∙ const_form n e code at ∙ enough code at 1 (IntPush n) h.within

  bipush_there : (n : ℤ) → is_from (negsuc 127) (pos 127) n ≡ true → Holds code at (op.BIPUSH ∷ s1 n) → form_at code at ≡ ok (IntPush n) (at + 2)
  bipush_there n e h =
      form_is code at op.BIPUSH (byte_there code at op.BIPUSH (s1 n) h)
      ∙ bipush_form code at
      ∙ ap (λ (z : ℤ). sized code at 2 (Ok (IntPush z))) (signed_1_there code (at + 1) n [] (bytes_fit n e) (holds_tail code at op.BIPUSH (s1 n) h))
      ∙ enough code at 2 (IntPush n) h.within

  sipush_there : (n : ℤ) → FitsSigned w16 n → Holds code at (op.SIPUSH ∷ s2 n) → form_at code at ≡ ok (IntPush n) (at + 3)
  sipush_there n fits h =
      form_is code at op.SIPUSH (byte_there code at op.SIPUSH (s2 n) h)
      ∙ sipush_form code at
      ∙ ap (λ (z : ℤ). sized code at 3 (Ok (IntPush z))) (signed_2_there code (at + 1) n fits (holds_tail code at op.SIPUSH (s2 n) h))
      ∙ enough code at 3 (IntPush n) h.within

  pub push_there : (n : ℤ) → FitsSigned w16 n → Holds code at (push_bytes n) → form_at code at ≡ ok (IntPush n) (at + push_size n)
  unfolding push_bytes push_size
  push_there n fits h = by_opcode (is_from (negsuc 0) (pos 5) n) refl h where
    by_byte : (b : Bool) → is_from (negsuc 127) (pos 127) n ≡ b
        → Holds code at (cond b (op.BIPUSH ∷ s1 n) (op.SIPUSH ∷ s2 n)) → form_at code at ≡ ok (IntPush n) (at + cond b 2 3)
    by_byte true e there = bipush_there n e there
    by_byte false e there = sipush_there n fits there

    by_opcode : (b : Bool) → is_from (negsuc 0) (pos 5) n ≡ b
        → Holds code at (cond b (u1 (cast_unsigned w8 (pos op.ICONST_0 +ℤ n))) (cond (is_from (negsuc 127) (pos 127) n) (op.BIPUSH ∷ s1 n) (op.SIPUSH ∷ s2 n)))
        → form_at code at ≡ ok (IntPush n) (at + cond b 1 (cond (is_from (negsuc 127) (pos 127) n) 2 3))
    by_opcode true e there = const_there n e there
    by_opcode false e there = by_byte (is_from (negsuc 127) (pos 127) n) refl there

  pub ldc_there : (index : ℕ) → index < 2 ^ 16 → Holds code at (ldc_bytes index) → form_at code at ≡ ok (Ldc index) (at + ldc_size index)
  unfolding ldc_bytes ldc_size
  ldc_there index lt h = by_byte (nat_le index 255) h where
    by_byte : (b : Bool) → Holds code at (cond b (op.LDC ∷ u1 index) (op.LDC_W ∷ u2 index)) → form_at code at ≡ ok (Ldc index) (at + cond b 2 3)
    by_byte true there =
        form_is code at op.LDC (byte_there code at op.LDC (u1 index) there)
        ∙ ldc_form code at
        ∙ ap (λ (n : ℕ). sized code at 2 (Ok (Ldc n))) (byte_there code (at + 1) index [] (holds_tail code at op.LDC (u1 index) there))
        ∙ enough code at 2 (Ldc index) there.within
    by_byte false there = indexed op.LDC_W Ldc ldc_w_form code at index lt there

-- ---- local variables

-- the forms of one opcode
record AreLocalForms (opcode : ℕ) : Type 0 where
  short : (slot : ℕ) → slot ≤ 3 → (code : List ℕ) (at : ℕ) → form_by (with_slot opcode slot) code at ≡ sized code at 1 (Ok (Local opcode slot))
  long : (code : List ℕ) (at : ℕ) → form_by opcode code at ≡ sized code at 2 (Ok (Local opcode (u1_at code (at + 1))))
  wide : (code : List ℕ) (at : ℕ) → wide_by opcode code at ≡ cond (nat_lt (length code) (at + 2)) (Err (CutShort at)) (sized code at 4 (Ok (Local opcode (u2_at code (at + 2)))))

four : (P : ℕ → Type 0) → P 0 → P 1 → P 2 → P 3 → (n : ℕ) → n ≤ 3 → P n
four P a b c d zero le = a
four P a b c d (suc zero) le = b
four P a b c d (suc (suc zero)) le = c
four P a b c d (suc (suc (suc zero))) le = d
four P a b c d (suc (suc (suc (suc k)))) le = absurd (omega (arith, le))

local_row_21 : AreLocalForms 21
unfolding with_slot size_of fixed_form push_form local_form
local_row_21 = record {
  short = four (λ (slot : ℕ). (code : List ℕ) (at : ℕ) → form_by (with_slot 21 slot) code at ≡ sized code at 1 (Ok (Local 21 slot))) (λ code at. refl) (λ code at. refl) (λ code at. refl) (λ code at. refl);
  long = λ code at. refl;
  wide = λ code at. refl;
}

local_row_22 : AreLocalForms 22
unfolding with_slot size_of fixed_form push_form local_form
local_row_22 = record {
  short = four (λ (slot : ℕ). (code : List ℕ) (at : ℕ) → form_by (with_slot 22 slot) code at ≡ sized code at 1 (Ok (Local 22 slot))) (λ code at. refl) (λ code at. refl) (λ code at. refl) (λ code at. refl);
  long = λ code at. refl;
  wide = λ code at. refl;
}

local_row_23 : AreLocalForms 23
unfolding with_slot size_of fixed_form push_form local_form
local_row_23 = record {
  short = four (λ (slot : ℕ). (code : List ℕ) (at : ℕ) → form_by (with_slot 23 slot) code at ≡ sized code at 1 (Ok (Local 23 slot))) (λ code at. refl) (λ code at. refl) (λ code at. refl) (λ code at. refl);
  long = λ code at. refl;
  wide = λ code at. refl;
}

local_row_24 : AreLocalForms 24
unfolding with_slot size_of fixed_form push_form local_form
local_row_24 = record {
  short = four (λ (slot : ℕ). (code : List ℕ) (at : ℕ) → form_by (with_slot 24 slot) code at ≡ sized code at 1 (Ok (Local 24 slot))) (λ code at. refl) (λ code at. refl) (λ code at. refl) (λ code at. refl);
  long = λ code at. refl;
  wide = λ code at. refl;
}

local_row_25 : AreLocalForms 25
unfolding with_slot size_of fixed_form push_form local_form
local_row_25 = record {
  short = four (λ (slot : ℕ). (code : List ℕ) (at : ℕ) → form_by (with_slot 25 slot) code at ≡ sized code at 1 (Ok (Local 25 slot))) (λ code at. refl) (λ code at. refl) (λ code at. refl) (λ code at. refl);
  long = λ code at. refl;
  wide = λ code at. refl;
}

local_row_54 : AreLocalForms 54
unfolding with_slot size_of fixed_form push_form local_form
local_row_54 = record {
  short = four (λ (slot : ℕ). (code : List ℕ) (at : ℕ) → form_by (with_slot 54 slot) code at ≡ sized code at 1 (Ok (Local 54 slot))) (λ code at. refl) (λ code at. refl) (λ code at. refl) (λ code at. refl);
  long = λ code at. refl;
  wide = λ code at. refl;
}

local_row_55 : AreLocalForms 55
unfolding with_slot size_of fixed_form push_form local_form
local_row_55 = record {
  short = four (λ (slot : ℕ). (code : List ℕ) (at : ℕ) → form_by (with_slot 55 slot) code at ≡ sized code at 1 (Ok (Local 55 slot))) (λ code at. refl) (λ code at. refl) (λ code at. refl) (λ code at. refl);
  long = λ code at. refl;
  wide = λ code at. refl;
}

local_row_56 : AreLocalForms 56
unfolding with_slot size_of fixed_form push_form local_form
local_row_56 = record {
  short = four (λ (slot : ℕ). (code : List ℕ) (at : ℕ) → form_by (with_slot 56 slot) code at ≡ sized code at 1 (Ok (Local 56 slot))) (λ code at. refl) (λ code at. refl) (λ code at. refl) (λ code at. refl);
  long = λ code at. refl;
  wide = λ code at. refl;
}

local_row_57 : AreLocalForms 57
unfolding with_slot size_of fixed_form push_form local_form
local_row_57 = record {
  short = four (λ (slot : ℕ). (code : List ℕ) (at : ℕ) → form_by (with_slot 57 slot) code at ≡ sized code at 1 (Ok (Local 57 slot))) (λ code at. refl) (λ code at. refl) (λ code at. refl) (λ code at. refl);
  long = λ code at. refl;
  wide = λ code at. refl;
}

local_row_58 : AreLocalForms 58
unfolding with_slot size_of fixed_form push_form local_form
local_row_58 = record {
  short = four (λ (slot : ℕ). (code : List ℕ) (at : ℕ) → form_by (with_slot 58 slot) code at ≡ sized code at 1 (Ok (Local 58 slot))) (λ code at. refl) (λ code at. refl) (λ code at. refl) (λ code at. refl);
  long = λ code at. refl;
  wide = λ code at. refl;
}

local_rows : AllByRecursion (λ (row : ℕ × _). AreLocalForms row.0) local_operations
unfolding local_operations with_slot size_of fixed_form push_form local_form
local_rows = (
  local_row_21,
  (
    local_row_22,
    (
      local_row_23,
      (
        local_row_24,
        (
          local_row_25,
          (
            local_row_54,
            (
              local_row_55,
              (
                local_row_56,
                (
                  local_row_57,
                  (local_row_58, tt),
                ),
              ),
            ),
          ),
        ),
      ),
    ),
  ),
)

wide_form_is : (code : List ℕ) (at : ℕ) → form_by op.WIDE code at ≡ wide_form code at
wide_form_is code at = refl

module _ (code : List ℕ) (at : ℕ) where
  pub moved : (m n : ℕ) (part : List ℕ) → m ≡ n → Holds code m part → Holds code n part
  moved m n part e h = subst (λ (k : ℕ). Holds code k part) e h

  wide_local : (opcode slot : ℕ) → AreLocalForms opcode → slot < 2 ^ 16 → Holds code at (op.WIDE ∷ opcode ∷ u2 slot) → form_at code at ≡ ok (Local opcode slot) (at + 4)
  wide_local opcode slot forms lt h =
      let tail = holds_tail code at op.WIDE (opcode ∷ u2 slot) h in
      let operand = moved (at + 1 + 1) (at + 2) (u2 slot) (omega arith) (holds_tail code (at + 1) opcode (u2 slot) tail) in
      let within = h.within in
      form_is code at op.WIDE (byte_there code at op.WIDE (opcode ∷ u2 slot) h)
      ∙ wide_form_is code at
      ∙ wide_is code at opcode (byte_there code (at + 1) opcode (u2 slot) tail)
      ∙ forms.wide code at
      ∙ other (nat_lt (length code) (at + 2)) (Err (CutShort at)) (sized code at 4 (Ok (Local opcode (u2_at code (at + 2))))) (not_less (length code) (at + 2) (omega (arith, within)))
      ∙ ap (λ (n : ℕ). sized code at 4 (Ok (Local opcode n))) (two_there code (at + 2) slot lt operand)
      ∙ enough code at 4 (Local opcode slot) within

  pub local_there : (opcode slot : ℕ) → is_some (beside local_operations opcode) ≡ true → slot < 2 ^ 16 → Holds code at (local_bytes opcode slot) → form_at code at ≡ ok (Local opcode slot) (at + local_size slot)
  unfolding local_bytes local_size
  local_there opcode slot some lt h = by_opcode (nat_le slot 3) refl h (rows AreLocalForms local_operations local_rows opcode some) where
    by_byte : (b : Bool) → Holds code at (cond b (opcode ∷ u1 slot) (op.WIDE ∷ opcode ∷ u2 slot)) → AreLocalForms opcode → form_at code at ≡ ok (Local opcode slot) (at + cond b 2 4)
    by_byte true there forms =
        form_is code at opcode (byte_there code at opcode (u1 slot) there)
        ∙ forms.long code at
        ∙ ap (λ (n : ℕ). sized code at 2 (Ok (Local opcode n))) (byte_there code (at + 1) slot [] (holds_tail code at opcode (u1 slot) there))
        ∙ enough code at 2 (Local opcode slot) there.within
    by_byte false there forms = wide_local opcode slot forms lt there

    by_opcode : (b : Bool) → nat_le slot 3 ≡ b
        → Holds code at (cond b (u1 (with_slot opcode slot)) (cond (nat_le slot 255) (opcode ∷ u1 slot) (op.WIDE ∷ opcode ∷ u2 slot)))
        → AreLocalForms opcode → form_at code at ≡ ok (Local opcode slot) (at + cond b 1 (cond (nat_le slot 255) 2 4))
    by_opcode true e there forms =
        form_is code at (with_slot opcode slot) (byte_there code at (with_slot opcode slot) [] there)
        ∙ forms.short slot (leb-true slot 3 e) code at
        ∙ enough code at 1 (Local opcode slot) there.within
    by_opcode false e there forms = by_byte (nat_le slot 255) there forms

-- ---- iinc

iinc_form : (code : List ℕ) (at : ℕ) → form_by op.IINC code at ≡ sized code at 3 (Ok (Iinc (u1_at code (at + 1)) (s1_at code (at + 2))))
unfolding size_of fixed_form jump_form
iinc_form code at = refl

wide_iinc_form : (code : List ℕ) (at : ℕ) → wide_by op.IINC code at ≡ cond (nat_lt (length code) (at + 2)) (Err (CutShort at)) (sized code at 6 (Ok (Iinc (u2_at code (at + 2)) (s2_at code (at + 4)))))
wide_iinc_form code at = refl

second : (a b : Bool) → (a && b) ≡ true → b ≡ true
second true b e = e
second false b e = absurd cc

module _ (code : List ℕ) (at : ℕ) where
  narrow_iinc : (slot : ℕ) (by : ℤ) → is_from (negsuc 127) (pos 127) by ≡ true → Holds code at (op.IINC ∷ (u1 slot ++ s1 by)) → form_at code at ≡ ok (Iinc slot by) (at + 3)
  narrow_iinc slot by e h =
      let tail = holds_tail code at op.IINC (u1 slot ++ s1 by) h in
      let number = moved code at (at + 1 + 1) (at + 2) (s1 by) (omega arith) (holds_back code (at + 1) (u1 slot) (s1 by) tail) in
      form_is code at op.IINC (byte_there code at op.IINC (u1 slot ++ s1 by) h)
      ∙ iinc_form code at
      ∙ ap (λ (n : ℕ). sized code at 3 (Ok (Iinc n (s1_at code (at + 2))))) (byte_there code (at + 1) slot (s1 by) tail)
      ∙ ap (λ (z : ℤ). sized code at 3 (Ok (Iinc slot z))) (signed_1_there code (at + 2) by [] (bytes_fit by e) number)
      ∙ enough code at 3 (Iinc slot by) h.within

  wide_iinc : (slot : ℕ) (by : ℤ) → slot < 2 ^ 16 → FitsSigned w16 by → Holds code at (op.WIDE ∷ op.IINC ∷ (u2 slot ++ s2 by)) → form_at code at ≡ ok (Iinc slot by) (at + 6)
  wide_iinc slot by lt fits h =
      let tail = holds_tail code at op.WIDE (op.IINC ∷ (u2 slot ++ s2 by)) h in
      let operands = moved code at (at + 1 + 1) (at + 2) (u2 slot ++ s2 by) (omega arith) (holds_tail code (at + 1) op.IINC (u2 slot ++ s2 by) tail) in
      let number = moved code at (at + 2 + 2) (at + 4) (s2 by) (omega arith) (holds_back code (at + 2) (u2 slot) (s2 by) operands) in
      let within = h.within in
      form_is code at op.WIDE (byte_there code at op.WIDE (op.IINC ∷ (u2 slot ++ s2 by)) h)
      ∙ wide_form_is code at
      ∙ wide_is code at op.IINC (byte_there code (at + 1) op.IINC (u2 slot ++ s2 by) tail)
      ∙ wide_iinc_form code at
      ∙ other (nat_lt (length code) (at + 2)) (Err (CutShort at)) (sized code at 6 (Ok (Iinc (u2_at code (at + 2)) (s2_at code (at + 4))))) (not_less (length code) (at + 2) (omega (arith, within)))
      ∙ ap (λ (n : ℕ). sized code at 6 (Ok (Iinc n (s2_at code (at + 4))))) (two_there code (at + 2) slot lt (holds_front code (at + 2) (u2 slot) (s2 by) operands))
      ∙ ap (λ (z : ℤ). sized code at 6 (Ok (Iinc slot z))) (signed_2_there code (at + 4) by fits number)
      ∙ enough code at 6 (Iinc slot by) within

  pub iinc_there : (slot : ℕ) (by : ℤ) → slot < 2 ^ 16 → FitsSigned w16 by → Holds code at (iinc_bytes slot by) → form_at code at ≡ ok (Iinc slot by) (at + iinc_size slot by)
  unfolding iinc_bytes iinc_size
  iinc_there slot by lt fits h = by_width (is_narrow slot by) refl h where
    by_width : (b : Bool) → is_narrow slot by ≡ b
        → Holds code at (cond b (op.IINC ∷ (u1 slot ++ s1 by)) (op.WIDE ∷ op.IINC ∷ (u2 slot ++ s2 by))) → form_at code at ≡ ok (Iinc slot by) (at + cond b 3 6)
    by_width true e there = narrow_iinc slot by (second (nat_le slot 255) (is_from (negsuc 127) (pos 127) by) e) there
    by_width false e there = wide_iinc slot by lt fits there

-- ---- jumps

abbrev IsJumpForm : ℕ → (ℕ → Instr) → Type 0
IsJumpForm opcode make = (code : List ℕ) (at : ℕ) → form_by opcode code at ≡ sized code at 3 (Ok (make (near code at (at + 1))))

pub goto_form : IsJumpForm op.GOTO Goto
unfolding size_of fixed_form jump_form
goto_form code at = refl

branch_rows : AllByRecursion (λ (row : ℕ × _). IsJumpForm row.0 (Branch row.0)) conditions
unfolding conditions size_of fixed_form jump_form member_form
branch_rows =
    (λ code at. refl, (λ code at. refl, (λ code at. refl, (λ code at. refl, (λ code at. refl, (λ code at. refl, (λ code at. refl, (λ code at. refl, (λ code at. refl, (λ code at. refl, (λ code at. refl, (λ code at. refl, (λ code at. refl, (λ code at. refl, (λ code at. refl, (λ code at. refl, tt))))))))))))))))

pub branch_form : (opcode : ℕ) → is_some (beside conditions opcode) ≡ true → IsJumpForm opcode (Branch opcode)
branch_form opcode some = rows (λ (o : ℕ). IsJumpForm o (Branch o)) conditions branch_rows opcode some

pub jumps : (opcode : ℕ) (make : ℕ → Instr) → IsJumpForm opcode make → (code offsets : List ℕ) (at target : ℕ) → at < 2 ^ 16 → get_or offsets target 0 < 2 ^ 16
    → FitsSigned w16 (distance offsets at target) → Holds code at (opcode ∷ s2 (distance offsets at target)) → form_at code at ≡ ok (make (get_or offsets target 0)) (at + 3)
jumps opcode make form code offsets at target la lo fits h =
    form_is code at opcode (byte_there code at opcode (s2 (distance offsets at target)) h)
    ∙ form code at
    ∙ ap (λ (n : ℕ). sized code at 3 (Ok (make n))) (near_there code offsets at target la lo (at + 1) fits (holds_tail code at opcode (s2 (distance offsets at target)) h))
    ∙ enough code at 3 (make (get_or offsets target 0)) h.within

-- ---- calls of interfaces, dynamic calls, arrays

interface_form : (code : List ℕ) (at : ℕ) → form_by op.INVOKEINTERFACE code at
    ≡ sized code at 5 (cond (nat_eq (u1_at code (at + 4)) 0) (Ok (InvokeInterface (u2_at code (at + 1)) (u1_at code (at + 3)))) (Err (BadOperand at)))
unfolding size_of fixed_form member_form
interface_form code at = refl

dynamic_form : (code : List ℕ) (at : ℕ) → form_by op.INVOKEDYNAMIC code at
    ≡ sized code at 5 (cond (nat_eq (u2_at code (at + 3)) 0) (Ok (InvokeDynamic (u2_at code (at + 1)))) (Err (BadOperand at)))
unfolding size_of fixed_form member_form
dynamic_form code at = refl

newarray_form : (code : List ℕ) (at : ℕ) → form_by op.NEWARRAY code at ≡ sized code at 2 (Ok (NewArray (u1_at code (at + 1))))
unfolding size_of fixed_form member_form
newarray_form code at = refl

multi_form : (code : List ℕ) (at : ℕ) → form_by op.MULTIANEWARRAY code at ≡ sized code at 4 (Ok (MultiNew (u2_at code (at + 1)) (u1_at code (at + 3))))
unfolding size_of fixed_form member_form
multi_form code at = refl

module _ (code : List ℕ) (at : ℕ) where
  pub interface_there : (index count : ℕ) → index < 2 ^ 16 → Holds code at (op.INVOKEINTERFACE ∷ (u2 index ++ (u1 count ++ u1 0))) → form_at code at ≡ ok (InvokeInterface index count) (at + 5)
  interface_there index count lt h =
      let tail = holds_tail code at op.INVOKEINTERFACE (u2 index ++ (u1 count ++ u1 0)) h in
      let counted = moved code at (at + 1 + 2) (at + 3) (u1 count ++ u1 0) (omega arith) (holds_back code (at + 1) (u2 index) (u1 count ++ u1 0) tail) in
      let zeroed = moved code at (at + 3 + 1) (at + 4) (u1 0) (omega arith) (holds_back code (at + 3) (u1 count) (u1 0) counted) in
      form_is code at op.INVOKEINTERFACE (byte_there code at op.INVOKEINTERFACE (u2 index ++ (u1 count ++ u1 0)) h)
      ∙ interface_form code at
      ∙ ap (λ (z : ℕ). sized code at 5 (cond (nat_eq z 0) (Ok (InvokeInterface (u2_at code (at + 1)) (u1_at code (at + 3)))) (Err (BadOperand at)))) (byte_there code (at + 4) 0 [] zeroed)
      ∙ ap (λ (n : ℕ). sized code at 5 (Ok (InvokeInterface n (u1_at code (at + 3))))) (two_there code (at + 1) index lt (holds_front code (at + 1) (u2 index) (u1 count ++ u1 0) tail))
      ∙ ap (λ (n : ℕ). sized code at 5 (Ok (InvokeInterface index n))) (byte_there code (at + 3) count (u1 0) counted)
      ∙ enough code at 5 (InvokeInterface index count) h.within

  pub dynamic_there : (index : ℕ) → index < 2 ^ 16 → Holds code at (op.INVOKEDYNAMIC ∷ (u2 index ++ u2 0)) → form_at code at ≡ ok (InvokeDynamic index) (at + 5)
  dynamic_there index lt h =
      let tail = holds_tail code at op.INVOKEDYNAMIC (u2 index ++ u2 0) h in
      let zeroed = moved code at (at + 1 + 2) (at + 3) (u2 0) (omega arith) (holds_back code (at + 1) (u2 index) (u2 0) tail) in
      form_is code at op.INVOKEDYNAMIC (byte_there code at op.INVOKEDYNAMIC (u2 index ++ u2 0) h)
      ∙ dynamic_form code at
      ∙ ap (λ (z : ℕ). sized code at 5 (cond (nat_eq z 0) (Ok (InvokeDynamic (u2_at code (at + 1)))) (Err (BadOperand at)))) (two_there code (at + 3) 0 (omega arith) zeroed)
      ∙ ap (λ (n : ℕ). sized code at 5 (Ok (InvokeDynamic n))) (two_there code (at + 1) index lt (holds_front code (at + 1) (u2 index) (u2 0) tail))
      ∙ enough code at 5 (InvokeDynamic index) h.within

  pub newarray_there : (type : ℕ) → Holds code at (op.NEWARRAY ∷ u1 type) → form_at code at ≡ ok (NewArray type) (at + 2)
  newarray_there type h =
      form_is code at op.NEWARRAY (byte_there code at op.NEWARRAY (u1 type) h)
      ∙ newarray_form code at
      ∙ ap (λ (n : ℕ). sized code at 2 (Ok (NewArray n))) (byte_there code (at + 1) type [] (holds_tail code at op.NEWARRAY (u1 type) h))
      ∙ enough code at 2 (NewArray type) h.within

  pub multi_there : (index count : ℕ) → index < 2 ^ 16 → Holds code at (op.MULTIANEWARRAY ∷ (u2 index ++ u1 count)) → form_at code at ≡ ok (MultiNew index count) (at + 4)
  multi_there index count lt h =
      let tail = holds_tail code at op.MULTIANEWARRAY (u2 index ++ u1 count) h in
      let counted = moved code at (at + 1 + 2) (at + 3) (u1 count) (omega arith) (holds_back code (at + 1) (u2 index) (u1 count) tail) in
      form_is code at op.MULTIANEWARRAY (byte_there code at op.MULTIANEWARRAY (u2 index ++ u1 count) h)
      ∙ multi_form code at
      ∙ ap (λ (n : ℕ). sized code at 4 (Ok (MultiNew n (u1_at code (at + 3))))) (two_there code (at + 1) index lt (holds_front code (at + 1) (u2 index) (u1 count) tail))
      ∙ ap (λ (n : ℕ). sized code at 4 (Ok (MultiNew index n))) (byte_there code (at + 3) count [] counted)
      ∙ enough code at 4 (MultiNew index count) h.within
