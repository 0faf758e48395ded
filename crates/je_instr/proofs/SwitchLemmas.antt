-- A switch in its short form is read as that switch.
use Rattle.std.proofs.Common.{◌≡◌, ℕ, suc, ◌+◌, ◌*◌, ◌-◌, ◌%◌, ◌^◌, ◌<◌, ◌≤◌, Bool, true, false}
use Rattle.std.proofs.Common.{cond, nat_lt, nat_le, List, [], ◌∷◌, ◌++◌, length, map, get_or, Err}
use Rattle.std.proofs.Common.{ℤ, pos, ◌+ℤ◌, ◌-ℤ◌, ◌<ℤ◌, FitsSigned, refl, ap, subst, ◌∙◌, arith}
use Rattle.std.specs.Prelude.{int_lt, unsigned_abs}
use Rattle.std.specs.List.{AllByRecursion, flat_map}
use Rattle.std.specs.Int.{w32}
use Rattle.std.proofs.lemmas.Bool.{leb-true}
use Rattle.std.proofs.lemmas.Int.{ints}
use Rattle.std.proofs.lemmas.List.{length-append}
use Rattle.je_base.specs.Bytes.{u4}
use Rattle.je_instr.specs.declared.fault.CodeFault.TheVariants.{CutShort, BadOperand}
use Rattle.je_instr.specs.declared.instr.Case.{Case}
use Rattle.je_instr.specs.declared.instr.Instr.TheVariants.{TableSwitch, LookupSwitch}
use Rattle.je_instr.specs.declared.opcodes.TheConstants as op
use Rattle.je_instr.specs.Allowed.{AreKeys}
use Rattle.je_instr.specs.Forms.{Read, u4_at, s4_at, far, aligned, targets_at, case_at, cases_at}
use Rattle.je_instr.specs.Forms.{count_between, table_form, lookup_form, form_at}
use Rattle.je_instr.specs.Offsets.{AreShort}
use Rattle.je_instr.specs.Shortest.{s4, padding, target_bytes, case_bytes, last_key, table_bytes}
use Rattle.je_instr.specs.Shortest.{lookup_bytes}
use Rattle.je_instr.proofs.HoldLemmas.{Holds, holds_front, holds_back, holds_tail, byte_there}
use Rattle.je_instr.proofs.HoldLemmas.{four_there, signed_4_there, far_there, behind_padding}
use Rattle.je_instr.proofs.OpcodeFormLemmas.{form_by, ok, other, not_less, form_is}
use Rattle.je_instr.proofs.ShortLemmas.{moved}

-- ---- keys

last_is : (low high : ℤ) (count : ℕ) → high +ℤ pos 1 ≡ low +ℤ pos count → high ≡ last_key low count
last_is low high count e = omega (arith, ints)

abs_of : (z : ℤ) (n : ℕ) → z ≡ pos n → unsigned_abs z ≡ n
abs_of z n e = ap unsigned_abs e

count_is : (low : ℤ) (count : ℕ) → 0 < count → count_between low (last_key low count) ≡ count
count_is low count some = let e = abs_of (last_key low count -ℤ low) (count - 1) (omega (arith, ints)) in omega (arith, e)

rising : (low : ℤ) (count : ℕ) → 0 < count → int_lt (last_key low count) low ≡ false
rising low count some = at_most low (last_key low count) (omega (arith, ints)) where
  at_most : (a b : ℤ) → a <ℤ (b +ℤ pos 1) → int_lt b a ≡ false
  at_most a b h = grind (arith, ints)

above_all : (m : ℕ) → m < 2 ^ 16 → nat_le (2 ^ 31) m ≡ false
above_all m lt = by_test (nat_le (2 ^ 31) m) refl where
  by_test : (b : Bool) → nat_le (2 ^ 31) m ≡ b → nat_le (2 ^ 31) m ≡ false
  by_test true e = let le = leb-true (2 ^ 31) m e in absurd (omega (arith, le, lt))
  by_test false e = e

last_fits : (low : ℤ) (count : ℕ) → AreKeys low count → FitsSigned w32 (last_key low count)
last_fits low count keys = subst (FitsSigned w32) (last_is low keys.last.0 count keys.last.2) keys.last.1

abbrev case_of : ℤ → ℕ → Case
case_of key target = record { key = key; target = target }

-- ---- targets

module _ (code offsets : List ℕ) (at : ℕ) (short : AreShort offsets) (la : at < 2 ^ 16) where
  abbrev pub offset_at : ℕ → ℕ
  offset_at target = get_or offsets target 0

  abbrev pub located_case : Case → Case
  located_case c = record { key = c.key; target = offset_at c.target }

  targets_long : (targets : List ℕ) → length (flat_map (target_bytes offsets at) targets) ≡ 4 * length targets
  targets_long [] = refl
  targets_long (t ∷ targets) = let on = targets_long targets in let e = length-append (target_bytes offsets at t) (flat_map (target_bytes offsets at) targets) in omega (arith, on, e)

  targets_there : (from : ℕ) (targets : List ℕ) → Holds code from (flat_map (target_bytes offsets at) targets) → targets_at code at from (length targets) ≡ map offset_at targets
  targets_there from [] h = refl
  targets_there from (t ∷ targets) h =
      let front = far_there code offsets at t la (short t) from (holds_front code from (target_bytes offsets at t) (flat_map (target_bytes offsets at) targets) h) in
      let rest = targets_there (from + 4) targets (holds_back code from (target_bytes offsets at t) (flat_map (target_bytes offsets at) targets) h) in
      let count : length (t ∷ targets) ≡ suc (length targets) = omega arith in
      ap (λ (n : ℕ). targets_at code at from n) count ∙ ap (λ (x : ℕ). x ∷ targets_at code at (from + 4) (length targets)) front ∙ ap (λ (l : List ℕ). offset_at t ∷ l) rest

  case_long : (c : Case) → length (case_bytes offsets at c) ≡ 8
  case_long c = refl

  cases_long : (cases : List Case) → length (flat_map (case_bytes offsets at) cases) ≡ 8 * length cases
  cases_long [] = refl
  cases_long (c ∷ cases) = let on = cases_long cases in let e = length-append (case_bytes offsets at c) (flat_map (case_bytes offsets at) cases) in omega (arith, on, e)

  case_there : (from : ℕ) (c : Case) → FitsSigned w32 c.key → Holds code from (case_bytes offsets at c) → case_at code at from ≡ located_case c
  case_there from c fits h =
      let key = signed_4_there code from c.key fits (holds_front code from (s4 c.key) (target_bytes offsets at c.target) h) in
      let target = far_there code offsets at c.target la (short c.target) (from + 4) (holds_back code from (s4 c.key) (target_bytes offsets at c.target) h) in
      ap (λ (k : ℤ). case_of k (far code at (from + 4))) key ∙ ap (λ (t : ℕ). case_of c.key t) target

  cases_there : (from : ℕ) (cases : List Case) → AllByRecursion (λ (c : Case). FitsSigned w32 c.key) cases → Holds code from (flat_map (case_bytes offsets at) cases) → cases_at code at from (length cases) ≡ map located_case cases
  cases_there from [] fits h = refl
  cases_there from (c ∷ cases) fits h =
      let front = case_there from c fits.0 (holds_front code from (case_bytes offsets at c) (flat_map (case_bytes offsets at) cases) h) in
      let rest = cases_there (from + 8) cases fits.1 (holds_back code from (case_bytes offsets at c) (flat_map (case_bytes offsets at) cases) h) in
      let count : length (c ∷ cases) ≡ suc (length cases) = omega arith in
      ap (λ (n : ℕ). cases_at code at from n) count ∙ ap (λ (x : Case). x ∷ cases_at code at (from + 8) (length cases)) front ∙ ap (λ (l : List Case). located_case c ∷ l) rest

  -- ---- tableswitch

  abbrev table_by : ℤ → ℤ → Read
  table_by low high =
      cond (nat_lt (length code) (aligned at + 12)) (Err (CutShort at))
      (cond (int_lt high low) (Err (BadOperand at))
      (cond (nat_lt (length code) (aligned at + 12 + 4 * count_between low high)) (Err (CutShort at))
      (ok (TableSwitch low (targets_at code at (aligned at + 12) (count_between low high)) (far code at (aligned at))) (aligned at + 12 + 4 * count_between low high))))

  table_is : (low high : ℤ) → s4_at code (aligned at + 4) ≡ low → s4_at code (aligned at + 8) ≡ high → table_form code at ≡ table_by low high
  unfolding table_form
  table_is low high l h = ap (λ (z : ℤ). table_by z (s4_at code (aligned at + 8))) l ∙ ap (λ (z : ℤ). table_by low z) h

  table_reads : (low high : ℤ) (count : ℕ) → count_between low high ≡ count → int_lt high low ≡ false → aligned at + 12 + 4 * count ≤ length code
      → table_by low high ≡ ok (TableSwitch low (targets_at code at (aligned at + 12) count) (far code at (aligned at))) (aligned at + 12 + 4 * count)
  table_reads low high count counted rises within =
      other (nat_lt (length code) (aligned at + 12)) _ _ (not_less (length code) (aligned at + 12) (omega (arith, within)))
      ∙ other (int_lt high low) _ _ rises
      ∙ ap (λ (n : ℕ). cond (nat_lt (length code) (aligned at + 12 + 4 * n)) (Err (CutShort at)) (ok (TableSwitch low (targets_at code at (aligned at + 12) n) (far code at (aligned at))) (aligned at + 12 + 4 * n))) counted
      ∙ other (nat_lt (length code) (aligned at + 12 + 4 * count)) _ _ (not_less (length code) (aligned at + 12 + 4 * count) within)

  table_by_opcode : form_by op.TABLESWITCH code at ≡ table_form code at
  table_by_opcode = refl

  pub table_there : (low : ℤ) (targets : List ℕ) (fallback : ℕ) → FitsSigned w32 low → AreKeys low (length targets) → Holds code at (table_bytes offsets at low targets fallback)
      → form_at code at ≡ ok (TableSwitch low (map offset_at targets) (offset_at fallback)) (at + (4 - at % 4 + 12 + 4 * length targets))
  unfolding table_bytes
  table_there low targets fallback fits keys h =
      let count = length targets in
      let t = flat_map (target_bytes offsets at) targets in
      let hi = s4 (last_key low count) in
      let lo = s4 low in
      let f = target_bytes offsets at fallback in
      let tail = holds_tail code at op.TABLESWITCH (padding at ++ (f ++ (lo ++ (hi ++ t)))) h in
      let operands = moved code at (at + 1 + length (padding at)) (aligned at) (f ++ (lo ++ (hi ++ t))) (behind_padding at) (holds_back code (at + 1) (padding at) (f ++ (lo ++ (hi ++ t))) tail) in
      let bounds = holds_back code (aligned at) f (lo ++ (hi ++ t)) operands in
      let above = moved code at (aligned at + 4 + 4) (aligned at + 8) (hi ++ t) (omega arith) (holds_back code (aligned at + 4) lo (hi ++ t) bounds) in
      let list = moved code at (aligned at + 8 + 4) (aligned at + 12) t (omega arith) (holds_back code (aligned at + 8) hi t above) in
      let long = targets_long targets in
      let within = list.within in
      let all : aligned at + 12 + 4 * count ≤ length code = omega (arith, long, within) in
      let low_is = signed_4_there code (aligned at + 4) low fits (holds_front code (aligned at + 4) lo (hi ++ t) bounds) in
      let high_is = signed_4_there code (aligned at + 8) (last_key low count) (last_fits low count keys) (holds_front code (aligned at + 8) hi t above) in
      let end : aligned at + 12 + 4 * count ≡ at + (4 - at % 4 + 12 + 4 * count) = omega arith in
      form_is code at op.TABLESWITCH (byte_there code at op.TABLESWITCH (padding at ++ (f ++ (lo ++ (hi ++ t)))) h)
      ∙ table_by_opcode
      ∙ table_is low (last_key low count) low_is high_is
      ∙ table_reads low (last_key low count) count (count_is low count keys.some) (rising low count keys.some) all
      ∙ ap (λ (l : List ℕ). ok (TableSwitch low l (far code at (aligned at))) (aligned at + 12 + 4 * count)) (targets_there (aligned at + 12) targets list)
      ∙ ap (λ (o : ℕ). ok (TableSwitch low (map offset_at targets) o) (aligned at + 12 + 4 * count)) (far_there code offsets at fallback la (short fallback) (aligned at) (holds_front code (aligned at) f (lo ++ (hi ++ t)) operands))
      ∙ ap (λ (n : ℕ). ok (TableSwitch low (map offset_at targets) (offset_at fallback)) n) end

  -- ---- lookupswitch

  abbrev lookup_by : ℕ → Read
  lookup_by count =
      cond (nat_lt (length code) (aligned at + 8)) (Err (CutShort at))
      (cond (nat_le (2 ^ 31) count) (Err (BadOperand at))
      (cond (nat_lt (length code) (aligned at + 8 + 8 * count)) (Err (CutShort at))
      (ok (LookupSwitch (cases_at code at (aligned at + 8) count) (far code at (aligned at))) (aligned at + 8 + 8 * count))))

  lookup_is : (count : ℕ) → u4_at code (aligned at + 4) ≡ count → lookup_form code at ≡ lookup_by count
  unfolding lookup_form
  lookup_is count e = ap (λ (n : ℕ). lookup_by n) e

  lookup_by_opcode : form_by op.LOOKUPSWITCH code at ≡ lookup_form code at
  lookup_by_opcode = refl

  pub lookup_there : (cases : List Case) (fallback : ℕ) → length cases < 2 ^ 16 → AllByRecursion (λ (c : Case). FitsSigned w32 c.key) cases → Holds code at (lookup_bytes offsets at cases fallback)
      → form_at code at ≡ ok (LookupSwitch (map located_case cases) (offset_at fallback)) (at + (4 - at % 4 + 8 + 8 * length cases))
  unfolding lookup_bytes
  lookup_there cases fallback few fits h =
      let count = length cases in
      let t = flat_map (case_bytes offsets at) cases in
      let n = u4 count in
      let f = target_bytes offsets at fallback in
      let tail = holds_tail code at op.LOOKUPSWITCH (padding at ++ (f ++ (n ++ t))) h in
      let operands = moved code at (at + 1 + length (padding at)) (aligned at) (f ++ (n ++ t)) (behind_padding at) (holds_back code (at + 1) (padding at) (f ++ (n ++ t)) tail) in
      let counted = holds_back code (aligned at) f (n ++ t) operands in
      let list = moved code at (aligned at + 4 + 4) (aligned at + 8) t (omega arith) (holds_back code (aligned at + 4) n t counted) in
      let long = cases_long cases in
      let within = list.within in
      let all : aligned at + 8 + 8 * count ≤ length code = omega (arith, long, within) in
      let count_is = four_there code (aligned at + 4) count (omega (arith, few)) (holds_front code (aligned at + 4) n t counted) in
      let end : aligned at + 8 + 8 * count ≡ at + (4 - at % 4 + 8 + 8 * count) = omega arith in
      form_is code at op.LOOKUPSWITCH (byte_there code at op.LOOKUPSWITCH (padding at ++ (f ++ (n ++ t))) h)
      ∙ lookup_by_opcode
      ∙ lookup_is count count_is
      ∙ other (nat_lt (length code) (aligned at + 8)) _ _ (not_less (length code) (aligned at + 8) (omega (arith, all)))
      ∙ other (nat_le (2 ^ 31) count) _ _ (above_all count few)
      ∙ other (nat_lt (length code) (aligned at + 8 + 8 * count)) _ _ (not_less (length code) (aligned at + 8 + 8 * count) all)
      ∙ ap (λ (l : List Case). ok (LookupSwitch l (far code at (aligned at))) (aligned at + 8 + 8 * count)) (cases_there (aligned at + 8) cases fits list)
      ∙ ap (λ (o : ℕ). ok (LookupSwitch (map located_case cases) o) (aligned at + 8 + 8 * count)) (far_there code offsets at fallback la (short fallback) (aligned at) (holds_front code (aligned at) f (n ++ t) operands))
      ∙ ap (λ (m : ℕ). ok (LookupSwitch (map located_case cases) (offset_at fallback)) m) end
