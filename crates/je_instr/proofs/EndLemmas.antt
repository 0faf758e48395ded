-- What stands at an offset ends behind it, and within the code.
use Rattle.std.proofs.Common.{◌≡◌, ℕ, ◌+◌, ◌*◌, ◌^◌, ◌<◌, ◌≤◌, Bool, true, false, cond, List}
use Rattle.std.proofs.Common.{length, Result, Ok, Err, refl, subst, arith}
use Rattle.std.specs.Prelude.{nat_lt, nat_eq, nat_le, int_lt, ◌||◌}
use Rattle.std.proofs.lemmas.Bool.{ltb-false}
use Rattle.je_instr.specs.declared.fault.CodeFault.{CodeFault}
use Rattle.je_instr.specs.declared.fault.CodeFault.TheVariants.{CutShort}
use Rattle.je_instr.specs.declared.instr.Instr.{Instr}
use Rattle.je_instr.specs.declared.instr.Instr.TheVariants.{Local, Iinc, TableSwitch, LookupSwitch}
use Rattle.je_instr.specs.declared.opcodes.TheConstants as op
use Rattle.je_instr.specs.Forms.{Read, between, u1_at, u2_at, u4_at, s2_at, s4_at, far, size_of}
use Rattle.je_instr.specs.Forms.{fixed_form, sized, wide_form, aligned, targets_at, cases_at}
use Rattle.je_instr.specs.Forms.{count_between, table_form, lookup_form, form_at}

pub record IsWithin (code : List ℕ) (at end : ℕ) : Type 0 where
  pub grows : at < end
  pub within : end ≤ length code

abbrev pub Ends : List ℕ → ℕ → Read → Type 0
Ends code at (Ok x) = IsWithin code at x.1
Ends code at (Err e) = Unit {0}

module _ (code : List ℕ) (at : ℕ) where
  either : (b : Bool) (x y : Read) → Ends code at x → Ends code at y → Ends code at (cond b x y)
  either true x y hx hy = hx
  either false x y hx hy = hy

  -- so much is there where the test for less fails
  there : (end : ℕ) (e : CodeFault) (i : Instr) → at < end → Ends code at (cond (nat_lt (length code) end) (Err e) (Ok (i, end)))
  there end e i grows = by_test (nat_lt (length code) end) refl where
    by_test : (b : Bool) → nat_lt (length code) end ≡ b → Ends code at (cond b (Err e) (Ok (i, end)))
    by_test true less = tt
    by_test false less = record { grows = grows; within = ltb-false (length code) end less }

  sized_ends : (size : ℕ) (form : Result Instr CodeFault) → 0 < size → Ends code at (sized code at size form)
  sized_ends size (Ok i) some = there (at + size) (CutShort at) i (omega (arith, some))
  sized_ends size (Err e) some = either (nat_lt (length code) (at + size)) (Err (CutShort at)) (Err e) tt tt

  size_some : (opcode : ℕ) → 0 < size_of opcode
  unfolding size_of
  size_some opcode =
      choice (nat_eq opcode op.BIPUSH || (nat_eq opcode op.LDC || (between op.ILOAD op.ALOAD opcode || (between op.ISTORE op.ASTORE opcode || (nat_eq opcode op.RET || nat_eq opcode op.NEWARRAY))))) 2 _ (omega arith)
      (choice (nat_eq opcode op.MULTIANEWARRAY) 4 _ (omega arith)
      (choice (nat_eq opcode op.INVOKEINTERFACE || (nat_eq opcode op.INVOKEDYNAMIC || (nat_eq opcode op.GOTO_W || nat_eq opcode op.JSR_W))) 5 _ (omega arith)
      (choice _ 3 1 (omega arith) (omega arith)))) where
        choice : (b : Bool) (m n : ℕ) → 0 < m → 0 < n → 0 < cond b m n
        choice true m n hm hn = hm
        choice false m n hm hn = hn

  wide_ends : Ends code at (wide_form code at)
  unfolding wide_form
  wide_ends =
      either (nat_lt (length code) (at + 2)) _ _ tt
      (either (between op.ILOAD op.ALOAD (u1_at code (at + 1)) || between op.ISTORE op.ASTORE (u1_at code (at + 1))) _ _ (sized_ends 4 (Ok (Local (u1_at code (at + 1)) (u2_at code (at + 2)))) (omega arith))
      (either (nat_eq (u1_at code (at + 1)) op.IINC) _ _ (sized_ends 6 (Ok (Iinc (u2_at code (at + 2)) (s2_at code (at + 4)))) (omega arith))
      (either (nat_eq (u1_at code (at + 1)) op.RET) _ _ tt tt)))

  table_ends : Ends code at (table_form code at)
  unfolding table_form
  table_ends =
      let from = aligned at in
      let low = s4_at code (from + 4) in
      let high = s4_at code (from + 8) in
      let count = count_between low high in
      either (nat_lt (length code) (from + 12)) _ _ tt
      (either (int_lt high low) _ _ tt
      (there (from + 12 + 4 * count) (CutShort at) (TableSwitch low (targets_at code at (from + 12) count) (far code at from)) (omega arith)))

  lookup_ends : Ends code at (lookup_form code at)
  unfolding lookup_form
  lookup_ends =
      let from = aligned at in
      let count = u4_at code (from + 4) in
      either (nat_lt (length code) (from + 8)) _ _ tt
      (either (nat_le (2 ^ 31) count) _ _ tt
      (there (from + 8 + 8 * count) (CutShort at) (LookupSwitch (cases_at code at (from + 8) count) (far code at from)) (omega arith)))

  form_ends : Ends code at (form_at code at)
  unfolding form_at
  form_ends =
      let opcode = u1_at code at in
      either (nat_eq opcode op.TABLESWITCH) _ _ table_ends
      (either (nat_eq opcode op.LOOKUPSWITCH) _ _ lookup_ends
      (either (nat_eq opcode op.WIDE) _ _ wide_ends
      (either (nat_lt op.JSR_W opcode) _ _ tt
      (sized_ends (size_of opcode) (fixed_form code at opcode) (size_some opcode)))))

  pub form_within : (i : Instr) (end : ℕ) → form_at code at ≡ Ok (i, end) → IsWithin code at end
  form_within i end e = subst (Ends code at) e form_ends
