-- How many bytes instructions without operands take, and calls.
use Rattle.std.proofs.Common.{◌≡◌, ℕ, ◌+◌, ◌*◌, ◌^◌, ◌<◌, Bool, true, false, cond, ◌||◌, List}
use Rattle.std.proofs.Common.{length, Result, Ok, Err, refl, ap, subst, arith}
use Rattle.std.specs.Prelude.{nat_lt, nat_le, nat_eq, int_lt}
use Rattle.std.proofs.lemmas.Bool.{eqb-true, ltb-false}
use Rattle.je_instr.specs.declared.fault.CodeFault.{CodeFault}
use Rattle.je_instr.specs.declared.fault.CodeFault.TheVariants.{BadOpcode, CutShort}
use Rattle.je_instr.specs.declared.instr.Instr.{Instr}
use Rattle.je_instr.specs.declared.instr.Instr.TheVariants.{Simple, Invoke}
use Rattle.je_instr.specs.declared.opcodes.TheConstants as op
use Rattle.je_instr.specs.Forms.{Read, between, u1_at, u2_at, u4_at, s4_at, aligned, size_of}
use Rattle.je_instr.specs.Forms.{push_form, local_form, jump_form, member_form, fixed_form, sized}
use Rattle.je_instr.specs.Forms.{wide_form, count_between, table_form, lookup_form, form_at}
use Rattle.je_instr.proofs.RowLemmas.{all_from, each_from}

-- ---- sorts: 1 for an instruction without operands, 3 for a call, 0 for any other

abbrev HasSort : ℕ → Instr → Type 0
HasSort n (Simple opcode) = n ≡ 1
HasSort n (Invoke opcode index) = n ≡ 3
HasSort n _ = Unit {0}

abbrev Makes : ℕ → Result Instr CodeFault → Type 0
Makes n (Ok i) = HasSort n i
Makes n (Err e) = Unit {0}

unfoldable push_sort : ℕ → ℕ
push_sort opcode =
    cond (between op.ICONST_M1 op.ICONST_5 opcode) 0
    (cond (nat_eq opcode op.BIPUSH) 0
    (cond (nat_eq opcode op.SIPUSH) 0
    (cond (nat_eq opcode op.LDC) 0
    (cond (nat_eq opcode op.LDC_W) 0
    (cond (nat_eq opcode op.LDC2_W) 0 1)))))

unfoldable local_sort : ℕ → ℕ
local_sort opcode =
    cond (between op.ILOAD op.ALOAD opcode) 0
    (cond (between op.ISTORE op.ASTORE opcode) 0
    (cond (between op.ILOAD_0 op.ALOAD_3 opcode) 0
    (cond (between op.ISTORE_0 op.ASTORE_3 opcode) 0 1)))

unfoldable jump_sort : ℕ → ℕ
jump_sort opcode =
    cond (nat_eq opcode op.IINC) 0
    (cond (between op.IFEQ op.IF_ACMPNE opcode) 0
    (cond (nat_eq opcode op.GOTO) 0
    (cond (between op.JSR op.RET opcode) 0 1)))

unfoldable member_sort : ℕ → ℕ
member_sort opcode =
    cond (between op.GETSTATIC op.PUTFIELD opcode) 0
    (cond (between op.INVOKEVIRTUAL op.INVOKESTATIC opcode) 3
    (cond (nat_eq opcode op.INVOKEINTERFACE) 0
    (cond (nat_eq opcode op.INVOKEDYNAMIC) 0
    (cond (nat_eq opcode op.NEW) 0
    (cond (nat_eq opcode op.NEWARRAY) 0
    (cond (nat_eq opcode op.ANEWARRAY) 0
    (cond (nat_eq opcode op.CHECKCAST) 0
    (cond (nat_eq opcode op.INSTANCEOF) 0
    (cond (nat_eq opcode op.MULTIANEWARRAY) 0
    (cond (between op.IFNULL op.IFNONNULL opcode) 0
    (cond (nat_eq opcode op.GOTO_W) 0
    (cond (nat_eq opcode op.JSR_W) 0 1))))))))))))

unfoldable sort_of : ℕ → ℕ
sort_of opcode =
    cond (nat_le opcode op.LDC2_W) (push_sort opcode)
    (cond (nat_le opcode op.ASTORE_3) (local_sort opcode)
    (cond (nat_le opcode op.RET) (jump_sort opcode) (member_sort opcode)))

by : {A : Type 0} (P : ℕ → A → Type 0) (b : Bool) (m n : ℕ) (x y : A) → P m x → P n y
    → P (cond b m n) (cond b x y)
by P true m n x y hx hy = hx
by P false m n x y hx hy = hy

-- an instruction of no sort, or none
any : (b : Bool) (x y : Result Instr CodeFault) → Makes 0 x → Makes 0 y → Makes 0 (cond b x y)
any true x y hx hy = hx
any false x y hx hy = hy

module _ (code : List ℕ) (at opcode : ℕ) where
  push_is : HasSort (push_sort opcode) (push_form code at opcode)
  unfolding push_sort push_form
  push_is =
      by HasSort (between op.ICONST_M1 op.ICONST_5 opcode) 0 _ _ _ tt
      (by HasSort (nat_eq opcode op.BIPUSH) 0 _ _ _ tt
      (by HasSort (nat_eq opcode op.SIPUSH) 0 _ _ _ tt
      (by HasSort (nat_eq opcode op.LDC) 0 _ _ _ tt
      (by HasSort (nat_eq opcode op.LDC_W) 0 _ _ _ tt
      (by HasSort (nat_eq opcode op.LDC2_W) 0 1 _ _ tt refl)))))

  local_is : HasSort (local_sort opcode) (local_form code at opcode)
  unfolding local_sort local_form
  local_is =
      by HasSort (between op.ILOAD op.ALOAD opcode) 0 _ _ _ tt
      (by HasSort (between op.ISTORE op.ASTORE opcode) 0 _ _ _ tt
      (by HasSort (between op.ILOAD_0 op.ALOAD_3 opcode) 0 _ _ _ tt
      (by HasSort (between op.ISTORE_0 op.ASTORE_3 opcode) 0 1 _ _ tt refl)))

  jump_is : Makes (jump_sort opcode) (jump_form code at opcode)
  unfolding jump_sort jump_form
  jump_is =
      by Makes (nat_eq opcode op.IINC) 0 _ _ _ tt
      (by Makes (between op.IFEQ op.IF_ACMPNE opcode) 0 _ _ _ tt
      (by Makes (nat_eq opcode op.GOTO) 0 _ _ _ tt
      (by Makes (between op.JSR op.RET opcode) 0 1 _ _ tt refl)))

  member_is : Makes (member_sort opcode) (member_form code at opcode)
  unfolding member_sort member_form
  member_is =
      by Makes (between op.GETSTATIC op.PUTFIELD opcode) 0 _ _ _ tt
      (by Makes (between op.INVOKEVIRTUAL op.INVOKESTATIC opcode) 3 _ _ _ refl
      (by Makes (nat_eq opcode op.INVOKEINTERFACE) 0 _ _ _
      (any (nat_eq (u1_at code (at + 4)) 0) _ _ tt tt)
      (by Makes (nat_eq opcode op.INVOKEDYNAMIC) 0 _ _ _
      (any (nat_eq (u2_at code (at + 3)) 0) _ _ tt tt)
      (by Makes (nat_eq opcode op.NEW) 0 _ _ _ tt
      (by Makes (nat_eq opcode op.NEWARRAY) 0 _ _ _ tt
      (by Makes (nat_eq opcode op.ANEWARRAY) 0 _ _ _ tt
      (by Makes (nat_eq opcode op.CHECKCAST) 0 _ _ _ tt
      (by Makes (nat_eq opcode op.INSTANCEOF) 0 _ _ _ tt
      (by Makes (nat_eq opcode op.MULTIANEWARRAY) 0 _ _ _ tt
      (by Makes (between op.IFNULL op.IFNONNULL opcode) 0 _ _ _ tt
      (by Makes (nat_eq opcode op.GOTO_W) 0 _ _ _ tt
      (by Makes (nat_eq opcode op.JSR_W) 0 1 _ _ tt refl))))))))))))

  fixed_is : Makes (sort_of opcode) (fixed_form code at opcode)
  unfolding sort_of fixed_form
  fixed_is =
      by Makes (nat_le opcode op.LDC2_W) _ _ _ _ push_is
      (by Makes (nat_le opcode op.ASTORE_3) _ _ _ _ local_is
      (by Makes (nat_le opcode op.RET) _ _ _ _ jump_is member_is))

-- ---- the size by the sort: each opcode is tried

abbrev is_sized : ℕ → Bool
is_sized opcode = cond (nat_eq (sort_of opcode) 0) true (nat_eq (size_of opcode) (sort_of opcode))

all_sized : all_from is_sized 202 0 ≡ true
unfolding sort_of push_sort local_sort jump_sort member_sort size_of
all_sized = refl

size_is : (sort size n : ℕ) → nat_eq n 0 ≡ false
    → cond (nat_eq sort 0) true (nat_eq size sort) ≡ true → sort ≡ n → size ≡ n
size_is sort size n some test is =
    let test_n = subst (λ (m : ℕ). cond (nat_eq m 0) true (nat_eq size m) ≡ true) is test in
    eqb-true size n (subst (λ (b : Bool). cond b true (nat_eq size n) ≡ true) some test_n)

-- ---- the whole

abbrev Takes : ℕ → Instr → ℕ → Type 0
Takes at (Simple opcode) end = end ≡ at + 1
Takes at (Invoke opcode index) end = end ≡ at + 3
Takes at _ end = Unit {0}

abbrev AllTake : ℕ → Read → Type 0
AllTake at (Ok x) = Takes at x.0 x.1
AllTake at (Err e) = Unit {0}

module _ (code : List ℕ) (at : ℕ) where
  either : (b : Bool) (x y : Read) → AllTake at x → AllTake at y → AllTake at (cond b x y)
  either true x y hx hy = hx
  either false x y hx hy = hy

  takes : (opcode : ℕ) → is_sized opcode ≡ true → (i : Instr) → HasSort (sort_of opcode) i
      → Takes at i (at + size_of opcode)
  takes opcode test (Simple o) h =
      ap (λ n. at + n) (size_is (sort_of opcode) (size_of opcode) 1 refl test h)
  takes opcode test (Invoke o index) h =
      ap (λ n. at + n) (size_is (sort_of opcode) (size_of opcode) 3 refl test h)
  takes opcode test _ h = tt

  sized_takes : (opcode : ℕ) → is_sized opcode ≡ true → (made : Result Instr CodeFault)
      → Makes (sort_of opcode) made → AllTake at (sized code at (size_of opcode) made)
  sized_takes opcode test (Ok i) h =
      either (nat_lt (length code) (at + size_of opcode)) (Err (CutShort at)) _ tt
      (takes opcode test i h)
  sized_takes opcode test (Err e) h =
      either (nat_lt (length code) (at + size_of opcode)) (Err (CutShort at)) (Err e) tt tt

  wide_takes : AllTake at (wide_form code at)
  unfolding wide_form
  wide_takes =
      let opcode = u1_at code (at + 1) in
      either (nat_lt (length code) (at + 2)) _ _ tt
      (either (between op.ILOAD op.ALOAD opcode || between op.ISTORE op.ASTORE opcode) _ _
      (either (nat_lt (length code) (at + 4)) _ _ tt tt)
      (either (nat_eq opcode op.IINC) _ _ (either (nat_lt (length code) (at + 6)) _ _ tt tt)
      (either (nat_eq opcode op.RET) _ _ tt tt)))

  table_takes : AllTake at (table_form code at)
  unfolding table_form
  table_takes =
      let from = aligned at in
      let low = s4_at code (from + 4) in
      let high = s4_at code (from + 8) in
      either (nat_lt (length code) (from + 12)) _ _ tt
      (either (int_lt high low) _ _ tt
      (either (nat_lt (length code) (from + 12 + 4 * count_between low high)) _ _ tt tt))

  lookup_takes : AllTake at (lookup_form code at)
  unfolding lookup_form
  lookup_takes =
      let from = aligned at in
      let count = u4_at code (from + 4) in
      either (nat_lt (length code) (from + 8)) _ _ tt
      (either (nat_le (2 ^ 31) count) _ _ tt
      (either (nat_lt (length code) (from + 8 + 8 * count)) _ _ tt tt))

  fixed_takes : (opcode : ℕ) → opcode < 202
      → AllTake at (sized code at (size_of opcode) (fixed_form code at opcode))
  fixed_takes opcode lt =
      let test = each_from is_sized opcode 202 0 lt all_sized in
      let here = subst (λ (n : ℕ). is_sized n ≡ true) (omega arith) test in
      sized_takes opcode here (fixed_form code at opcode) (fixed_is code at opcode)

  known_takes : (opcode : ℕ) (b : Bool) → nat_lt op.JSR_W opcode ≡ b
      → AllTake at
      (cond b (Err (BadOpcode at)) (sized code at (size_of opcode) (fixed_form code at opcode)))
  known_takes opcode true e = tt
  known_takes opcode false e =
      let most = ltb-false op.JSR_W opcode e in fixed_takes opcode (omega (arith, most))

  form_takes : AllTake at (form_at code at)
  unfolding form_at
  form_takes =
      let opcode = u1_at code at in
      either (nat_eq opcode op.TABLESWITCH) _ _ table_takes
      (either (nat_eq opcode op.LOOKUPSWITCH) _ _ lookup_takes
      (either (nat_eq opcode op.WIDE) _ _ wide_takes
      (known_takes opcode (nat_lt op.JSR_W opcode) refl)))

  pub simple_takes : (opcode end : ℕ) → form_at code at ≡ Ok (Simple opcode, end) → end ≡ at + 1
  simple_takes opcode end e = subst (AllTake at) e form_takes

  pub invoke_takes : (opcode index end : ℕ) → form_at code at ≡ Ok (Invoke opcode index, end)
      → end ≡ at + 3
  invoke_takes opcode index end e = subst (AllTake at) e form_takes
