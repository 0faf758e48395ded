-- What stands at an offset, by the opcode that stands there.
use Rattle.std.proofs.Common.{◌≡◌, ℕ, suc, ◌+◌, ◌^◌, ◌<◌, ◌≤◌, Bool, true, false, cond, nat_lt}
use Rattle.std.proofs.Common.{nat_eq, ◌||◌, List, [], ◌∷◌, length, Some, is_some, option_map, Ok}
use Rattle.std.proofs.Common.{Err, refl, ap, subst, ◌∙◌, arith}
use Rattle.std.specs.List.{AllByRecursion, find}
use Rattle.std.proofs.lemmas.Bool.{eqb-true, leb-true}
use Rattle.je_base.specs.Bytes.{u1, u2}
use Rattle.je_instr.specs.declared.fault.CodeFault.TheVariants.{BadOpcode, CutShort, BadOperand}
use Rattle.je_instr.specs.declared.fault.CodeFault.TheVariants.{Jsr}
use Rattle.je_instr.specs.declared.instr.Instr.{Instr}
use Rattle.je_instr.specs.declared.instr.Instr.TheVariants.{Simple, Ldc, Ldc2, Local, Iinc, Field}
use Rattle.je_instr.specs.declared.instr.Instr.TheVariants.{Invoke, New, ANewArray, CheckCast}
use Rattle.je_instr.specs.declared.instr.Instr.TheVariants.{InstanceOf}
use Rattle.je_instr.specs.declared.opcodes.TheConstants as op
use Rattle.je_instr.specs.Opcodes.{beside, simple_operations, simple_operation, field_actions}
use Rattle.je_instr.specs.Opcodes.{sorts}
use Rattle.je_instr.specs.Forms.{Read, between, u1_at, u2_at, s2_at, size_of, push_form, local_form}
use Rattle.je_instr.specs.Forms.{jump_form, member_form, fixed_form, sized, wide_form, table_form}
use Rattle.je_instr.specs.Forms.{lookup_form, form_at}
use Rattle.je_instr.proofs.HoldLemmas.{Holds, holds_tail, byte_there, two_there}

-- ---- by the opcode

abbrev pub form_by : ℕ → List ℕ → ℕ → Read
form_by opcode code at =
    cond (nat_eq opcode op.TABLESWITCH) (table_form code at)
    (cond (nat_eq opcode op.LOOKUPSWITCH) (lookup_form code at)
    (cond (nat_eq opcode op.WIDE) (wide_form code at)
    (cond (nat_lt op.JSR_W opcode) (Err (BadOpcode at))
    (sized code at (size_of opcode) (fixed_form code at opcode)))))

abbrev pub wide_by : ℕ → List ℕ → ℕ → Read
wide_by opcode code at =
    cond (nat_lt (length code) (at + 2)) (Err (CutShort at))
    (cond (between op.ILOAD op.ALOAD opcode || between op.ISTORE op.ASTORE opcode) (sized code at 4 (Ok (Local opcode (u2_at code (at + 2)))))
    (cond (nat_eq opcode op.IINC) (sized code at 6 (Ok (Iinc (u2_at code (at + 2)) (s2_at code (at + 4)))))
    (cond (nat_eq opcode op.RET) (Err (Jsr at)) (Err (BadOperand at)))))

abbrev pub ok : Instr → ℕ → Read
ok i end = Ok (i, end)

pub not_less : (m n : ℕ) → n ≤ m → nat_lt m n ≡ false
not_less m n le = by_test (nat_lt m n) refl where
  by_test : (b : Bool) → nat_lt m n ≡ b → nat_lt m n ≡ false
  by_test true e = let lt = leb-true (suc m) n e in absurd (omega (arith, lt, le))
  by_test false e = e

pub other : {A : Type 0} (b : Bool) (x y : A) → b ≡ false → cond b x y ≡ y
other b x y e = ap (λ (t : Bool). cond t x y) e

module _ (code : List ℕ) (at : ℕ) where
  pub form_is : (opcode : ℕ) → u1_at code at ≡ opcode → form_at code at ≡ form_by opcode code at
  unfolding form_at
  form_is opcode e = ap (λ (o : ℕ). form_by o code at) e

  pub wide_is : (opcode : ℕ) → u1_at code (at + 1) ≡ opcode → wide_form code at ≡ wide_by opcode code at
  unfolding wide_form
  wide_is opcode e = ap (λ (o : ℕ). wide_by o code at) e

  pub enough : (size : ℕ) (i : Instr) → at + size ≤ length code → sized code at size (Ok i) ≡ ok i (at + size)
  enough size i le = other (nat_lt (length code) (at + size)) (Err (CutShort at)) (ok i (at + size)) (not_less (length code) (at + size) le)

-- what an opcode with a row in a table stands for
pub rows : {A : Type 0} (P : ℕ → Type 0) (table : List (ℕ × A)) → AllByRecursion (λ (row : ℕ × A). P row.0) table → (n : ℕ) → is_some (beside table n) ≡ true → P n
rows P [] all n some = absurd cc
rows {A = A} P (row ∷ table) all n some = by_test (nat_eq row.0 n) refl (rows P table all.1 n) some where
  by_test : (b : Bool) → nat_eq row.0 n ≡ b → (is_some (beside table n) ≡ true → P n)
      → is_some (option_map (λ (r : ℕ × A). r.1) (cond b (Some row) (find (λ (r : ℕ × A). nat_eq r.0 n) table))) ≡ true → P n
  by_test true e later there = subst P (eqb-true row.0 n e) all.0
  by_test false e later there = later there

-- ---- instructions without operands

abbrev IsSimpleForm : ℕ → Type 0
IsSimpleForm opcode = (code : List ℕ) (at : ℕ) → form_by opcode code at ≡ sized code at 1 (Ok (Simple opcode))

simple_rows : AllByRecursion (λ (row : ℕ × _). IsSimpleForm row.0) simple_operations
unfolding simple_operations size_of fixed_form push_form local_form jump_form member_form
simple_rows = (
  λ code at. refl,
  (
    λ code at. refl,
    (
      λ code at. refl,
      (
        λ code at. refl,
        (
          λ code at. refl,
          (
            λ code at. refl,
            (
              λ code at. refl,
              (
                λ code at. refl,
                (
                  λ code at. refl,
                  (
                    λ code at. refl,
                    (
                      λ code at. refl,
                      (
                        λ code at. refl,
                        (
                          λ code at. refl,
                          (
                            λ code at. refl,
                            (
                              λ code at. refl,
                              (
                                λ code at. refl,
                                (
                                  λ code at. refl,
                                  (
                                    λ code at. refl,
                                    (
                                      λ code at. refl,
                                      (
                                        λ code at. refl,
                                        (
                                          λ code at. refl,
                                          (
                                            λ code at. refl,
                                            (
                                              λ code at. refl,
                                              (
                                                λ code at. refl,
                                                (
                                                  λ code at. refl,
                                                  (
                                                    λ code at. refl,
                                                    (
                                                      λ code at. refl,
                                                      (
                                                        λ code at. refl,
                                                        (
                                                          λ code at. refl,
                                                          (
                                                            λ code at. refl,
                                                            (
                                                              λ code at. refl,
                                                              (
                                                                λ code at. refl,
                                                                (
                                                                  λ code at. refl,
                                                                  (
                                                                    λ code at. refl,
                                                                    (
                                                                      λ code at. refl,
                                                                      (
                                                                        λ code at. refl,
                                                                        (
                                                                          λ code at. refl,
                                                                          (
                                                                            λ code at. refl,
                                                                            (
                                                                              λ code at. refl,
                                                                              (
                                                                                λ code at. refl,
                                                                                (
                                                                                  λ code at. refl,
                                                                                  (
                                                                                    λ code at. refl,
                                                                                    (
                                                                                      λ code at. refl,
                                                                                      (
                                                                                        λ code at. refl,
                                                                                        (
                                                                                          λ code at. refl,
                                                                                          (
                                                                                            λ code at. refl,
                                                                                            (
                                                                                              λ code at. refl,
                                                                                              (
                                                                                                λ code at. refl,
                                                                                                (
                                                                                                  λ code at. refl,
                                                                                                  (
                                                                                                    λ code at. refl,
                                                                                                    (
                                                                                                      λ code at. refl,
                                                                                                      (
                                                                                                        λ code at. refl,
                                                                                                        (
                                                                                                          λ code at. refl,
                                                                                                          (
                                                                                                            λ code at. refl,
                                                                                                            (
                                                                                                              λ code at. refl,
                                                                                                              (
                                                                                                                λ code at. refl,
                                                                                                                (
                                                                                                                  λ code at. refl,
                                                                                                                  (
                                                                                                                    λ code at. refl,
                                                                                                                    (
                                                                                                                      λ code at. refl,
                                                                                                                      (
                                                                                                                        λ code at. refl,
                                                                                                                        (
                                                                                                                          λ code at. refl,
                                                                                                                          (
                                                                                                                            λ code at. refl,
                                                                                                                            (
                                                                                                                              λ code at. refl,
                                                                                                                              (
                                                                                                                                λ code at. refl,
                                                                                                                                (
                                                                                                                                  λ code at. refl,
                                                                                                                                  (
                                                                                                                                    λ code at. refl,
                                                                                                                                    (
                                                                                                                                      λ code at. refl,
                                                                                                                                      (
                                                                                                                                        λ code at. refl,
                                                                                                                                        (
                                                                                                                                          λ code at. refl,
                                                                                                                                          (
                                                                                                                                            λ code at. refl,
                                                                                                                                            (
                                                                                                                                              λ code at. refl,
                                                                                                                                              (
                                                                                                                                                λ code at. refl,
                                                                                                                                                (
                                                                                                                                                  λ code at. refl,
                                                                                                                                                  (
                                                                                                                                                    λ code at. refl,
                                                                                                                                                    (
                                                                                                                                                      λ code at. refl,
                                                                                                                                                      (
                                                                                                                                                        λ code at. refl,
                                                                                                                                                        (
                                                                                                                                                          λ code at. refl,
                                                                                                                                                          (
                                                                                                                                                            λ code at. refl,
                                                                                                                                                            (
                                                                                                                                                              λ code at. refl,
                                                                                                                                                              (
                                                                                                                                                                λ code at. refl,
                                                                                                                                                                (
                                                                                                                                                                  λ code at. refl,
                                                                                                                                                                  (
                                                                                                                                                                    λ code at. refl,
                                                                                                                                                                    (
                                                                                                                                                                      λ code at. refl,
                                                                                                                                                                      (
                                                                                                                                                                        λ code at. refl,
                                                                                                                                                                        (
                                                                                                                                                                          λ code at. refl,
                                                                                                                                                                          (
                                                                                                                                                                            λ code at. refl,
                                                                                                                                                                            (
                                                                                                                                                                              λ code at. refl,
                                                                                                                                                                              (
                                                                                                                                                                                λ code at. refl,
                                                                                                                                                                                (
                                                                                                                                                                                  λ code at. refl,
                                                                                                                                                                                  (
                                                                                                                                                                                    λ code at. refl,
                                                                                                                                                                                    (
                                                                                                                                                                                      λ code at. refl,
                                                                                                                                                                                      (
                                                                                                                                                                                        λ code at. refl,
                                                                                                                                                                                        (
                                                                                                                                                                                          λ code at. refl,
                                                                                                                                                                                          (
                                                                                                                                                                                            λ code at. refl,
                                                                                                                                                                                            (
                                                                                                                                                                                              λ code at. refl,
                                                                                                                                                                                              (
                                                                                                                                                                                                λ code at. refl,
                                                                                                                                                                                                (λ code at. refl, (λ code at. refl, (λ code at. refl, (λ code at. refl, tt)))),
                                                                                                                                                                                              ),
                                                                                                                                                                                            ),
                                                                                                                                                                                          ),
                                                                                                                                                                                        ),
                                                                                                                                                                                      ),
                                                                                                                                                                                    ),
                                                                                                                                                                                  ),
                                                                                                                                                                                ),
                                                                                                                                                                              ),
                                                                                                                                                                            ),
                                                                                                                                                                          ),
                                                                                                                                                                        ),
                                                                                                                                                                      ),
                                                                                                                                                                    ),
                                                                                                                                                                  ),
                                                                                                                                                                ),
                                                                                                                                                              ),
                                                                                                                                                            ),
                                                                                                                                                          ),
                                                                                                                                                        ),
                                                                                                                                                      ),
                                                                                                                                                    ),
                                                                                                                                                  ),
                                                                                                                                                ),
                                                                                                                                              ),
                                                                                                                                            ),
                                                                                                                                          ),
                                                                                                                                        ),
                                                                                                                                      ),
                                                                                                                                    ),
                                                                                                                                  ),
                                                                                                                                ),
                                                                                                                              ),
                                                                                                                            ),
                                                                                                                          ),
                                                                                                                        ),
                                                                                                                      ),
                                                                                                                    ),
                                                                                                                  ),
                                                                                                                ),
                                                                                                              ),
                                                                                                            ),
                                                                                                          ),
                                                                                                        ),
                                                                                                      ),
                                                                                                    ),
                                                                                                  ),
                                                                                                ),
                                                                                              ),
                                                                                            ),
                                                                                          ),
                                                                                        ),
                                                                                      ),
                                                                                    ),
                                                                                  ),
                                                                                ),
                                                                              ),
                                                                            ),
                                                                          ),
                                                                        ),
                                                                      ),
                                                                    ),
                                                                  ),
                                                                ),
                                                              ),
                                                            ),
                                                          ),
                                                        ),
                                                      ),
                                                    ),
                                                  ),
                                                ),
                                              ),
                                            ),
                                          ),
                                        ),
                                      ),
                                    ),
                                  ),
                                ),
                              ),
                            ),
                          ),
                        ),
                      ),
                    ),
                  ),
                ),
              ),
            ),
          ),
        ),
      ),
    ),
  ),
)

pub simple_there : (code : List ℕ) (at opcode : ℕ) → is_some (simple_operation opcode) ≡ true → Holds code at (u1 opcode) → form_at code at ≡ ok (Simple opcode) (at + 1)
simple_there code at opcode some h = form_is code at opcode (byte_there code at opcode [] h) ∙ rows IsSimpleForm simple_operations simple_rows opcode some code at ∙ enough code at 1 (Simple opcode) h.within

-- ---- an opcode and an index

abbrev pub IsIndexForm : ℕ → (ℕ → Instr) → Type 0
IsIndexForm opcode make = (code : List ℕ) (at : ℕ) → form_by opcode code at ≡ sized code at 3 (Ok (make (u2_at code (at + 1))))

pub indexed : (opcode : ℕ) (make : ℕ → Instr) → IsIndexForm opcode make → (code : List ℕ) (at index : ℕ) → index < 2 ^ 16 → Holds code at (opcode ∷ u2 index) → form_at code at ≡ ok (make index) (at + 3)
indexed opcode make form code at index lt h =
    form_is code at opcode (byte_there code at opcode (u2 index) h)
    ∙ form code at
    ∙ ap (λ (n : ℕ). sized code at 3 (Ok (make n))) (two_there code (at + 1) index lt (holds_tail code at opcode (u2 index) h))
    ∙ enough code at 3 (make index) h.within

pub ldc2_form : IsIndexForm op.LDC2_W Ldc2
unfolding size_of fixed_form push_form
ldc2_form code at = refl

pub ldc_w_form : IsIndexForm op.LDC_W Ldc
unfolding size_of fixed_form push_form
ldc_w_form code at = refl

pub new_form : IsIndexForm op.NEW New
unfolding size_of fixed_form member_form
new_form code at = refl

pub anewarray_form : IsIndexForm op.ANEWARRAY ANewArray
unfolding size_of fixed_form member_form
anewarray_form code at = refl

pub checkcast_form : IsIndexForm op.CHECKCAST CheckCast
unfolding size_of fixed_form member_form
checkcast_form code at = refl

pub instanceof_form : IsIndexForm op.INSTANCEOF InstanceOf
unfolding size_of fixed_form member_form
instanceof_form code at = refl

field_rows : AllByRecursion (λ (row : ℕ × _). IsIndexForm row.0 (Field row.0)) field_actions
unfolding field_actions size_of fixed_form member_form
field_rows =
    (λ code at. refl, (λ code at. refl, (λ code at. refl, (λ code at. refl, tt))))

pub field_form : (opcode : ℕ) → is_some (beside field_actions opcode) ≡ true → IsIndexForm opcode (Field opcode)
field_form opcode some = rows (λ (o : ℕ). IsIndexForm o (Field o)) field_actions field_rows opcode some

invoke_rows : AllByRecursion (λ (row : ℕ × _). IsIndexForm row.0 (Invoke row.0)) sorts
unfolding sorts size_of fixed_form member_form
invoke_rows =
    (λ code at. refl, (λ code at. refl, (λ code at. refl, tt)))

pub invoke_form : (opcode : ℕ) → is_some (beside sorts opcode) ≡ true → IsIndexForm opcode (Invoke opcode)
invoke_form opcode some = rows (λ (o : ℕ). IsIndexForm o (Invoke o)) sorts invoke_rows opcode some
