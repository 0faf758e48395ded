-- How many bytes instructions have that are edited so far.
use Rattle.std.proofs.Common.{◌≡◌, ℕ, ◌+◌, ◌≤◌, List, [], ◌∷◌, length, Option, Some, None, inl, inr, refl, sym, subst, arith, length-append}
use Rattle.std.specs.Prelude.{Ok}
use Rattle.std.specs.List.{AllByRecursion, AllZip}
use Rattle.je_consts.specs.declared.place.Place.{Place}
use Rattle.je_instr.specs.declared.instr.Instr.{Instr}
use Rattle.je_instr.specs.declared.instr.Instr.TheVariants as instr
use Rattle.je_instr.specs.Assembling.{IsFar, IsFirstFar}
use Rattle.je_instr.specs.Decoding.{Follow, Leads}
use Rattle.je_instr.specs.Forms.{form_at}
use Rattle.je_instr.specs.Shortest.{short_size, short_end, short_bytes, short_code}
use Rattle.je_session.specs.declared.plan.Fragment.{Fragment}
use Rattle.je_session.specs.declared.plan.Fragment.TheVariants.{Empty, Proceed}
use Rattle.je_session.specs.Kept.{IsSoFar}
use Rattle.je_session.specs.Splice.{new_instrs}

module _ (consts : List Place) where
  -- ---- one instruction

  -- it has as many bytes at each offset
  same_size : (at bt : ℕ) (i : Instr) → IsSoFar consts i → short_size at i ≡ short_size bt i
  same_size at bt (instr.Simple opcode) so_far = refl
  same_size at bt (instr.Invoke opcode index) so_far = refl
  same_size at bt _ so_far = absurd so_far

  some_size : (at : ℕ) (i : Instr) → IsSoFar consts i → 1 ≤ short_size at i
  some_size at (instr.Simple opcode) so_far = omega arith
  some_size at (instr.Invoke opcode index) so_far = omega arith
  some_size at _ so_far = absurd so_far

  length_bytes : (offsets : List ℕ) (at : ℕ) (i : Instr) → IsSoFar consts i → length (short_bytes offsets at i) ≡ short_size at i
  length_bytes offsets at (instr.Simple opcode) so_far = refl
  length_bytes offsets at (instr.Invoke opcode index) so_far = refl
  length_bytes offsets at _ so_far = absurd so_far

  -- it jumps nowhere
  never_far : (offsets : List ℕ) (at : ℕ) (i : Instr) → IsSoFar consts i → IsFar offsets at i → ⊥
  never_far offsets at (instr.Simple opcode) so_far far = far
  never_far offsets at (instr.Invoke opcode index) so_far far = far
  never_far offsets at _ so_far far = absurd so_far

  -- as it is located it is what it leads to
  located_is : (starts : List ℕ) (l i : Instr) → Leads starts l i → IsSoFar consts i → i ≡ l
  located_is starts (instr.Branch opcode offset) i leads so_far = absurd (subst (IsSoFar consts) leads.2 so_far)
  located_is starts (instr.Goto offset) i leads so_far = absurd (subst (IsSoFar consts) leads.2 so_far)
  located_is starts (instr.TableSwitch low offsets offset) i leads so_far = absurd (subst (IsSoFar consts) leads.4 so_far)
  located_is starts (instr.LookupSwitch located offset) i leads so_far = absurd (subst (IsSoFar consts) leads.4 so_far)
  located_is starts _ i leads so_far = leads

  -- ---- several

  end_rises : (at bt : ℕ) (instrs : List Instr) → AllByRecursion (IsSoFar consts) instrs → at ≤ bt → short_end at instrs ≤ short_end bt instrs
  end_rises at bt [] so_far h = h
  end_rises at bt (i ∷ instrs) so_far h =
      end_rises (at + short_size at i) (bt + short_size bt i) instrs so_far.1 (omega (arith, h, same_size at bt i so_far.0))

  -- what is spliced ends no later
  pub spliced_end : (at bt : ℕ) (chosen : List (Option Fragment)) (instrs : List Instr) → AllByRecursion (IsSoFar consts) instrs → at ≤ bt
      → short_end at (new_instrs chosen instrs) ≤ short_end bt instrs
  spliced_end at bt [] instrs so_far h = end_rises at bt instrs so_far h
  spliced_end at bt (choice ∷ chosen) [] so_far h = h
  spliced_end at bt (None ∷ chosen) (i ∷ instrs) so_far h =
      spliced_end (at + short_size at i) (bt + short_size bt i) chosen instrs so_far.1 (omega (arith, h, same_size at bt i so_far.0))
  spliced_end at bt (Some Empty ∷ chosen) (i ∷ instrs) so_far h = spliced_end at (bt + short_size bt i) chosen instrs so_far.1 (omega (arith, h))
  spliced_end at bt (Some Proceed ∷ chosen) (i ∷ instrs) so_far h =
      spliced_end (at + short_size at i) (bt + short_size bt i) chosen instrs so_far.1 (omega (arith, h, same_size at bt i so_far.0))

  -- each takes a byte at least
  pub end_behind : (at : ℕ) (instrs : List Instr) → AllByRecursion (IsSoFar consts) instrs → at + length instrs ≤ short_end at instrs
  end_behind at [] so_far = omega arith
  end_behind at (i ∷ instrs) so_far =
      omega (arith, some_size at i so_far.0, end_behind (at + short_size at i) instrs so_far.1)

  pub length_code : (offsets : List ℕ) (at : ℕ) (instrs : List Instr) → AllByRecursion (IsSoFar consts) instrs
      → at + length (short_code offsets at instrs) ≡ short_end at instrs
  length_code offsets at [] so_far = omega arith
  length_code offsets at (i ∷ instrs) so_far =
      let rest = length_code offsets (at + short_size at i) instrs so_far.1 in
      omega (arith, rest, length_bytes offsets at i so_far.0, length-append (short_bytes offsets at i) (short_code offsets (at + short_size at i) instrs))

  pub none_far : (offsets : List ℕ) (at : ℕ) (instrs : List Instr) (from index : ℕ) → AllByRecursion (IsSoFar consts) instrs
      → IsFirstFar offsets at instrs from index → ⊥
  none_far offsets at [] from index so_far far = far
  none_far offsets at (i ∷ instrs) from index so_far (inl here) = never_far offsets at i so_far.0 here.0
  none_far offsets at (i ∷ instrs) from index so_far (inr later) = none_far offsets (at + short_size at i) instrs (from + 1) index so_far.1 later.1

  -- ---- as they were read

  module _ (simple : (code : List ℕ) (at opcode end : ℕ) → form_at code at ≡ Ok (instr.Simple opcode, end) → end ≡ at + 1)
      (invoke : (code : List ℕ) (at opcode index end : ℕ) → form_at code at ≡ Ok (instr.Invoke opcode index, end) → end ≡ at + 3) where
    size_is : (code : List ℕ) (at : ℕ) (i : Instr) (end : ℕ) → IsSoFar consts i → form_at code at ≡ Ok (i, end) → end ≡ at + short_size at i
    size_is code at (instr.Simple opcode) end so_far form = simple code at opcode end form
    size_is code at (instr.Invoke opcode index) end so_far form = invoke code at opcode index end form
    size_is code at _ end so_far form = absurd so_far

    -- they ended where their shortest forms end
    pub read_end : (code : List ℕ) (at : ℕ) (located : List Instr) (starts : List ℕ) (end : ℕ) (all : List ℕ) (instrs : List Instr)
        → Follow consts code at located starts end → AllZip (Leads all) located instrs → AllByRecursion (IsSoFar consts) instrs → short_end at instrs ≡ end
    read_end code at [] [] end all [] follow leads so_far = sym follow
    read_end code at [] [] end all (i ∷ instrs) follow leads so_far = absurd leads
    read_end code at [] (start ∷ starts) end all instrs follow leads so_far = absurd follow
    read_end code at (l ∷ located) [] end all instrs follow leads so_far = absurd follow
    read_end code at (l ∷ located) (start ∷ starts) end all [] follow leads so_far = absurd leads
    read_end code at (l ∷ located) (start ∷ starts) end all (i ∷ instrs) follow leads so_far =
        let next = follow.1 in
        let form = subst (λ k. form_at code at ≡ Ok (k, next)) (sym (located_is all l i leads.0 so_far.0)) follow.2.form in
        let size = size_is code at i next so_far.0 form in
        subst (λ n. short_end n instrs ≡ end) size (read_end code next located starts end all instrs follow.3 leads.1 so_far.1)
