-- A program has one fault of size at most, and none where its code is short and its jumps are near.
use Rattle.std.proofs.Common.{◌≡◌, ℕ, zero, suc, ◌+◌, ◌-◌, ◌^◌, ◌<◌, ◌≤◌, List, [], ◌∷◌, length}
use Rattle.std.proofs.Common.{get_or, refl, sym, ap, subst, ◌∙◌, inl, inr, arith}
use Rattle.je_instr.specs.declared.assembled.SizeFault.{SizeFault}
use Rattle.je_instr.specs.declared.assembled.SizeFault.TheVariants.{JumpTooFar}
use Rattle.je_instr.specs.declared.instr.Instr.{Instr}
use Rattle.je_instr.specs.declared.program.Program.{Program}
use Rattle.std.specs.List.{AllByRecursion}
use Rattle.je_instr.specs.declared.program.Handler.{Handler}
use Rattle.je_instr.specs.CodeProgram.{HasTargets}
use Rattle.je_instr.specs.Assembling.{IsProgram, IsWithinProgram, AreNear, IsFirstFar, IsSizeFault}
use Rattle.je_instr.specs.Assembling.{too_long, too_far}
use Rattle.je_instr.specs.Offsets.{AreShort}
use Rattle.je_instr.specs.Shortest.{short_size, short_end, short_offsets}
use Rattle.je_instr.proofs.LayoutLemmas.{end_from}

-- ---- offsets

pub offsets_long : (at : ℕ) (is : List Instr) → length (short_offsets at is) ≡ length is + 1
offsets_long at [] = refl
offsets_long at (i ∷ is) = let on = offsets_long (at + short_size at i) is in omega (arith, on)

offset_within : (at : ℕ) (is : List Instr) (k : ℕ) → get_or (short_offsets at is) k 0 ≤ short_end at is
offset_within at [] zero = omega arith
offset_within at [] (suc k) = omega arith
offset_within at (i ∷ is) zero = end_from at (i ∷ is)
offset_within at (i ∷ is) (suc k) = offset_within (at + short_size at i) is k

pub offsets_short : (is : List Instr) → short_end 0 is < 2 ^ 16 → AreShort (short_offsets 0 is)
offsets_short is lt k = let w = offset_within 0 is k in omega (arith, w, lt)

-- ---- faults

module _ (offsets : List ℕ) where
  pub near_no_far : (at : ℕ) (is : List Instr) (from index : ℕ) → AreNear offsets at is → IsFirstFar offsets at is from index → ⊥
  near_no_far at [] from index near far = far
  near_no_far at (i ∷ is) from index near (inl here) = near.0 here.0
  near_no_far at (i ∷ is) from index near (inr later) = near_no_far (at + short_size at i) is (from + 1) index near.1 later.1

  first_far_once : (at : ℕ) (is : List Instr) (from m n : ℕ) → IsFirstFar offsets at is from m → IsFirstFar offsets at is from n → m ≡ n
  first_far_once at [] from m n h k = absurd h
  first_far_once at (i ∷ is) from m n (inl h) (inl k) = h.1 ∙ sym k.1
  first_far_once at (i ∷ is) from m n (inl h) (inr k) = absurd (k.0 h.0)
  first_far_once at (i ∷ is) from m n (inr h) (inl k) = absurd (h.0 k.0)
  first_far_once at (i ∷ is) from m n (inr h) (inr k) = first_far_once (at + short_size at i) is (from + 1) m n h.1 k.1

module _ (p : Program) where
  pub no_fault : (f : SizeFault) → short_end 0 p.instrs < 2 ^ 16 → AreNear (short_offsets 0 p.instrs) 0 p.instrs → IsSizeFault p f → ⊥
  no_fault f short near (too_long long) = omega (arith, short, long)
  no_fault f short near (too_far index also far) = near_no_far (short_offsets 0 p.instrs) 0 p.instrs 0 index near far

  pub one_fault : (e f : SizeFault) → IsSizeFault p e → IsSizeFault p f → e ≡ f
  one_fault e f (too_long long) (too_long other) = refl
  one_fault e f (too_long long) (too_far index short far) = absurd (omega (arith, short, long))
  one_fault e f (too_far index short far) (too_long long) = absurd (omega (arith, short, long))
  one_fault e f (too_far m short far) (too_far n also other) = ap (λ (k : ℕ). JumpTooFar k) (first_far_once (short_offsets 0 p.instrs) 0 p.instrs 0 m n far other)

-- ---- what the steps of assembling require

module _ (p : Program) (is_program : IsProgram p) (offsets : List ℕ) (these : offsets ≡ short_offsets 0 p.instrs) where
  count_is : length offsets ≡ length p.instrs + 1
  count_is = ap (λ (l : List ℕ). length l) these ∙ offsets_long 0 p.instrs

  pub some_offset : 0 < length offsets
  some_offset = let e = count_is in omega (arith, e)

  pub short_offset : short_end 0 p.instrs < 2 ^ 16 → AreShort offsets
  short_offset lt = subst AreShort (sym these) (offsets_short p.instrs lt)

  one_less : length p.instrs ≡ length offsets - 1
  one_less = let e = count_is in omega (arith, e)

  pub targets_there : (is : List Instr) → is ≡ p.instrs → AllByRecursion (HasTargets (length offsets - 1)) is
  targets_there is same = subst (λ (n : ℕ). AllByRecursion (HasTargets n) is) one_less (subst (λ (l : List Instr). AllByRecursion (HasTargets (length p.instrs)) l) (sym same) is_program.targets)

  pub handlers_there : (hs : List Handler) → hs ≡ p.handlers → AllByRecursion (IsWithinProgram (length offsets - 1)) hs
  handlers_there hs same = subst (λ (n : ℕ). AllByRecursion (IsWithinProgram n) hs) one_less (subst (λ (l : List Handler). AllByRecursion (IsWithinProgram (length p.instrs)) l) (sym same) is_program.handlers)
