-- Sizes and offsets of instructions in their shortest forms.
use Rattle.std.proofs.Common.{◌≡◌, ℕ, ◌+◌, ◌<◌, ◌≤◌, Bool, true, false, cond, min, ℤ, List, [], ◌∷◌}
use Rattle.std.proofs.Common.{length, sym, ap, ◌∙◌, arith, inl, inr}
use Rattle.std.proofs.lemmas.Bool.{cases_lt}
use Rattle.je_instr.specs.declared.instr.Instr.{Instr}
use Rattle.je_instr.specs.declared.instr.Instr.TheVariants as instr
use Rattle.je_instr.specs.Shortest.{push_size, ldc_size, local_size, iinc_size, short_size}
use Rattle.je_instr.specs.Shortest.{short_end}

either : (b : Bool) (m n : ℕ) → 0 < m → 0 < n → 0 < cond b m n
either true m n hm hn = hm
either false m n hm hn = hn

push_some : (n : ℤ) → 0 < push_size n
unfolding push_size
push_some n = either _ 1 _ (omega arith) (either _ 2 3 (omega arith) (omega arith))

ldc_some : (index : ℕ) → 0 < ldc_size index
unfolding ldc_size
ldc_some index = either _ 2 3 (omega arith) (omega arith)

local_some : (slot : ℕ) → 0 < local_size slot
unfolding local_size
local_some slot = either _ 1 _ (omega arith) (either _ 2 4 (omega arith) (omega arith))

iinc_some : (slot : ℕ) (by : ℤ) → 0 < iinc_size slot by
unfolding iinc_size
iinc_some slot by = either _ 3 6 (omega arith) (omega arith)

pub size_some : (at : ℕ) (i : Instr) → 0 < short_size at i
size_some at (instr.IntPush n) = push_some n
size_some at (instr.Ldc index) = ldc_some index
size_some at (instr.Local opcode slot) = local_some slot
size_some at (instr.Iinc slot by) = iinc_some slot by
size_some at _ = omega arith

pub end_from : (at : ℕ) (is : List Instr) → at ≤ short_end at is
end_from at [] = omega arith
end_from at (i ∷ is) = let on = end_from (at + short_size at i) is in omega (arith, on)

-- each instruction has a byte
pub end_many : (at : ℕ) (is : List Instr) → at + length is ≤ short_end at is
end_many at [] = omega arith
end_many at (i ∷ is) = let on = end_many (at + short_size at i) is in let some = size_some at i in omega (arith, on, some)

-- an offset that stands still at a limit is as good behind it
pub end_still : (limit size : ℕ) (is : List Instr) → min (short_end (min size limit) is) limit ≡ min (short_end size is) limit
end_still limit size is = elim (cases_lt size limit) [ inl lt ↦ within (omega arith) | inr le ↦ past le ] where
  within : size ≤ limit → min (short_end (min size limit) is) limit ≡ min (short_end size is) limit
  within le = ap (λ (n : ℕ). min (short_end n is) limit) (omega arith)

  past : limit ≤ size → min (short_end (min size limit) is) limit ≡ min (short_end size is) limit
  past le =
      let e : min (short_end limit is) limit ≡ min (short_end size is) limit = let a = end_from limit is in let b = end_from size is in omega (arith, a, b) in
      ap (λ (n : ℕ). min (short_end n is) limit) (omega arith) ∙ e

-- an instruction ends where the others do or before
pub room : (at : ℕ) (i : Instr) (tail rest : List Instr) (all : ℕ) → rest ≡ i ∷ tail → short_end at rest ≡ all → at + short_size at i ≤ all
room at i tail rest all cases end =
    let e : short_end (at + short_size at i) tail ≡ all = ap (λ (l : List Instr). short_end at l) (sym cases) ∙ end in
    let on = end_from (at + short_size at i) tail in
    omega (arith, e, on)
