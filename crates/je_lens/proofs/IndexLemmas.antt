-- The indexes of instructions, each as its own new index.
use Rattle.std.proofs.Common.{◌≡◌, ℕ, zero, suc, ◌+◌, ◌≤◌, List, [], ◌∷◌, ◌++◌, sym, ap, ap₂, ◌∙◌, subst, add-one, arith}
use Rattle.std.specs.List.{AllByRecursion, range_with_len}
use Rattle.std.proofs.lemmas.List.FromFn.{length-range_with_len, get_or-range_with_len}
use Rattle.je_code.specs.Moved.{IsNewOf}

range_more : (from n : ℕ) → range_with_len from (suc n) ≡ range_with_len from n ++ (from + n) ∷ []
range_more from zero = let e : from ≡ from + 0 = omega arith in ap (λ (i : ℕ). i ∷ []) e
range_more from (suc n) = let e : from + 1 + n ≡ from + suc n = omega arith in ap (λ (l : List ℕ). from ∷ l) (range_more (from + 1) n ∙ ap (λ (i : ℕ). range_with_len (from + 1) n ++ i ∷ []) e)

-- one more index is put
pub pushed : {xs ys : List ℕ} (n : ℕ) → xs ≡ range_with_len 0 n → ys ≡ xs ++ n ∷ [] → ys ≡ range_with_len 0 (n + 1)
pushed n all put = let e : n ≡ 0 + n = omega arith in put ∙ ap₂ ◌++◌ all (ap (λ (i : ℕ). i ∷ []) e) ∙ sym (ap (range_with_len 0) (add-one n) ∙ range_more 0 n)

range_within : (from n most : ℕ) → from + n ≤ most + 1 → AllByRecursion (λ index. index ≤ most) (range_with_len from n)
range_within from zero most h = tt
range_within from (suc n) most h = (omega (arith, h), range_within (from + 1) n most (omega (arith, h)))

each_is_new : (n : ℕ) → IsNewOf n n (range_with_len 0 (n + 1))
each_is_new n = record {
  all = length-range_with_len 0 (n + 1);
  rises = λ i j le lt.
      let len = length-range_with_len 0 (n + 1) in
      let a = get_or-range_with_len 0 (n + 1) i 0 (omega (arith, le, lt, len)) in
      let b = get_or-range_with_len 0 (n + 1) j 0 (omega (arith, lt, len)) in
      omega (arith, a, b, le);
  within = range_within 0 (n + 1) n (omega arith);
}

pub all_are_new : {xs ys : List ℕ} (n at : ℕ) → at ≡ n → xs ≡ range_with_len 0 at → ys ≡ xs ++ n ∷ [] → IsNewOf n n ys
all_are_new {xs = xs} n at end all put = subst (IsNewOf n n) (sym (pushed n (all ∙ ap (range_with_len 0) end) put)) (each_is_new n)
