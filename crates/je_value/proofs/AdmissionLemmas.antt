-- Numbers within the range of their types.
use Rattle.std.proofs.Common.{◌≡◌, true, sym}
use Rattle.std.specs.Prelude.{ℤ, FitsSigned}
use Rattle.std.specs.Ordering.{int_eq}
use Rattle.std.specs.Int.{Width, int_wrap}
use Rattle.std.proofs.lemmas.Int.{int_wrap_fits}
use Rattle.std.proofs.lemmas.Bool.Decides.{Decides-int_eq}

pub is_within : (w : Width) (z : ℤ) → FitsSigned w z → true ≡ int_eq (int_wrap w z) z
is_within w z f = sym ((Decides-int_eq (int_wrap w z) z).1 (int_wrap_fits w z f))
