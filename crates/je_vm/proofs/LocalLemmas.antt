-- Slots of local variables.
use Rattle.std.proofs.Common.{◌≡◌, ℕ, zero, suc, ◌<◌, ◌≤◌, List, [], ◌∷◌, ◌++◌, length, slice_set}
use Rattle.std.proofs.Common.{refl, ap, ◌∙◌, arith}
use Rattle.std.specs.Prelude.{pos}
use Rattle.je_machine.specs.Value.{Value, Int}
use Rattle.je_machine.specs.Frame.{with_local}

-- a slot that is there
pub written : (locals : List Value) (slot : ℕ) (v : Value) → slot < length locals
    → with_local locals slot v ≡ slice_set locals slot v
written [] slot v h = absurd (omega (arith, h))
written (old ∷ locals) zero v h = refl
written (old ∷ locals) (suc slot) v h =
    ap (λ vs. old ∷ vs) (written locals slot v (omega (arith, h)))

-- one more slot, up to the one that is written
pub one_more : (locals : List Value) (slot : ℕ) (v : Value) → length locals ≤ slot
    → with_local (locals ++ Int (pos 0) ∷ []) slot v ≡ with_local locals slot v
one_more [] zero v h = refl
one_more [] (suc slot) v h = refl
one_more (old ∷ locals) zero v h = absurd (omega (arith, h))
one_more (old ∷ locals) (suc slot) v h =
    ap (λ vs. old ∷ vs) (one_more locals slot v (omega (arith, h)))

-- one more slot keeps what a write comes to
pub grown : (locals all : List Value) (slot : ℕ) (zero_value : Value) (next : List Value)
    → zero_value ≡ Int (pos 0) → length all ≤ slot → next ≡ all ++ zero_value ∷ []
    → ((v : Value) → with_local all slot v ≡ with_local locals slot v)
    → (v : Value) → with_local next slot v ≡ with_local locals slot v
grown locals all slot zero_value next z h put before v =
    ap (λ vs. with_local vs slot v) (put ∙ ap (λ x. all ++ x ∷ []) z)
    ∙ one_more all slot v h ∙ before v
