-- What is reached, by what is known.
use Rattle.std.proofs.Common.{◌≡◌, refl}
use Rattle.je_shape.specs.Shape.{Known, Nothing, Has, Broken, KnownBelow}
use Rattle.je_calls.specs.Chosen.{is_reached}

pub reached_alike : (a b : Known) → KnownBelow a b → KnownBelow b a → is_reached a ≡ is_reached b
reached_alike Nothing Nothing h k = refl
reached_alike Nothing (Has t) h k = absurd k
reached_alike Nothing Broken h k = absurd k
reached_alike (Has s) Nothing h k = absurd h
reached_alike (Has s) (Has t) h k = refl
reached_alike (Has s) Broken h k = refl
reached_alike Broken Nothing h k = absurd h
reached_alike Broken (Has t) h k = refl
reached_alike Broken Broken h k = refl
