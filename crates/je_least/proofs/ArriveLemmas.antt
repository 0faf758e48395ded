-- What is known of an index once more has come to it.
use Rattle.std.proofs.Common.{◌≡◌, sym, subst, Option, Some, None, inl, inr}
use Rattle.std.specs.Prelude.{◌⊎◌}
use Rattle.je_shape.specs.Shape.{Shape, Known, Nothing, Has, Broken, KnownBelow}
use Rattle.je_shape.specs.Joined.{IsShapeJoin}
use Rattle.je_shape.specs.Least.{Agrees, IsBroken}
use Rattle.je_least.specs.Arriving.{IsArrival, IsArrivalOrNone}
use Rattle.je_shape.proofs.OrderLemmas.{shape_self}
use Rattle.je_shape.proofs.JoinLemmas.{known_join, broken_join}

below_broken : (k : Known) → KnownBelow k Broken
below_broken Nothing = tt
below_broken (Has s) = tt
below_broken Broken = tt

broken_above : (s : Known) → IsBroken s → KnownBelow Broken s
broken_above Nothing h = absurd h
broken_above (Has s) h = absurd h
broken_above Broken h = tt

above_broken : (k : Known) → KnownBelow Broken k → IsBroken k
above_broken Nothing h = h
above_broken (Has s) h = h
above_broken Broken h = tt

any_above : (k s : Known) → IsBroken s → KnownBelow k s
any_above k Nothing h = absurd h
any_above k (Has s) h = absurd h
any_above k Broken h = below_broken k

-- ---- without a frame

first_come : (s : Shape) → IsArrival None (Has s) Nothing (Has s)
first_come s = record { keeps = tt; takes = shape_self s; least = λ above h k. k }

pub first_came : (s more : Shape) (there : Known) → there ≡ Nothing → more ≡ s → IsArrival None (Has s) there (Has more)
first_came s more there e f =
    subst (λ (k : Known). IsArrival None (Has s) k (Has more)) (sym e)
    (subst (λ (m : Shape). IsArrival None (Has s) Nothing (Has m)) (sym f) (first_come s))

pub joined_come : (s t j : Shape) → IsShapeJoin s t (Some j) → IsArrival None (Has s) (Has t) (Has j)
joined_come s t j k =
    let all = known_join s t j k in
    record { keeps = all.right; takes = all.left; least = λ above h l. all.least above l h }

pub apart_come : (s t : Shape) → IsShapeJoin s t None → IsArrival None (Has s) (Has t) Broken
apart_come s t k =
    let all = broken_join s t k in
    record { keeps = all.right; takes = all.left; least = λ above h l. all.least above l h }

-- ---- broken

pub broken_come : (there : Known) → IsArrival None Broken there Broken
broken_come there =
    record { keeps = below_broken there; takes = tt; least = λ above h k. k }

pub broken_framed : (f : Shape) (there : Known) → IsArrival (Some f) Broken there Broken
broken_framed f there =
    record { keeps = below_broken there; takes = tt; least = λ above h k. broken_above above k }

-- ---- with a frame

either_broken : (s f : Shape) (above : Known) → (Agrees s f → ⊥) → (Agrees s f × KnownBelow (Has f) above) ⊎ IsBroken above → IsBroken above
either_broken s f above n (inl h) = absurd (n h.0)
either_broken s f above n (inr b) = b

pub differs_framed : (s f : Shape) (there : Known) → (Agrees s f → ⊥) → IsArrival (Some f) (Has s) there Broken
differs_framed s f there n =
    record {
      keeps = below_broken there;
      takes = inr tt;
      least = λ above h k. broken_above above (either_broken s f above n k);
    }

frame_taken : (s f : Shape) (above : Known) → (Agrees s f × KnownBelow (Has f) above) ⊎ IsBroken above → KnownBelow (Has f) above
frame_taken s f above (inl h) = h.1
frame_taken s f above (inr b) = any_above (Has f) above b

pub framed : (s f : Shape) (there : Known) (more : Option Known) → Agrees s f → IsArrivalOrNone None (Has f) there more → IsArrivalOrNone (Some f) (Has s) there more
framed s f there None a h = inl (a, h)
framed s f there (Some more) a h =
    record {
      keeps = h.keeps;
      takes = inl (a, h.takes);
      least = λ above l k. h.least above l (frame_taken s f above k);
    }

-- where what has no shape comes, or what does not agree with the frame
pub apart : (s f : Shape) (there : Known) (more : Option Known) → (Agrees s f → ⊥) → IsArrivalOrNone (Some f) Broken there more → IsArrivalOrNone (Some f) (Has s) there more
apart s f there None n h = inr h
apart s f there (Some more) n h =
    record {
      keeps = h.keeps;
      takes = inr h.takes;
      least = λ above l k. h.least above l (either_broken s f above n k);
    }
