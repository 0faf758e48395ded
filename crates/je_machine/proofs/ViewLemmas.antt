-- Two views of which each begins the other are equal.
use Rattle.std.proofs.Common.{◌≡◌, List, [], ◌∷◌, ◌++◌, None, refl, sym, ap, ◌∙◌, ◌⊎◌, inl, inr, append_assoc}
use Rattle.std.specs.Prelude.{IsSome}
use Rattle.std.proofs.lemmas.List.{append-nil, append_cancel_left}
use Rattle.je_machine.specs.Outside.{Event}
use Rattle.je_machine.specs.View.{View, IsViewPrefix}
use Rattle.je_machine.proofs.RunLemmas.{none_or_some}

no_front : (xs ys : List Event) → [] ≡ xs ++ ys → xs ≡ []
no_front [] ys e = refl
no_front (x ∷ xs) ys e = absurd cc

same_view : (v w : View) → v.events ≡ w.events → v.end ≡ w.end → v ≡ w
same_view v w e f = ap (λ (events : List Event). record { events = events; end = v.end }) e ∙ ap (λ end. record { events = w.events; end = end }) f

same_events : (v w : View) → IsViewPrefix v w → IsViewPrefix w v → v.events ≡ w.events
same_events v w p q =
    let none : [] ≡ p.begins.0 ++ q.begins.0 =
    append_cancel_left v.events [] (p.begins.0 ++ q.begins.0)
    (append-nil v.events ∙ q.begins.1 ∙ ap (λ (events : List Event). events ++ q.begins.0) p.begins.1 ∙ append_assoc v.events p.begins.0 q.begins.0) in
    sym (p.begins.1 ∙ ap (λ (more : List Event). v.events ++ more) (no_front p.begins.0 q.begins.0 none) ∙ append-nil v.events)

by_ends : (v w : View) → IsViewPrefix v w → IsViewPrefix w v → (v.end ≡ None) ⊎ IsSome v.end → (w.end ≡ None) ⊎ IsSome w.end → v ≡ w
by_ends v w p q (inr ended) other = sym (p.final ended)
by_ends v w p q (inl none) (inr ended) = q.final ended
by_ends v w p q (inl none) (inl none') = same_view v w (same_events v w p q) (none ∙ sym none')

pub antisymmetric : (v w : View) → IsViewPrefix v w → IsViewPrefix w v → v ≡ w
antisymmetric v w p q = by_ends v w p q (none_or_some v.end) (none_or_some w.end)
