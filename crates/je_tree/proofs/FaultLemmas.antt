-- There is one first fault: of two fronts of one list the shorter one goes on.
use Rattle.std.proofs.Common.{◌≡◌, List, [], ◌∷◌, ◌++◌, sym, ap, subst, ◌∙◌, append_assoc}
use Rattle.je_base.specs.declared.pos.Pos.{Pos}
use Rattle.je_tokens.specs.declared.token.Token.{Token}
use Rattle.je_tree.specs.FragmentGrammar.{IsFragment}
use Rattle.je_tree.specs.Faults.{Begins, EndsHere, fault_pos, FirstUnexpected}

-- what goes on with the first of these tokens is no front
abbrev Stops : (List Token → Type 0) → List Token → List Token → Type 0
Stops front f r = (t : Token) (x : List Token) → r ≡ t ∷ x → front (f ++ t ∷ []) → ⊥

one_rest : (front : List Token → Type 0) (down : (f more : List Token) → front (f ++ more) → front f)
    (f r g s : List Token) → f ++ r ≡ g ++ s → front f → front g
    → Stops front f r → Stops front g s → r ≡ s
one_rest front down [] r [] s same here there stop halt = same
one_rest front down [] r (u ∷ g) s same here there stop halt =
    absurd (stop u (g ++ s) same (down (u ∷ []) g there))
one_rest front down (t ∷ f) r [] s same here there stop halt =
    absurd (halt t (f ++ r) (sym same) (down (t ∷ []) f here))
one_rest front down (t ∷ f) r (u ∷ g) s same here there stop halt =
    let e : t ≡ u = cc in
    let tail : f ++ r ≡ g ++ s = cc in
    one_rest (λ x. front (t ∷ x)) (λ x more. down (t ∷ x) more) f r g s tail here
    (subst (λ v. front (v ∷ g)) (sym e) there) stop
    (λ v x is b. halt v x is (subst (λ w. front (w ∷ (g ++ v ∷ []))) e b))

shorter : (f more : List Token) → Begins (f ++ more) → Begins f
shorter f more (m, body, is) =
    (more ++ m, body, subst (λ x. IsFragment x body) (append_assoc f more m) is)

stops : (f r : List Token) → EndsHere f r → Stops Begins f r
stops f r ends t x is = subst (EndsHere f) is ends

pub one_fault : (list : List Token) (last pos other : Pos) → FirstUnexpected list last pos
    → FirstUnexpected list last other → pos ≡ other
one_fault list last pos other a b =
    let rest : a.rest ≡ b.rest =
    one_rest Begins shorter a.front a.rest b.front b.rest (sym a.split ∙ b.split) a.begins b.begins
    (stops a.front a.rest a.ends) (stops b.front b.rest b.ends) in
    a.place ∙ ap (fault_pos last) rest ∙ sym b.place
