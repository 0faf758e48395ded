-- Instructions that stand one behind the other: one more behind them, and that no others stand there.
use Rattle.std.proofs.Common.{◌≡◌, ℕ, zero, suc, ◌+◌, ◌<◌, ◌≤◌, List, [], ◌∷◌, ◌++◌, length, Ok}
use Rattle.std.proofs.Common.{Err, refl, sym, ap, subst, ◌∙◌, arith, inl, inr}
use Rattle.je_consts.specs.declared.place.Place.{Place}
use Rattle.je_instr.specs.declared.fault.CodeFault.{CodeFault}
use Rattle.je_instr.specs.declared.instr.Instr.{Instr}
use Rattle.je_instr.specs.Allowed.{IsAllowed}
use Rattle.je_instr.specs.Forms.{Read, form_at}
use Rattle.je_instr.specs.Decoding.{Stands, Follow, IsStop, Begins}
use Rattle.je_instr.proofs.EndLemmas.{form_within}

abbrev ok : Instr → ℕ → Read
ok i end = Ok (i, end)

same_pair : (p q : Instr × ℕ) (x : Read) → x ≡ Ok p → x ≡ Ok q → p ≡ q
same_pair p q x e h = cc

ok_is : (i j : Instr) (m n : ℕ) → ok i m ≡ ok j n → (i ≡ j) × (m ≡ n)
ok_is i j m n e =
    let same = same_pair (i, m) (j, n) (ok i m) refl e in
    (ap (λ (p : Instr × ℕ). p.0) same, ap (λ (p : Instr × ℕ). p.1) same)

ok_no : (i : Instr) (n : ℕ) (f : CodeFault) → ok i n ≡ Err f → ⊥
ok_no i n f e = cc

err_is : (f g : CodeFault) (x : Read) → x ≡ Err f → x ≡ Err g → f ≡ g
err_is f g x e h = cc

module _ (consts : List Place) (code : List ℕ) where
  pub follow_more : (at : ℕ) (is : List Instr) (os : List ℕ) (mid : ℕ) (i : Instr) (next : ℕ) → Follow consts code at is os mid → Stands consts code mid i next → Follow consts code at (is ++ i ∷ []) (os ++ mid ∷ []) next
  follow_more at [] [] mid i next h stands =
      (h, next, subst (λ (n : ℕ). Stands consts code n i next) h stands, refl)
  follow_more at (j ∷ is) (o ∷ os) mid i next h stands = (h.0, h.1, h.2, follow_more h.1 is os mid i next h.3 stands)
  follow_more at _ _ mid i next h stands = absurd h

  -- ---- one way

  module _ (all : ℕ) (all_is : all ≡ length code) where
    stand_once : (at : ℕ) (i j : Instr) (m n : ℕ) → Stands consts code at i m → Stands consts code at j n → (i ≡ j) × (m ≡ n)
    stand_once at i j m n h k = ok_is i j m n (sym h.form ∙ k.form)

    ends_there : (at : ℕ) (i : Instr) (next : ℕ) → all ≡ at → Stands consts code at i next → ⊥
    ends_there at i next e h = let w = form_within code at i next h.form in let g = w.grows in let l = w.within in omega (arith, e, all_is)

    pub follow_once : (at : ℕ) (is js : List Instr) (os ps : List ℕ) → Follow consts code at is os all → Follow consts code at js ps all → (is ≡ js) × (os ≡ ps)
    follow_once at [] [] [] [] h k = (refl, refl)
    follow_once at [] (j ∷ js) [] (p ∷ ps) h k = absurd (ends_there at j k.1 h k.2)
    follow_once at (i ∷ is) [] (o ∷ os) [] h k = absurd (ends_there at i h.1 k h.2)
    follow_once at (i ∷ is) (j ∷ js) (o ∷ os) (p ∷ ps) h k =
        let one = stand_once at i j h.1 k.1 h.2 k.2 in
        let rest = follow_once h.1 is js os ps h.3 (subst (λ (n : ℕ). Follow consts code n js ps all) (sym one.1) k.3) in
        (cc (one.0, rest.0), cc (h.0, k.0, rest.1))
    follow_once at [] js (o ∷ os) ps h k = absurd h
    follow_once at (i ∷ is) js [] ps h k = absurd h
    follow_once at is [] os (p ∷ ps) h k = absurd k
    follow_once at is (j ∷ js) os [] h k = absurd k

    stop_no : (at : ℕ) (i : Instr) (next : ℕ) (f : CodeFault) → Stands consts code at i next → IsStop consts code at f → ⊥
    stop_no at i next f h (inl e) = ok_no i next f (sym h.form ∙ e)
    stop_no at i next f h (inr (j, end, form, refused, is)) = refused (subst (IsAllowed consts) (ok_is i j next end (sym h.form ∙ form)).0 h.allowed)

    pub follow_no_stop : (at mid : ℕ) (is js : List Instr) (os ps : List ℕ) (f : CodeFault) → Follow consts code at is os all → Follow consts code at js ps mid → mid < all → IsStop consts code mid f → ⊥
    follow_no_stop at mid [] [] [] [] f h k lt stop = omega (arith, h, k, lt)
    follow_no_stop at mid [] (j ∷ js) [] (p ∷ ps) f h k lt stop = ends_there at j k.1 h k.2
    follow_no_stop at mid (i ∷ is) [] (o ∷ os) [] f h k lt stop = stop_no at i h.1 f h.2 (subst (λ (n : ℕ). IsStop consts code n f) k stop)
    follow_no_stop at mid (i ∷ is) (j ∷ js) (o ∷ os) (p ∷ ps) f h k lt stop =
        let one = stand_once at i j h.1 k.1 h.2 k.2 in
        follow_no_stop h.1 mid is js os ps f h.3 (subst (λ (n : ℕ). Follow consts code n js ps mid) (sym one.1) k.3) lt stop
    follow_no_stop at mid [] js (o ∷ os) ps f h k lt stop = absurd h
    follow_no_stop at mid (i ∷ is) js [] ps f h k lt stop = absurd h
    follow_no_stop at mid is [] os (p ∷ ps) f h k lt stop = absurd k
    follow_no_stop at mid is (j ∷ js) os [] f h k lt stop = absurd k

    stop_once : (at : ℕ) (f g : CodeFault) → IsStop consts code at f → IsStop consts code at g → f ≡ g
    stop_once at f g (inl e) (inl h) = err_is f g (form_at code at) e h
    stop_once at f g (inl e) (inr (j, end, form, refused, is)) = absurd (ok_no j end f (sym form ∙ e))
    stop_once at f g (inr (i, end, form, refused, is)) (inl h) = absurd (ok_no i end g (sym form ∙ h))
    stop_once at f g (inr (i, m, form, refused, is)) (inr (j, n, other, no_more, also)) = is ∙ sym also

    pub stops_once : (at mid last : ℕ) (is js : List Instr) (os ps : List ℕ) (f g : CodeFault) → Follow consts code at is os mid → IsStop consts code mid f → Follow consts code at js ps last → IsStop consts code last g → f ≡ g
    stops_once at mid last [] [] [] [] f g h sf k sg = stop_once at f g (subst (λ (n : ℕ). IsStop consts code n f) h sf) (subst (λ (n : ℕ). IsStop consts code n g) k sg)
    stops_once at mid last [] (j ∷ js) [] (p ∷ ps) f g h sf k sg = absurd (stop_no at j k.1 f k.2 (subst (λ (n : ℕ). IsStop consts code n f) h sf))
    stops_once at mid last (i ∷ is) [] (o ∷ os) [] f g h sf k sg = absurd (stop_no at i h.1 g h.2 (subst (λ (n : ℕ). IsStop consts code n g) k sg))
    stops_once at mid last (i ∷ is) (j ∷ js) (o ∷ os) (p ∷ ps) f g h sf k sg =
        let one = stand_once at i j h.1 k.1 h.2 k.2 in
        stops_once h.1 mid last is js os ps f g h.3 sf (subst (λ (n : ℕ). Follow consts code n js ps last) (sym one.1) k.3) sg
    stops_once at mid last [] js (o ∷ os) ps f g h sf k sg = absurd h
    stops_once at mid last (i ∷ is) js [] ps f g h sf k sg = absurd h
    stops_once at mid last is [] os (p ∷ ps) f g h sf k sg = absurd k
    stops_once at mid last is (j ∷ js) os [] f g h sf k sg = absurd k

  -- ---- each offset is that of one instruction

  begins_from : (at : ℕ) (is : List Instr) (os : List ℕ) (end o k : ℕ) → Follow consts code at is os end → Begins os o k → at ≤ o
  begins_from at (i ∷ is) (p ∷ os) end o zero h b = let first : p ≡ o = cc in omega (arith, h.0, first)
  begins_from at (i ∷ is) (p ∷ os) end o (suc k) h b =
      let w = (form_within code at i h.1 h.2.form).grows in
      let rest = begins_from h.1 is os end o k h.3 b in
      omega (arith, w, rest)
  begins_from at [] [] end o k h b = absurd cc
  begins_from at _ _ end o k h b = absurd h

  pub begins_once : (at : ℕ) (is : List Instr) (os : List ℕ) (end o k l : ℕ) → Follow consts code at is os end → Begins os o k → Begins os o l → k ≡ l
  begins_once at (i ∷ is) (p ∷ os) end o zero zero h b c = refl
  begins_once at (i ∷ is) (p ∷ os) end o zero (suc l) h b c =
      let first : p ≡ o = cc in
      let w = (form_within code at i h.1 h.2.form).grows in
      let rest = begins_from h.1 is os end o l h.3 c in
      absurd (omega (arith, w, rest, h.0, first))
  begins_once at (i ∷ is) (p ∷ os) end o (suc k) zero h b c =
      let first : p ≡ o = cc in
      let w = (form_within code at i h.1 h.2.form).grows in
      let rest = begins_from h.1 is os end o k h.3 b in
      absurd (omega (arith, w, rest, h.0, first))
  begins_once at (i ∷ is) (p ∷ os) end o (suc k) (suc l) h b c = ap suc (begins_once h.1 is os end o k l h.3 b c)
  begins_once at [] [] end o k l h b c = absurd cc
  begins_once at _ _ end o k l h b c = absurd h

  -- each offset, and that of the end

  ends_from : (at : ℕ) (is : List Instr) (os : List ℕ) (end o k : ℕ) → Follow consts code at is os end → Begins (os ++ end ∷ []) o k → at ≤ o
  ends_from at [] [] end o zero h b = let first : end ≡ o = cc in omega (arith, h, first)
  ends_from at [] [] end o (suc k) h b = absurd cc
  ends_from at (i ∷ is) (p ∷ os) end o zero h b = let first : p ≡ o = cc in omega (arith, h.0, first)
  ends_from at (i ∷ is) (p ∷ os) end o (suc k) h b =
      let w = (form_within code at i h.1 h.2.form).grows in
      let rest = ends_from h.1 is os end o k h.3 b in
      omega (arith, w, rest)
  ends_from at [] (p ∷ os) end o k h b = absurd h
  ends_from at (i ∷ is) [] end o k h b = absurd h

  pub ends_once : (at : ℕ) (is : List Instr) (os : List ℕ) (end o k l : ℕ) → Follow consts code at is os end → Begins (os ++ end ∷ []) o k → Begins (os ++ end ∷ []) o l → k ≡ l
  ends_once at [] [] end o zero zero h b c = refl
  ends_once at [] [] end o zero (suc l) h b c = absurd (let n = c in cc)
  ends_once at [] [] end o (suc k) l h b c = absurd (let n = b in cc)
  ends_once at (i ∷ is) (p ∷ os) end o zero zero h b c = refl
  ends_once at (i ∷ is) (p ∷ os) end o zero (suc l) h b c =
      let first : p ≡ o = cc in
      let w = (form_within code at i h.1 h.2.form).grows in
      let rest = ends_from h.1 is os end o l h.3 c in
      absurd (omega (arith, w, rest, h.0, first))
  ends_once at (i ∷ is) (p ∷ os) end o (suc k) zero h b c =
      let first : p ≡ o = cc in
      let w = (form_within code at i h.1 h.2.form).grows in
      let rest = ends_from h.1 is os end o k h.3 b in
      absurd (omega (arith, w, rest, h.0, first))
  ends_once at (i ∷ is) (p ∷ os) end o (suc k) (suc l) h b c = ap suc (ends_once h.1 is os end o k l h.3 b c)
  ends_once at [] (p ∷ os) end o k l h b c = absurd h
  ends_once at (i ∷ is) [] end o k l h b c = absurd h

  -- each offset lies within the code

  pub begins_within : (at : ℕ) (is : List Instr) (os : List ℕ) (end o k : ℕ) → Follow consts code at is os end → Begins os o k → o < length code
  begins_within at (i ∷ is) (p ∷ os) end o zero h b =
      let first : p ≡ o = cc in
      let w = form_within code at i h.1 h.2.form in
      let grows = w.grows in
      let within = w.within in
      omega (arith, h.0, first)
  begins_within at (i ∷ is) (p ∷ os) end o (suc k) h b = begins_within h.1 is os end o k h.3 b
  begins_within at [] [] end o k h b = absurd cc
  begins_within at [] (p ∷ os) end o k h b = absurd h
  begins_within at (i ∷ is) [] end o k h b = absurd h

  pub as_many : (at : ℕ) (is : List Instr) (os : List ℕ) (end : ℕ) → Follow consts code at is os end → length os ≡ length is
  as_many at [] [] end h = refl
  as_many at (i ∷ is) (p ∷ os) end h = ap suc (as_many h.1 is os end h.3)
  as_many at [] (p ∷ os) end h = absurd h
  as_many at (i ∷ is) [] end h = absurd h

  -- no more instructions than bytes
  pub few : (at : ℕ) (is : List Instr) (os : List ℕ) (end : ℕ) → Follow consts code at is os end → at + length os ≤ end
  few at [] [] end h = omega (arith, h)
  few at (i ∷ is) (p ∷ os) end h =
      let w = (form_within code at i h.1 h.2.form).grows in
      let rest = few h.1 is os end h.3 in
      omega (arith, w, rest)
  few at [] (p ∷ os) end h = absurd h
  few at (i ∷ is) [] end h = absurd h
