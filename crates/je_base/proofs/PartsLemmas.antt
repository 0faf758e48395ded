-- Parts of one layout come to one answer at an offset: nothing else stands there, and no other fault is the first.
use Rattle.std.proofs.Common.{◌≡◌, ℕ, ◌+◌, ◌^◌, ◌<◌, List, [], ◌∷◌, ◌++◌, length, drop, Result, Ok, Err, refl, sym, ap, subst, ◌∙◌, arith, inl, inr, ◌⊎◌}
use Rattle.std.specs.List.{AllByRecursion}
use Rattle.je_base.specs.Bytes.{u1, u2, u4, u8, IsThere, OneReading}
use Rattle.je_base.specs.Parts.{Part, U1, U2, U4, U8, Run, Nested, Format, part_bytes, IsCut, FailsFirst, IsPartFault, Stands, Follows, Breaks, Comes, IsSameSort, AreOneLayout, Agree, OneValue, OneWay}

all_split : {A : Type 0} (P : A → Type 0) (xs ys : List A) → AllByRecursion P (xs ++ ys) → AllByRecursion P xs × AllByRecursion P ys
all_split P [] ys h = (tt, h)
all_split P (x ∷ xs) ys h = let s = all_split P xs ys h.1 in ((h.0, s.0), s.1)

one_byte : (m n : ℕ) → m < 2 ^ 8 → n < 2 ^ 8 → u1 m ≡ u1 n → m ≡ n
one_byte m n lm ln e = cc

module _ {Test Value Fault : Type 0} (format : Format Test Value Fault) where
  -- ---- tests

  failing : (ps qs : List Test) (p q : Test) (rs ss : List Test) → ps ++ p ∷ rs ≡ qs ++ q ∷ ss → AllByRecursion format.Passes ps → (format.Passes p → ⊥) → AllByRecursion format.Passes qs → (format.Passes q → ⊥) → p ≡ q
  failing [] [] p q rs ss e hp fp hq fq = cc
  failing [] (x ∷ qs) p q rs ss e hp fp hq fq = let same : x ≡ p = cc in absurd (fp (subst format.Passes same hq.0))
  failing (x ∷ ps) [] p q rs ss e hp fp hq fq = let same : x ≡ q = cc in absurd (fq (subst format.Passes same hp.0))
  failing (x ∷ ps) (y ∷ qs) p q rs ss e hp fp hq fq = let rest : ps ++ p ∷ rs ≡ qs ++ q ∷ ss = cc in failing ps qs p q rs ss rest hp.1 fp hq.1 fq

  fails_one : (at : ℕ) (tests : List Test) (d e : Fault) → FailsFirst format at tests d → FailsFirst format at tests e → d ≡ e
  fails_one at tests d e f g =
      let same = failing f.passed g.passed f.failed g.failed f.others g.others (sym f.tests_are ∙ g.tests_are) f.pass f.fails g.pass g.fails in
      f.fault_is ∙ ap (λ (t : Test). format.fault_of t at) same ∙ sym g.fault_is

  fails_not : (at : ℕ) (tests : List Test) (d : Fault) → FailsFirst format at tests d → AllByRecursion format.Passes tests → ⊥
  fails_not at tests d f all = f.fails ((all_split format.Passes f.passed (f.failed ∷ f.others) (subst (AllByRecursion format.Passes) f.tests_are all)).1.0)

  module _ (one : OneReading) (bytes : List ℕ) (at : ℕ) where
    -- ---- numbers of so many bytes

    too_short : (text : List ℕ) (n : ℕ) → length text ≡ n → IsThere bytes at text → length (drop at bytes) < n → ⊥
    too_short text n len there lt = omega (arith, one.whole bytes text at there)

    module _ (size limit : ℕ) (text : ℕ → List ℕ) (sized : (n : ℕ) → length (text n) ≡ size) (once : (m n : ℕ) → m < limit → n < limit → text m ≡ text n → m ≡ n) where
      abbrev NumberStands : ℕ → List Test → Type 0
      NumberStands n tests = IsThere bytes at (text n) × ((n < limit) × AllByRecursion format.Passes tests)

      abbrev NumberFault : ℕ → List Test → Fault → Type 0
      NumberFault n tests d = IsCut format bytes at size d ⊎ (IsThere bytes at (text n) × (n < limit) × FailsFirst format at tests d)

      same_number : (n m : ℕ) → n < limit → m < limit → IsThere bytes at (text n) → IsThere bytes at (text m) → n ≡ m
      same_number n m ln lm hn hm = once n m ln lm (one.run bytes (text n) (text m) at (sized n ∙ sym (sized m)) hn hm)

      module _ (n m : ℕ) (tests others : List Test) (sort : n ≡ m → tests ≡ others) where
        number_same : NumberStands n tests → NumberStands m others → (n ≡ m) × (tests ≡ others)
        number_same h k = let same = same_number n m h.1.0 k.1.0 h.0 k.0 in (same, sort same)

        number_no_fault : (d : Fault) → NumberStands n tests → NumberFault m others d → ⊥
        number_no_fault d h (inl cut) = too_short (text n) size (sized n) h.0 cut.0
        number_no_fault d h (inr f) =
            let same = same_number n m h.1.0 f.1 h.0 f.0 in
            fails_not at others d f.2 (subst (AllByRecursion format.Passes) (sort same) h.1.1)

        number_one_fault : (d e : Fault) → NumberFault n tests d → NumberFault m others e → d ≡ e
        number_one_fault d e (inl f) (inl k) = f.1 ∙ sym k.1
        number_one_fault d e (inl f) (inr k) = absurd (too_short (text m) size (sized m) k.0 f.0)
        number_one_fault d e (inr f) (inl k) = absurd (too_short (text n) size (sized n) f.0 k.0)
        number_one_fault d e (inr f) (inr k) =
            let same = same_number n m f.1 k.1 f.0 k.0 in
            fails_one at others d e (subst (λ (ts : List Test). FailsFirst format at ts d) (sort same) f.2) k.2

    -- ---- runs of so many bytes

    abbrev RunFault : List ℕ → List Test → Fault → Type 0
    RunFault x ts d = IsCut format bytes at (length x) d ⊎ (IsThere bytes at x × FailsFirst format at ts d)

    module _ (x y : List ℕ) (ts us : List Test) (len : length x ≡ length y) (sort : x ≡ y → ts ≡ us) where
      run_no_fault : (d : Fault) → IsThere bytes at x × AllByRecursion format.Passes ts → RunFault y us d → ⊥
      run_no_fault d h (inl cut) = too_short x (length y) len h.0 cut.0
      run_no_fault d h (inr f) = fails_not at us d f.1 (subst (AllByRecursion format.Passes) (sort (one.run bytes x y at len h.0 f.0)) h.1)

      run_one_fault : (d e : Fault) → RunFault x ts d → RunFault y us e → d ≡ e
      run_one_fault d e (inl f) (inl k) = f.1 ∙ sym k.1
      run_one_fault d e (inl f) (inr k) = absurd (too_short y (length x) (sym len) k.0 f.0)
      run_one_fault d e (inr f) (inl k) = absurd (too_short x (length y) len f.0 k.0)
      run_one_fault d e (inr f) (inr k) =
          fails_one at us d e (subst (λ (tests : List Test). FailsFirst format at tests d) (sort (one.run bytes x y at len f.0 k.0)) f.1) k.1

    -- ---- single parts

    -- at this offset stands one of the two or the other, or there is one fault
    record OnePart (x y : Part Test Value) : Type 0 where
      pub same : Stands format bytes at x → Stands format bytes at y → x ≡ y
      pub no_fault : (d : Fault) → Stands format bytes at x → IsPartFault format bytes at y d → ⊥
      pub one_fault : (d e : Fault) → IsPartFault format bytes at x d → IsPartFault format bytes at y e → d ≡ e

    part_one : OneValue format → (x y : Part Test Value) → IsSameSort x y → OnePart x y
    part_one values (U1 n ts) (U1 m us) sort = record {
      same = λ h k. let e = number_same 1 (2 ^ 8) u1 (λ i. refl) one_byte n m ts us sort h k in cc (e.0, e.1);
      no_fault = number_no_fault 1 (2 ^ 8) u1 (λ i. refl) one_byte n m ts us sort;
      one_fault = number_one_fault 1 (2 ^ 8) u1 (λ i. refl) one_byte n m ts us sort;
    }
    part_one values (U2 n ts) (U2 m us) sort = record {
      same = λ h k. let e = number_same 2 (2 ^ 16) u2 (λ i. refl) one.two n m ts us sort h k in cc (e.0, e.1);
      no_fault = number_no_fault 2 (2 ^ 16) u2 (λ i. refl) one.two n m ts us sort;
      one_fault = number_one_fault 2 (2 ^ 16) u2 (λ i. refl) one.two n m ts us sort;
    }
    part_one values (U4 n ts) (U4 m us) sort = record {
      same = λ h k. let e = number_same 4 (2 ^ 32) u4 (λ i. refl) one.four n m ts us sort h k in cc (e.0, e.1);
      no_fault = number_no_fault 4 (2 ^ 32) u4 (λ i. refl) one.four n m ts us sort;
      one_fault = number_one_fault 4 (2 ^ 32) u4 (λ i. refl) one.four n m ts us sort;
    }
    part_one values (U8 n ts) (U8 m us) sort = record {
      same = λ h k. let e = number_same 8 (2 ^ 64) u8 (λ i. refl) one.eight n m ts us sort h k in cc (e.0, e.1);
      no_fault = number_no_fault 8 (2 ^ 64) u8 (λ i. refl) one.eight n m ts us sort;
      one_fault = number_one_fault 8 (2 ^ 64) u8 (λ i. refl) one.eight n m ts us sort;
    }
    part_one values (Run x ts) (Run y us) sort = record {
      same = λ h k. let e = one.run bytes x y at sort.0 h.0 k.0 in let tests = sort.1 e in cc;
      no_fault = run_no_fault x y ts us sort.0 sort.1;
      one_fault = run_one_fault x y ts us sort.0 sort.1;
    }
    part_one values (Nested v) (Nested w) sort = record {
      same = λ h k. ap Nested (values.same bytes at v w h k);
      no_fault = λ d h k. values.no_fault bytes at v d h k;
      one_fault = λ d e f k. values.one_fault bytes at d e f k;
    }
    part_one values _ _ sort = absurd sort

  sort_back : (x y : Part Test Value) → IsSameSort x y → IsSameSort y x
  sort_back (U1 n ts) (U1 m us) sort = λ e. sym (sort (sym e))
  sort_back (U2 n ts) (U2 m us) sort = λ e. sym (sort (sym e))
  sort_back (U4 n ts) (U4 m us) sort = λ e. sym (sort (sym e))
  sort_back (U8 n ts) (U8 m us) sort = λ e. sym (sort (sym e))
  sort_back (Run x ts) (Run y us) sort = (sym sort.0, λ e. sym (sort.1 (sym e)))
  sort_back (Nested v) (Nested w) sort = tt
  sort_back _ _ sort = absurd sort

  -- ---- one after the other

  module _ (one : OneReading) (values : OneValue format) (bytes : List ℕ) where
    both_stand : (at a b : ℕ) (xs ys : List (Part Test Value)) → AreOneLayout xs ys → Follows format bytes at xs a → Follows format bytes at ys b → (xs ≡ ys) × (a ≡ b)
    both_stand at a b [] [] layout h k = (refl, h ∙ sym k)
    both_stand at a b (x ∷ xs) (y ∷ ys) layout h k =
        let same = (part_one one bytes at values x y layout.0).same (h.0, h.1) (k.0, k.1) in
        let there = subst (λ (p : Part Test Value). Follows format bytes (at + length (part_bytes format p)) ys b) (sym same) k.2 in
        let rest = both_stand (at + length (part_bytes format x)) a b xs ys (layout.1 same) h.2 there in
        (cc (same, rest.0), rest.1)
    both_stand at a b _ _ layout h k = absurd layout

    stands_alone : (at a : ℕ) (xs ys : List (Part Test Value)) (d : Fault) → AreOneLayout xs ys → Follows format bytes at xs a → Breaks format bytes at ys d → ⊥
    stands_alone at a [] [] d layout h k = k
    stands_alone at a (x ∷ xs) (y ∷ ys) d layout h (inl f) = (part_one one bytes at values x y layout.0).no_fault d (h.0, h.1) f
    stands_alone at a (x ∷ xs) (y ∷ ys) d layout h (inr k) =
        let same = (part_one one bytes at values x y layout.0).same (h.0, h.1) (k.0, k.1) in
        let there = subst (λ (p : Part Test Value). Breaks format bytes (at + length (part_bytes format p)) ys d) (sym same) k.2 in
        stands_alone (at + length (part_bytes format x)) a xs ys d (layout.1 same) h.2 there
    stands_alone at a _ _ d layout h k = absurd layout

    both_break : (at : ℕ) (xs ys : List (Part Test Value)) (d e : Fault) → AreOneLayout xs ys → Breaks format bytes at xs d → Breaks format bytes at ys e → d ≡ e
    both_break at [] [] d e layout h k = absurd h
    both_break at (x ∷ xs) (y ∷ ys) d e layout (inl f) (inl k) = (part_one one bytes at values x y layout.0).one_fault d e f k
    both_break at (x ∷ xs) (y ∷ ys) d e layout (inl f) (inr k) = absurd ((part_one one bytes at values y x (sort_back x y layout.0)).no_fault d (k.0, k.1) f)
    both_break at (x ∷ xs) (y ∷ ys) d e layout (inr h) (inl f) = absurd ((part_one one bytes at values x y layout.0).no_fault e (h.0, h.1) f)
    both_break at (x ∷ xs) (y ∷ ys) d e layout (inr h) (inr k) =
        let same = (part_one one bytes at values x y layout.0).same (h.0, h.1) (k.0, k.1) in
        let there = subst (λ (p : Part Test Value). Breaks format bytes (at + length (part_bytes format p)) ys e) (sym same) k.2 in
        both_break (at + length (part_bytes format x)) xs ys d e (layout.1 same) h.2 there
    both_break at _ _ d e layout h k = absurd layout

    layout_back : (xs ys : List (Part Test Value)) → AreOneLayout xs ys → AreOneLayout ys xs
    layout_back [] [] layout = tt
    layout_back (x ∷ xs) (y ∷ ys) layout = (sort_back x y layout.0, λ e. layout_back xs ys (layout.1 (sym e)))
    layout_back _ _ layout = absurd layout

    agree : (at : ℕ) (xs ys : List (Part Test Value)) (o p : Result ℕ Fault) → AreOneLayout xs ys → Comes format bytes at xs o → Comes format bytes at ys p → Agree xs ys o p
    agree at xs ys (Ok a) (Ok b) layout h k = both_stand at a b xs ys layout h.goes k.goes
    agree at xs ys (Ok a) (Err e) layout h k = stands_alone at a xs ys e layout h.goes k.goes
    agree at xs ys (Err d) (Ok b) layout h k = stands_alone at b ys xs d (layout_back xs ys layout) k.goes h.goes
    agree at xs ys (Err d) (Err e) layout h k = both_break at xs ys d e layout h.goes k.goes

  pub one_way : OneReading → OneValue format → OneWay format
  one_way one values = record { agree = λ bytes at xs ys o p layout h k. agree one values bytes at xs ys o p layout h k }
