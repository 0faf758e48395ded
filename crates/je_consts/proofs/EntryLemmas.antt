-- What comes of reading an entry: its parts, or the first one that does not stand.
use Rattle.std.proofs.Common.{◌≡◌, ℕ, ◌+◌, ◌^◌, ◌<◌, Bool, true, false, cond, eqb, List, [], ◌∷◌, ◌++◌, length, get_or, drop, Ok, Err, refl, sym, ap, subst, ◌∙◌, arith, inl, inr}
use Rattle.std.specs.Prelude.{replicate}
use Rattle.std.specs.Int.{Width, w16, w32, w64, byte_len, to_be_bytes}
use Rattle.std.proofs.Math.Facts.{sfits_to_z, Fits-of_lt}
use Rattle.std.proofs.lemmas.Int.{of_z-to_z}
use Rattle.std.proofs.lemmas.Bool.Decides.{eqb_tells}
use Rattle.std.proofs.lemmas.List.{length-replicate}
use Rattle.je_base.specs.Bytes.{u1, IsThere}
use Rattle.je_base.specs.Parts.{U1, U2, U4, U8, Run, part_bytes, FailsFirst, IsPartFault, Stands, Follows, Breaks}
use Rattle.je_base.specs.Text.{IsModifiedUtf8}
use Rattle.je_consts.specs.declared.fault.ConstFault.TheVariants.{Truncated, BadConst}
use Rattle.je_consts.specs.declared.constant.Const.{Const}
use Rattle.je_consts.specs.declared.constant.Const.TheVariants.{Utf8, Float, Double, Class, Str, Field, Method, InterfaceMethod, NameAndType, MethodHandle, MethodType, InvokeDynamic}
use Rattle.je_consts.specs.Tags.{IsKind}
use Rattle.je_consts.specs.Pool.{tag, Fits}
use Rattle.je_consts.specs.EntryParts.{Test, HasTag, HasKind, HasText, Passes, EntryFault, entry_format, Part, tag_part, info_parts, entry_parts}
use Rattle.je_consts.specs.Faults.{IsNoEntry, entry, no_tag}
use Rattle.je_consts.specs.Reading.{◌>>=◌, between, is_text, integer_of, long_of, byte_at, number_at, run_at, one_at, two_at, utf8_at, handle_at, info_at, entry_at}
use Rattle.je_consts.proofs.Texts.{between-true, outside, IsModifiedUtf8-from_test, is_text-true}
use Rattle.je_consts.proofs.FieldLemmas.{Read, IsBytes, IsBytes-drop, Spells, byte_takes, byte_cut, IsWide, wide16, wide32, wide64, number_takes, number_cut, run_takes, run_cut}

-- an entry stands there, up to an offset, or why none does
abbrev pub Comes : ℕ → List ℕ → ℕ → Read (Const × ℕ) → Type 0
Comes index bytes at (Ok x) = Fits x.0 × Follows entry_format bytes at (entry_parts x.0) x.1
Comes index bytes at (Err d) = (f : EntryFault) × IsNoEntry bytes at f × (d ≡ f index)

pub there_of : (bytes : List ℕ) (at : ℕ) (text : List ℕ) (end : ℕ) → Spells bytes at text end → IsThere bytes at text
there_of bytes at text end s = s.parts ∙ ap (λ (n : ℕ). text ++ drop n bytes) s.len

cut_at : ℕ → EntryFault
cut_at at index = Truncated at

-- a number of so many bytes, of which nothing is tested
record IsNumber (w : Width) (limit : ℕ) (part : ℕ → Part) : Type 0 where
  wide : IsWide w limit
  stands : (bytes : List ℕ) (at n : ℕ) → IsThere bytes at (to_be_bytes w n) → n < limit → Stands entry_format bytes at (part n)
  size : (n : ℕ) → length (part_bytes entry_format (part n)) ≡ byte_len w
  cut : (bytes : List ℕ) (at : ℕ) → length (drop at bytes) < byte_len w → IsPartFault entry_format bytes at (part 0) (cut_at at)

two : IsNumber w16 (2 ^ 16) (λ n. U2 n [])
unfolding cut_at
two = record { wide = wide16; stands = λ bytes at n there lt. (there, (lt, tt)); size = λ n. refl; cut = λ bytes at lt. inl (lt, refl) }

four : IsNumber w32 (2 ^ 32) (λ n. U4 n [])
unfolding cut_at
four = record { wide = wide32; stands = λ bytes at n there lt. (there, (lt, tt)); size = λ n. refl; cut = λ bytes at lt. inl (lt, refl) }

eight : IsNumber w64 (2 ^ 64) (λ n. U8 n [])
unfolding cut_at
eight = record { wide = wide64; stands = λ bytes at n there lt. (there, (lt, tt)); size = λ n. refl; cut = λ bytes at lt. inl (lt, refl) }

fails_alone : (at : ℕ) (test : Test) → (Passes test → ⊥) → FailsFirst entry_format at (test ∷ []) BadConst
fails_alone at test fails = record { passed = []; failed = test; others = []; tests_are = refl; pass = tt; fails = fails; fault_is = refl }

-- these are the parts behind the tag of this entry
abbrev IsEntry : ℕ → Const → List Part → Type 0
IsEntry t c ps = (ps ≡ info_parts c) × (tag c ≡ t)

-- a tag that is none of the fourteen
is_none : (t : ℕ) → (t ≡ 1 → ⊥) → (t ≡ 3 → ⊥) → (t ≡ 4 → ⊥) → (t ≡ 5 → ⊥) → (t ≡ 6 → ⊥) → (t ≡ 7 → ⊥) → (t ≡ 8 → ⊥) → (t ≡ 9 → ⊥) → (t ≡ 10 → ⊥) → (t ≡ 11 → ⊥) → (t ≡ 12 → ⊥) → (t ≡ 15 → ⊥) → (t ≡ 16 → ⊥) → (t ≡ 18 → ⊥) → (c : Const) → tag c ≡ t → ⊥
is_none t n1 n3 n4 n5 n6 n7 n8 n9 n10 n11 n12 n15 n16 n18 (Utf8 text) e = n1 (sym e)
is_none t n1 n3 n4 n5 n6 n7 n8 n9 n10 n11 n12 n15 n16 n18 _ e = omega (arith, e, n3, n4, n5, n6, n7, n8, n9, n10, n11, n12, n15, n16, n18)

module _ (index : ℕ) (bytes : List ℕ) (fits : IsBytes bytes) where
  -- ---- one part after the other

  -- the parts that an entry has left stand there, or the first of them that does not
  abbrev Ends : (Const → List Part → Type 0) → ℕ → Read (Const × ℕ) → Type 0
  Ends K at (Ok x) = (ps : List Part) × K x.0 ps × Follows entry_format bytes at ps x.1 × Fits x.0
  Ends K at (Err d) = (c : Const) × (ps : List Part) × (f : EntryFault) × K c ps × Breaks entry_format bytes at ps f × (d ≡ f index)

  ends_then : (K : Const → List Part → Type 0) (at : ℕ) (p : Part) (mid : ℕ) → Stands entry_format bytes at p → mid ≡ at + length (part_bytes entry_format p) → (r : Read (Const × ℕ)) → Ends (λ c ps. K c (p ∷ ps)) mid r → Ends K at r
  ends_then K at p mid stands mid_is (Ok x) h = (p ∷ h.0, h.1, (stands.0, stands.1, subst (λ (n : ℕ). Follows entry_format bytes n h.0 x.1) mid_is h.2), h.3)
  ends_then K at p mid stands mid_is (Err d) h = (h.0, p ∷ h.1, h.2, h.3, inr (stands.0, stands.1, subst (λ (n : ℕ). Breaks entry_format bytes n h.1 h.2) mid_is h.4), h.5)

  number_then : (K : Const → List Part → Type 0) (w : Width) (limit : ℕ) (part : ℕ → Part) → IsNumber w limit part → (more : ℕ × ℕ → Read (Const × ℕ)) → ((c : Const) × (ps : List Part) × K c (part 0 ∷ ps))
      → ((n mid : ℕ) → n < limit → Ends (λ c ps. K c (part n ∷ ps)) mid (more (n, mid))) → (at : ℕ) → Ends K at (number_at w bytes at >>= more)
  unfolding cut_at
  number_then K w limit part number more some rest at = by (number_at w bytes at) refl
    where
      by : (m : Read (ℕ × ℕ)) → number_at w bytes at ≡ m → Ends K at (m >>= more)
      by (Err d) read = let k = number_cut w limit number.wide bytes at d read in (some.0, part 0 ∷ some.1, cut_at at, some.2, inl (number.cut bytes at k.1), k.0)
      by (Ok x) read =
          let k = number_takes w limit number.wide bytes at x fits read in
          ends_then K at (part x.0) x.1 (number.stands bytes at x.0 (there_of bytes at (to_be_bytes w x.0) x.1 k.0) k.1) (omega (arith, k.0.len, number.wide.len x.0, number.size x.0)) (more x) (rest x.0 x.1 k.1)

  -- ---- behind each tag

  one_ends : (w : Width) (limit : ℕ) (part : ℕ → Part) → IsNumber w limit part → (t : ℕ) (make : ℕ → Const) → ((n : ℕ) → n < limit → IsEntry t (make n) (part n ∷ []) × Fits (make n)) → (at : ℕ) → Ends (IsEntry t) at (one_at w make bytes at)
  unfolding one_at
  one_ends w limit part number t make is =
      number_then (IsEntry t) w limit part number (λ n. Ok (make n.0, n.1)) (make 0, [], (is 0 number.wide.some).0) (λ n mid lt. let h = is n lt in ([], h.0, refl, h.1))

  two_ends : (t : ℕ) (make : ℕ → ℕ → Const) → ((a b : ℕ) → IsEntry t (make a b) (U2 a [] ∷ U2 b [] ∷ [])) → ((a b : ℕ) → a < 2 ^ 16 → b < 2 ^ 16 → Fits (make a b)) → (at : ℕ) → Ends (IsEntry t) at (two_at make bytes at)
  unfolding two_at
  two_ends t make is has =
      number_then (IsEntry t) w16 (2 ^ 16) (λ n. U2 n []) two (λ first. number_at w16 bytes first.1 >>= λ second. Ok (make first.0 second.0, second.1)) (make 0 0, U2 0 [] ∷ [], is 0 0)
      (λ a mid lt. number_then (λ c ps. IsEntry t c (U2 a [] ∷ ps)) w16 (2 ^ 16) (λ n. U2 n []) two (λ second. Ok (make a second.0, second.1)) (make a 0, [], is a 0) (λ b end lt'. ([], is a b, refl, has a b lt lt')) mid)

  text_ends : (n : ℕ) → n < 2 ^ 16 → (at : ℕ) → Ends (λ c ps. IsEntry 1 c (U2 n [] ∷ ps)) at (run_at n bytes at >>= λ text. cond (is_text text.0) (Ok (Utf8 text.0, text.1)) (Err (BadConst index)))
  unfolding cut_at
  text_ends n lt at = by (run_at n bytes at) refl
    where
      is_entry : (text : List ℕ) → length text ≡ n → IsEntry 1 (Utf8 text) (U2 n [] ∷ Run text (HasText text ∷ []) ∷ [])
      is_entry text len = (ap (λ (k : ℕ). U2 k [] ∷ Run text (HasText text ∷ []) ∷ []) (sym len), refl)

      tested : (text : List ℕ) (end : ℕ) → IsThere bytes at text → end ≡ at + length text → length text ≡ n → (b : Bool) → is_text text ≡ b → Ends (λ c ps. IsEntry 1 c (U2 n [] ∷ ps)) at (cond b (Ok (Utf8 text, end)) (Err (BadConst index)))
      tested text end there end_is len true e =
          let form = IsModifiedUtf8-from_test text e in
          (Run text (HasText text ∷ []) ∷ [], is_entry text len, (there, (form, tt), end_is), (omega (arith, lt, len), form))
      tested text end there end_is len false e =
          let no_text : IsModifiedUtf8 text → ⊥ = λ form. let yes = is_text-true text form in absurd cc in
          (Utf8 text, Run text (HasText text ∷ []) ∷ [], BadConst, is_entry text len, inl (inr (there, fails_alone at (HasText text) no_text)), refl)

      by : (m : Read (List ℕ × ℕ)) → run_at n bytes at ≡ m → Ends (λ c ps. IsEntry 1 c (U2 n [] ∷ ps)) at (m >>= λ text. cond (is_text text.0) (Ok (Utf8 text.0, text.1)) (Err (BadConst index)))
      by (Err d) read =
          let k = run_cut n bytes at d read in
          let zeros = replicate n 0 in
          let len : length zeros ≡ n = length-replicate n 0 in
          (Utf8 zeros, Run zeros (HasText zeros ∷ []) ∷ [], cut_at at, is_entry zeros len, inl (inl (omega (arith, k.1, len), refl)), k.0)
      by (Ok x) read = let k = run_takes n bytes at x read in tested x.0 x.1 (there_of bytes at x.0 x.1 k.0) k.0.len k.1 (is_text x.0) refl

  utf8_ends : (at : ℕ) → Ends (IsEntry 1) at (utf8_at index bytes at)
  unfolding utf8_at
  utf8_ends = number_then (IsEntry 1) w16 (2 ^ 16) (λ n. U2 n []) two (λ n. run_at n.0 bytes n.1 >>= λ text. cond (is_text text.0) (Ok (Utf8 text.0, text.1)) (Err (BadConst index))) (Utf8 [], Run [] (HasText [] ∷ []) ∷ [], (refl, refl)) (λ n mid lt. text_ends n lt mid)

  byte_below : (at b : ℕ) → IsThere bytes at (u1 b) → b < 2 ^ 8
  byte_below at b there = subst (λ (t : List ℕ). get_or t 0 0 < 256) there (IsBytes-drop at bytes fits 0)

  handle_ends : (at : ℕ) → Ends (IsEntry 15) at (handle_at index bytes at)
  unfolding handle_at one_at cut_at
  handle_ends at = by (byte_at bytes at) refl
    where
      is_entry : (kind member : ℕ) → IsEntry 15 (MethodHandle kind member) (U1 kind (HasKind kind ∷ []) ∷ U2 member [] ∷ [])
      is_entry kind member = (refl, refl)

      tested : (kind mid : ℕ) → IsThere bytes at (u1 kind) → mid ≡ at + 1 → (b : Bool) → between 1 9 kind ≡ b → Ends (IsEntry 15) at (cond b (number_at w16 bytes mid >>= λ n. Ok (MethodHandle kind n.0, n.1)) (Err (BadConst index)))
      tested kind mid there mid_is true e =
          let within : IsKind kind = between-true 1 9 kind e in
          ends_then (IsEntry 15) at (U1 kind (HasKind kind ∷ [])) mid (there, (omega (arith, within.1), (within, tt))) mid_is _
          (number_then (λ c ps. IsEntry 15 c (U1 kind (HasKind kind ∷ []) ∷ ps)) w16 (2 ^ 16) (λ n. U2 n []) two (λ n. Ok (MethodHandle kind n.0, n.1)) (MethodHandle kind 0, [], is_entry kind 0) (λ n end lt. ([], is_entry kind n, refl, (within, lt))) mid)
      tested kind mid there mid_is false e =
          let no_kind : IsKind kind → ⊥ = λ within. elim (outside 1 9 kind e) [ inl lt ↦ omega (arith, within.0) | inr lt ↦ omega (arith, within.1) ] in
          (MethodHandle kind 0, U1 kind (HasKind kind ∷ []) ∷ U2 0 [] ∷ [], BadConst, is_entry kind 0, inl (inr (there, byte_below at kind there, fails_alone at (HasKind kind) no_kind)), refl)

      by : (m : Read (ℕ × ℕ)) → byte_at bytes at ≡ m → Ends (IsEntry 15) at (m >>= λ kind. cond (between 1 9 kind.0) (number_at w16 bytes kind.1 >>= λ n. Ok (MethodHandle kind.0 n.0, n.1)) (Err (BadConst index)))
      by (Err d) read =
          let k = byte_cut bytes at d read in
          (MethodHandle 0 0, U1 0 (HasKind 0 ∷ []) ∷ U2 0 [] ∷ [], cut_at at, is_entry 0 0, inl (inl (rw k.1 (omega arith), refl)), k.0)
      by (Ok x) read = let k = byte_takes bytes at x read in tested x.0 x.1 (there_of bytes at (u1 x.0) x.1 k) k.len (between 1 9 x.0) refl

  -- ---- entries

  module _ (at t : ℕ) (there : IsThere bytes at (u1 t)) where
    below : t < 2 ^ 8
    below = byte_below at t there

    -- a tag stands there, and behind it an entry of it
    behind_tag : (r : Read (Const × ℕ)) → Ends (IsEntry t) (at + 1) r → Comes index bytes at r
    behind_tag (Ok x) h = (h.3, rw h.1.1 (there, (below, ((x.0, h.1.1), tt)), rw (← h.1.0) h.2))
    behind_tag (Err d) h = (h.2, (entry_parts h.0, entry h.0, inr (rw h.3.1 (there, (below, ((h.0, h.3.1), tt)), rw (← h.3.0) h.4))), h.5)

  module _ (at : ℕ) where
    -- the tag is this one, or another
    tried : (t k : ℕ) (r s : Read (Const × ℕ)) → Ends (IsEntry k) (at + 1) r → ((t ≡ k → ⊥) → Comes index bytes at s) → IsThere bytes at (u1 t) → Comes index bytes at (cond (eqb t k) r s)
    tried t k r s same other there =
        elim (eqb_tells t k) [
          | inl p ↦ rw p.0 (behind_tag at t there r (rw p.1 same))
          | inr q ↦ rw q.0 (other q.1)
        ]

    info_comes : (t : ℕ) → IsThere bytes at (u1 t) → Comes index bytes at (info_at index t bytes (at + 1))
    unfolding info_at
    info_comes t there =
        tried t 1 _ _ (utf8_ends (at + 1)) (λ n1.
        tried t 3 _ _ (one_ends w32 (2 ^ 32) (λ n. U4 n []) four 3 integer_of (λ n lt. ((ap (λ (k : ℕ). U4 k [] ∷ []) (sym (of_z-to_z w32 n lt)), refl), sfits_to_z {w = w32} {n = n} (Fits-of_lt {w = w32} {n = n} lt))) (at + 1)) (λ n3.
        tried t 4 _ _ (one_ends w32 (2 ^ 32) (λ n. U4 n []) four 4 Float (λ n lt. ((refl, refl), lt)) (at + 1)) (λ n4.
        tried t 5 _ _ (one_ends w64 (2 ^ 64) (λ n. U8 n []) eight 5 long_of (λ n lt. ((ap (λ (k : ℕ). U8 k [] ∷ []) (sym (of_z-to_z w64 n lt)), refl), sfits_to_z {w = w64} {n = n} (Fits-of_lt {w = w64} {n = n} lt))) (at + 1)) (λ n5.
        tried t 6 _ _ (one_ends w64 (2 ^ 64) (λ n. U8 n []) eight 6 Double (λ n lt. ((refl, refl), lt)) (at + 1)) (λ n6.
        tried t 7 _ _ (one_ends w16 (2 ^ 16) (λ n. U2 n []) two 7 Class (λ n lt. ((refl, refl), lt)) (at + 1)) (λ n7.
        tried t 8 _ _ (one_ends w16 (2 ^ 16) (λ n. U2 n []) two 8 Str (λ n lt. ((refl, refl), lt)) (at + 1)) (λ n8.
        tried t 9 _ _ (two_ends 9 Field (λ a b. (refl, refl)) (λ a b lt lt'. (lt, lt')) (at + 1)) (λ n9.
        tried t 10 _ _ (two_ends 10 Method (λ a b. (refl, refl)) (λ a b lt lt'. (lt, lt')) (at + 1)) (λ n10.
        tried t 11 _ _ (two_ends 11 InterfaceMethod (λ a b. (refl, refl)) (λ a b lt lt'. (lt, lt')) (at + 1)) (λ n11.
        tried t 12 _ _ (two_ends 12 NameAndType (λ a b. (refl, refl)) (λ a b lt lt'. (lt, lt')) (at + 1)) (λ n12.
        tried t 15 _ _ (handle_ends (at + 1)) (λ n15.
        tried t 16 _ _ (one_ends w16 (2 ^ 16) (λ n. U2 n []) two 16 MethodType (λ n lt. ((refl, refl), lt)) (at + 1)) (λ n16.
        tried t 18 _ _ (two_ends 18 InvokeDynamic (λ a b. (refl, refl)) (λ a b lt lt'. (lt, lt')) (at + 1)) (λ n18.
        let none = is_none t n1 n3 n4 n5 n6 n7 n8 n9 n10 n11 n12 n15 n16 n18 in
        (BadConst, (tag_part t ∷ [], no_tag t none, inl (inr (there, below at t there, fails_alone at (HasTag t) (λ has. none has.0 has.1)))), refl)
        ) there) there) there) there) there) there) there) there) there) there) there) there) there) there

    pub entry_comes : (r : Read (Const × ℕ)) → entry_at index bytes at ≡ r → Comes index bytes at r
    unfolding entry_at cut_at
    entry_comes r e = subst (Comes index bytes at) e (by (byte_at bytes at) refl)
      where
        by : (m : Read (ℕ × ℕ)) → byte_at bytes at ≡ m → Comes index bytes at (m >>= λ t. info_at index t.0 bytes t.1)
        by (Err d) read = let k = byte_cut bytes at d read in (cut_at at, (entry_parts (Class 0), entry (Class 0), inl (inl (rw k.1 (omega arith), refl))), k.0)
        by (Ok x) read = let k = byte_takes bytes at x read in rw k.len (info_comes x.0 (there_of bytes at (u1 x.0) x.1 k))
