-- A number that is read is the number that was written, and the other way round.
use Rattle.std.proofs.Common.{◌≡◌, ℕ, ◌+◌, ◌^◌, ◌<◌, ◌≤◌, Bool, true, false, cond, ltb, List, [], ◌∷◌, ◌++◌, length, get_or, take, drop, Result, Ok, Err, refl, sym, ap, ◌∙◌, arith, inl, inr, ◌⊎◌}
use Rattle.std.specs.Int.{Width, w16, w32, w64, byte_len, from_be_bytes, to_be_bytes}
use Rattle.std.proofs.lemmas.Bool.{cases_lt, ltb-true, ltb-false}
use Rattle.std.proofs.lemmas.List.{drop_at, drop-drop, take-append-drop, length-take, get_or-drop, get_or-take, get_or_past}
use Rattle.std.proofs.lemmas.Nat.{be_bytes_2, be_bytes_4, be_bytes_8}
use Rattle.je_consts.specs.declared.fault.ConstFault.{ConstFault}
use Rattle.je_consts.specs.declared.fault.ConstFault.TheVariants.{Truncated}
use Rattle.je_base.specs.Bytes.{u1}
use Rattle.je_consts.specs.Reading.{byte_of, byte_at, number_at, run_at}

-- ---- what a step gave

abbrev pub Read : Type 0 → Type 0
Read A = Result A ConstFault

-- which way a test went
pub chosen : {A : Type 0} (b : Bool) (x y z : A) → cond b x y ≡ z → ((b ≡ true) × (x ≡ z)) ⊎ ((b ≡ false) × (y ≡ z))
chosen true x y z e = inl (refl, e)
chosen false x y z e = inr (refl, e)

abbrev done : {A : Type 0} → A → Read A
done x = Ok x

pub ok_is : {A : Type 0} (x y : A) → done x ≡ done y → x ≡ y
ok_is x y e = cc

abbrev fault : {A : Type 0} → ConstFault → Read A
fault e = Err e

pub err_is : {A : Type 0} (d e : ConstFault) → fault {A = A} d ≡ fault {A = A} e → d ≡ e
err_is d e h = cc

-- ---- what is spelled between two offsets

abbrev pub IsBytes : List ℕ → Type 0
IsBytes bytes = (i : ℕ) → get_or bytes i 0 < 256

pub IsBytes-drop : (n : ℕ) (bytes : List ℕ) → IsBytes bytes → IsBytes (drop n bytes)
IsBytes-drop n bytes h i = rw get_or-drop (h (n + i))

IsBytes-take : (n : ℕ) (bytes : List ℕ) → IsBytes bytes → IsBytes (take n bytes)
IsBytes-take n bytes h i =
    elim (cases_lt i n) [
      | inl lt ↦ rw (get_or-take n bytes i 0 lt) (h i)
      | inr le ↦ rw (get_or_past (take n bytes) i 0 (omega (arith, length-take n bytes))) (omega arith)
    ]

pub record Spells (bytes : List ℕ) (at : ℕ) (text : List ℕ) (end : ℕ) : Type 0 where
  pub parts : drop at bytes ≡ text ++ drop end bytes
  pub len : end ≡ at + length text

-- what stands behind a front
pub behind : (bytes : List ℕ) (at : ℕ) (front rest : List ℕ) (n : ℕ) → drop at bytes ≡ front ++ rest → length front ≡ n → drop (at + n) bytes ≡ rest
behind bytes at front rest n e len = sym (drop-drop n at bytes) ∙ ap (drop n) e ∙ drop_at front rest n len

-- ---- bytes

byte_front : (at : ℕ) (rest : List ℕ) (x : ℕ × ℕ) → byte_of at rest ≡ Ok x → (tail : List ℕ) × (rest ≡ x.0 ∷ tail) × (x.1 ≡ at + 1)
byte_front at [] x e = absurd cc
byte_front at (b ∷ rest) x e = let is = ok_is (b, at + 1) x e in (rest, ap (λ (p : ℕ × ℕ). p.0 ∷ rest) is, sym (ap (λ (p : ℕ × ℕ). p.1) is))

pub byte_takes : (bytes : List ℕ) (at : ℕ) (x : ℕ × ℕ) → byte_at bytes at ≡ Ok x → Spells bytes at (u1 x.0) x.1
byte_takes bytes at x e =
    let f = byte_front at (drop at bytes) x e in
    let rest : drop (at + 1) bytes ≡ f.0 = behind bytes at (u1 x.0) f.0 1 f.1 refl in
    record { parts = rw (f.2, rest) f.1; len = f.2 }

byte_none : (at : ℕ) (rest : List ℕ) (d : ConstFault) → byte_of at rest ≡ Err d → (d ≡ Truncated at) × (rest ≡ [])
byte_none at [] d e = (sym (err_is {A = ℕ × ℕ} (Truncated at) d e), refl)
byte_none at (b ∷ rest) d e = absurd cc

pub byte_cut : (bytes : List ℕ) (at : ℕ) (d : ConstFault) → byte_at bytes at ≡ Err d → (d ≡ Truncated at) × (drop at bytes ≡ [])
byte_cut bytes at d e = byte_none at (drop at bytes) d e

-- ---- numbers

pub record IsWide (w : Width) (limit : ℕ) : Type 0 where
  pub len : (n : ℕ) → length (to_be_bytes w n) ≡ byte_len w
  pub back : (bytes : List ℕ) → length bytes ≡ byte_len w → IsBytes bytes → to_be_bytes w (from_be_bytes w bytes) ≡ bytes
  pub below : (bytes : List ℕ) → IsBytes bytes → from_be_bytes w bytes < limit
  pub some : 0 < limit

pub wide16 : IsWide w16 (2 ^ 16)
wide16 = record {
  len = λ n. refl;
  back = λ bytes len fits. be_bytes_2 bytes _ len fits refl;
  below = λ bytes fits. omega (arith, fits 0, fits 1);
  some = omega arith;
}

pub wide32 : IsWide w32 (2 ^ 32)
wide32 = record {
  len = λ n. refl;
  back = λ bytes len fits. be_bytes_4 bytes _ len fits refl;
  below = λ bytes fits. omega (arith, fits 0, fits 1, fits 2, fits 3);
  some = omega arith;
}

pub wide64 : IsWide w64 (2 ^ 64)
wide64 = record {
  len = λ n. refl;
  back = λ bytes len fits. be_bytes_8 bytes _ len fits refl;
  below = λ bytes fits. omega (arith, fits 0, fits 1, fits 2, fits 3, fits 4, fits 5, fits 6, fits 7);
  some = omega arith;
}

module _ (w : Width) (limit : ℕ) (wide : IsWide w limit) (bytes : List ℕ) (at : ℕ) where
  abbrev read : ℕ × ℕ
  read = (from_be_bytes w (take (byte_len w) (drop at bytes)), at + byte_len w)

  pub number_takes : (x : ℕ × ℕ) → IsBytes bytes → number_at w bytes at ≡ Ok x → Spells bytes at (to_be_bytes w x.0) x.1 × (x.0 < limit)
  number_takes x fits e =
      elim (chosen (ltb (length (drop at bytes)) (byte_len w)) (Err (Truncated at)) (Ok read) (Ok x) e) [
        | inl p ↦ absurd cc
        | inr g ↦
            let rest = drop at bytes in
            let is = ok_is read x g.1 in
            let long : byte_len w ≤ length rest = ltb-false _ _ g.0 in
            let front : to_be_bytes w read.0 ≡ take (byte_len w) rest = wide.back (take (byte_len w) rest) (omega (arith, length-take (byte_len w) rest)) (IsBytes-take (byte_len w) rest (IsBytes-drop at bytes fits)) in
            let parts : rest ≡ take (byte_len w) rest ++ drop (at + byte_len w) bytes = sym (take-append-drop (byte_len w) rest) ∙ ap (λ (t : List ℕ). take (byte_len w) rest ++ t) (drop-drop (byte_len w) at bytes) in
            let spelled : Spells bytes at (to_be_bytes w read.0) read.1 = record { parts = rw front parts; len = ap (λ (n : ℕ). at + n) (sym (wide.len read.0)) } in
            rw (← is) (spelled, wide.below (take (byte_len w) rest) (IsBytes-take (byte_len w) rest (IsBytes-drop at bytes fits)))
      ]

  pub number_cut : (d : ConstFault) → number_at w bytes at ≡ Err d → (d ≡ Truncated at) × (length (drop at bytes) < byte_len w)
  number_cut d e =
      elim (chosen (ltb (length (drop at bytes)) (byte_len w)) (Err (Truncated at)) (Ok read) (Err d) e) [
        | inl p ↦ (sym (err_is {A = ℕ × ℕ} (Truncated at) d p.1), ltb-true _ _ p.0)
        | inr g ↦ absurd cc
      ]

-- ---- runs of bytes

module _ (n : ℕ) (bytes : List ℕ) (at : ℕ) where
  abbrev run : List ℕ × ℕ
  run = (take n (drop at bytes), at + n)

  pub run_takes : (x : List ℕ × ℕ) → run_at n bytes at ≡ Ok x → Spells bytes at x.0 x.1 × (length x.0 ≡ n)
  run_takes x e =
      elim (chosen (ltb (length (drop at bytes)) n) (Err (Truncated at)) (Ok run) (Ok x) e) [
        | inl p ↦ absurd cc
        | inr g ↦
            let rest = drop at bytes in
            let is = ok_is run x g.1 in
            let long : n ≤ length rest = ltb-false _ _ g.0 in
            let len : length (take n rest) ≡ n = omega (arith, length-take n rest) in
            let parts : rest ≡ take n rest ++ drop (at + n) bytes = sym (take-append-drop n rest) ∙ ap (λ (t : List ℕ). take n rest ++ t) (drop-drop n at bytes) in
            let spelled : Spells bytes at (take n rest) (at + n) = record { parts = parts; len = ap (λ (k : ℕ). at + k) (sym len) } in
            rw (← is) (spelled, len)
      ]

  pub run_cut : (d : ConstFault) → run_at n bytes at ≡ Err d → (d ≡ Truncated at) × (length (drop at bytes) < n)
  run_cut d e =
      elim (chosen (ltb (length (drop at bytes)) n) (Err (Truncated at)) (Ok run) (Err d) e) [
        | inl p ↦ (sym (err_is {A = List ℕ × ℕ} (Truncated at) d p.1), ltb-true _ _ p.0)
        | inr g ↦ absurd cc
      ]
