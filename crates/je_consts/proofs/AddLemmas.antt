-- Places with more behind them: what the indexes hold, and what the entries name.
use Rattle.std.proofs.Common.{◌≡◌, ℕ, zero, suc, ◌+◌, ◌^◌, ◌≤◌, ◌<◌, List, [], ◌∷◌, ◌++◌, length, Some, IsSomeAnd, Bool, true, false, add-one, refl, ap, ◌∙◌, append_assoc, arith, length-append, inl, inr}
use Rattle.std.specs.Prelude.{Option, Result, Ok, Err, IfOk, OnOk, OnErr, slice_get, option_and_then}
use Rattle.std.specs.Option.{option_map}
use Rattle.std.specs.List.{AllByRecursion}
use Rattle.std.proofs.lemmas.Bool.{cases_lt}
use Rattle.je_consts.specs.declared.constant.Const.{Const}
use Rattle.je_consts.specs.declared.constant.Const.TheVariants.{Utf8, Integer, Float, Long, Double, Class, Str, Field, Method, InterfaceMethod, NameAndType, MethodHandle, MethodType, InvokeDynamic}
use Rattle.je_consts.specs.declared.constant.MemberTag.{MemberTag}
use Rattle.je_consts.specs.declared.constant.MemberTag.TheVariants as tags
use Rattle.je_consts.specs.declared.fault.PoolStop.{PoolStop}
use Rattle.je_consts.specs.declared.place.Place.{Place}
use Rattle.je_consts.specs.declared.place.Place.TheVariants.{Entry, Second}
use Rattle.je_consts.specs.Pool.{tag, is_wide, taken_by, places_of, entry_of, const_at, tag_at, text_of, text_at, class_of, class_at, NamesAndTypes, IsMemberTag, Names, Fits, OfEntry, IsPool}
use Rattle.je_consts.specs.Adding.{IsLeastIndex, Keeps, member_of, NamesMember}
use Rattle.je_consts.proofs.SpacedLemmas.{All-append, IsSpaced-append, IsSpaced-places_of, All-places_of}

-- ---- searching

at_next : (places : List Place) (i : ℕ) (p : Place) (c : Const) → slice_get places i ≡ Some p → entry_of p ≡ Some c → const_at places (i + 1) ≡ Some c
at_next places i p c is e = rw (add-one, is) e

pub here_first : (places : List Place) (i : ℕ) (p : Place) (c : Const) → slice_get places i ≡ Some p → entry_of p ≡ Some c → ((k : ℕ) → k < i + 1 → const_at places k ≡ Some c → ⊥) → IsLeastIndex places c (i + 1)
here_first places i p c is e before = record {
  here = at_next places i p c is e;
  least = λ k h. elim (cases_lt k (i + 1)) [ inl lt ↦ absurd (before k lt h) | inr le ↦ le ];
}

not_next : (places : List Place) (i : ℕ) (p : Place) (c : Const) → slice_get places i ≡ Some p → (entry_of p ≡ Some c → ⊥) → const_at places (i + 1) ≡ Some c → ⊥
not_next places i p c is none h = let e : entry_of p ≡ Some c = rw (add-one, is) at h in none e

pub still_missing : (places : List Place) (i : ℕ) (p : Place) (c : Const) → slice_get places i ≡ Some p → (entry_of p ≡ Some c → ⊥) → ((k : ℕ) → k < i + 1 → const_at places k ≡ Some c → ⊥) → (k : ℕ) → k < i + 1 + 1 → const_at places k ≡ Some c → ⊥
still_missing places i p c is none before k lt h =
    elim (cases_lt k (i + 1)) [
      | inl less ↦ before k less h
      | inr past ↦ let e : k ≡ i + 1 = omega arith in not_next places i p c is none (rw e at h)
    ]

-- ---- what an index holds stays

entry_within : (places : List Place) (i : ℕ) (c : Const) → option_and_then entry_of (slice_get places i) ≡ Some c → i < length places
entry_within [] i c h = absurd cc
entry_within (p ∷ places) zero c h = omega arith
entry_within (p ∷ places) (suc i) c h = omega (arith, entry_within places i c h)

entry_stays : (places more : List Place) (i : ℕ) (c : Const) → option_and_then entry_of (slice_get places i) ≡ Some c → option_and_then entry_of (slice_get (places ++ more) i) ≡ Some c
entry_stays [] more i c h = absurd cc
entry_stays (p ∷ places) more zero c h = h
entry_stays (p ∷ places) more (suc i) c h = entry_stays places more i c h

pub const_within : (places : List Place) (i : ℕ) (c : Const) → const_at places i ≡ Some c → i ≤ length places
const_within places zero c h = omega arith
const_within places (suc i) c h = omega (arith, entry_within places i c h)

pub const_stays : (places more : List Place) (i : ℕ) (c : Const) → const_at places i ≡ Some c → const_at (places ++ more) i ≡ Some c
const_stays places more zero c h = absurd cc
const_stays places more (suc i) c h = entry_stays places more i c h

get_last : (places more : List Place) (p : Place) → slice_get (places ++ (p ∷ more)) (length places) ≡ Some p
get_last [] more p = refl
get_last (q ∷ places) more p = get_last places more p

pub const_last : (places more : List Place) (c : Const) → const_at (places ++ (Entry c ∷ more)) (length places + 1) ≡ Some c
const_last places more c = rw (add-one, get_last places more (Entry c)) refl

-- ---- what an index names stays

option_cases : (o : Option Const) (t : ℕ) → option_map tag o ≡ Some t → (c : Const) × (o ≡ Some c) × (tag c ≡ t)
option_cases (Some c) t h = (c, refl, cc)
option_cases _ t h = absurd cc

tag_stays : (places more : List Place) (i t : ℕ) → tag_at places i ≡ Some t → tag_at (places ++ more) i ≡ Some t
tag_stays places more i t h =
    let f = option_cases (const_at places i) t h in
    rw (const_stays places more i f.0 f.1, f.2) refl

some_and : (o : Option ℕ) → IsSomeAnd o IsMemberTag → (t : ℕ) × (o ≡ Some t) × IsMemberTag t
some_and (Some t) h = (t, refl, h)
some_and _ h = absurd h

member_stays : (places more : List Place) (i : ℕ) → IsSomeAnd (tag_at places i) IsMemberTag → IsSomeAnd (tag_at (places ++ more) i) IsMemberTag
member_stays places more i h =
    let f = some_and (tag_at places i) h in
    rw (tag_stays places more i f.0 f.1) f.2

pub Names_stay : (places more : List Place) (c : Const) → Names places c → Names (places ++ more) c
Names_stay places more (Utf8 text) h = tt
Names_stay places more (Integer n) h = tt
Names_stay places more (Float bits) h = tt
Names_stay places more (Long n) h = tt
Names_stay places more (Double bits) h = tt
Names_stay places more (Class name) h = tag_stays places more name 1 h
Names_stay places more (Str text) h = tag_stays places more text 1 h
Names_stay places more (Field class member) h = (tag_stays places more class 7 h.0, tag_stays places more member 12 h.1)
Names_stay places more (Method class member) h = (tag_stays places more class 7 h.0, tag_stays places more member 12 h.1)
Names_stay places more (InterfaceMethod class member) h = (tag_stays places more class 7 h.0, tag_stays places more member 12 h.1)
Names_stay places more (NameAndType name descriptor) h = (tag_stays places more name 1 h.0, tag_stays places more descriptor 1 h.1)
Names_stay places more (MethodHandle kind member) h = member_stays places more member h
Names_stay places more (MethodType descriptor) h = tag_stays places more descriptor 1 h
Names_stay places more (InvokeDynamic bootstrap member) h = tag_stays places more member 12 h

all_stay : (places more some : List Place) → AllByRecursion (OfEntry (Names places)) some → AllByRecursion (OfEntry (Names (places ++ more))) some
all_stay places more [] h = tt
all_stay places more (Entry c ∷ some) h = (Names_stay places more c h.0, all_stay places more some h.1)
all_stay places more (Second ∷ some) h = (tt, all_stay places more some h.1)

-- a pool with one more entry, where there is room
pub IsPool-added : (places : List Place) (c : Const) → IsPool places → Fits c → Names places c → length places + length (places_of c) + 1 < 2 ^ 16 → IsPool (places ++ places_of c)
IsPool-added places c pool fits names room = record {
  fits = All-append (OfEntry Fits) places (places_of c) pool.fits (All-places_of Fits c fits);
  spaced = IsSpaced-append false places false (places_of c) false pool.spaced (IsSpaced-places_of c);
  names = All-append (OfEntry (Names (places ++ places_of c))) places (places_of c) (all_stay places (places_of c) places pool.names) (All-places_of (Names (places ++ places_of c)) c (Names_stay places (places_of c) c names));
  count = omega (arith, length-append places (places_of c));
}

-- the same where the new entry stands behind the second of two lists of places
pub IsPool-grown : {A E : Type 0} (r : Result A E) (base old new : List Place) (c : Const) → IsPool (base ++ old) → Fits c → Names (base ++ old) c → length (base ++ old) + length (places_of c) + 1 < 2 ^ 16
    → OnOk r (new ≡ old ++ places_of c) → OnErr r (new ≡ old) → IsPool (base ++ new)
IsPool-grown (Ok x) base old new c pool fits names room ok err =
    rw (ok, ← append_assoc base old (places_of c)) (IsPool-added (base ++ old) c pool fits names room)
IsPool-grown (Err e) base old new c pool fits names room ok err = rw err pool

-- ---- adding

pub keeps_front : (places more : List Place) → Keeps places (places ++ more)
keeps_front places more = record { front = (more, refl); content = λ i c h. const_stays places more i c h }

pub keeps_trans : (a b c : List Place) → Keeps a b → Keeps b c → Keeps a c
keeps_trans a b c p q = record {
  front = (p.front.0 ++ q.front.0, q.front.1 ∙ ap (λ (t : List Place). t ++ q.front.0) p.front.1 ∙ append_assoc a p.front.0 q.front.0);
  content = λ i d h. q.content i d (p.content i d h);
}

last_by : (places : List Place) (b : Bool) (c : Const) → const_at (places ++ taken_by b c) (length places + 1) ≡ Some c
last_by places true c = const_last places (Second ∷ []) c
last_by places false c = const_last places [] c

-- the new entry stands behind the old places
pub const_added : (places : List Place) (c : Const) → const_at (places ++ places_of c) (length places + 1) ≡ Some c
const_added places c = last_by places (is_wide c) c

-- ---- what composed entries name

text_entry_of : (o : Option Const) (t : List ℕ) → option_and_then text_of o ≡ Some t → o ≡ Some (Utf8 t)
text_entry_of (Some (Utf8 text)) t h = cc
text_entry_of _ t h = absurd cc

class_entry_of : (places : List Place) (o : Option Const) (t : List ℕ) → option_and_then (class_of places) o ≡ Some t → (n : ℕ) × (o ≡ Some (Class n)) × (text_at places n ≡ Some t)
class_entry_of places (Some (Class n)) t h = (n, refl, h)
class_entry_of places _ t h = absurd cc

module _ (old new : List Place) (keeps : Keeps old new) where
  text_kept : (i : ℕ) (t : List ℕ) → text_at old i ≡ Some t → text_at new i ≡ Some t
  text_kept i t h = rw (keeps.content i (Utf8 t) (text_entry_of (const_at old i) t h)) refl

  pub class_kept : (i : ℕ) (t : List ℕ) → class_at old i ≡ Some t → class_at new i ≡ Some t
  class_kept i t h =
      let f = class_entry_of old (const_at old i) t h in
      rw (keeps.content i (Class f.0) f.1) (text_kept f.0 t f.2)

  pub pair_kept : (i : ℕ) (n d : List ℕ) → NamesAndTypes old i n d → NamesAndTypes new i n d
  pair_kept i n d h = (h.0, h.1, keeps.content i (NameAndType h.0 h.1) h.2, text_kept h.0 n h.3, text_kept h.1 d h.4)

class_tag : (places : List Place) (i : ℕ) (t : List ℕ) → class_at places i ≡ Some t → tag_at places i ≡ Some 7
class_tag places i t h = let f = class_entry_of places (const_at places i) t h in rw f.1 refl

pair_tag : (places : List Place) (i : ℕ) (n d : List ℕ) → NamesAndTypes places i n d → tag_at places i ≡ Some 12
pair_tag places i n d h = rw h.2 refl

-- a member of a class that is there, with a name and type that are there
pub member_names : (kind : MemberTag) (places : List Place) (class member : ℕ) (o n d : List ℕ) → class_at places class ≡ Some o → NamesAndTypes places member n d → Names places (member_of kind class member)
member_names tags.Field places class member o n d h k = (class_tag places class o h, pair_tag places member n d k)
member_names tags.Method places class member o n d h k = (class_tag places class o h, pair_tag places member n d k)
member_names tags.InterfaceMethod places class member o n d h k = (class_tag places class o h, pair_tag places member n d k)

pub there_member : (kind : MemberTag) (result : Result ℕ PoolStop) (places : List Place) (class member : ℕ) (o n d : List ℕ) → IfOk result (λ index. const_at places index ≡ Some (member_of kind class member))
    → class_at places class ≡ Some o → NamesAndTypes places member n d → IfOk result (λ index. NamesMember kind places index o n d)
there_member kind (Ok index) places class member o n d there h k = (class, member, there, h, k)
there_member kind (Err e) places class member o n d there h k = tt
