-- Attributes that are put one after the other, and the names that they add.
use Rattle.std.proofs.Common.{◌≡◌, ℕ, List, [], ◌∷◌, ◌++◌, Option, Some, None, Ok, Err, refl, sym, ap, subst, ◌∙◌, append_assoc, inl, inr, arith}
use Rattle.std.proofs.lemmas.List.{append-nil}
use Rattle.std.specs.List.{AllByRecursion}
use Rattle.std.specs.Prelude.{option_and_then}
use Rattle.je_base.specs.Bytes.{attribute_info}
use Rattle.je_base.specs.Parts.{each}
use Rattle.je_consts.specs.declared.constant.Const.{Const}
use Rattle.je_consts.specs.declared.constant.Const.TheVariants.{Utf8}
use Rattle.je_consts.specs.declared.fault.PoolStop.{PoolStop}
use Rattle.je_consts.specs.declared.fault.PoolStop.TheVariants as stops
use Rattle.je_consts.specs.declared.place.Place.{Place}
use Rattle.je_consts.specs.Adding.{Adds, Keeps}
use Rattle.je_consts.specs.Pool.{const_at, text_of, text_at}
use Rattle.je_code.specs.declared.named.Named.{Named}
use Rattle.je_code.specs.Code.{AttributeInfo, spelled, attribute_parts}
use Rattle.je_code.specs.Writing.{HasShortName, PutsOne, PutsAll}
use Rattle.je_code.specs.Written.{HasText, AddsTexts, names_of}

-- ---- pools

pub keeps_itself : (places : List Place) → Keeps places places
keeps_itself places = record { front = ([], sym (append-nil places)); content = λ i c e. e }

pub keeps_on : (a b c : List Place) → Keeps a b → Keeps b c → Keeps a c
keeps_on a b c first next = record {
  front = (first.front.0 ++ next.front.0, next.front.1 ∙ ap (λ (t : List Place). t ++ next.front.0) first.front.1 ∙ append_assoc a first.front.0 next.front.0);
  content = λ i e h. next.content i e (first.content i e h);
}

text_there : (o p : Option Const) (text : List ℕ) → ((e : Const) → o ≡ Some e → p ≡ Some e) → option_and_then text_of o ≡ Some text → option_and_then text_of p ≡ Some text
text_there None p text stays e = absurd cc
text_there (Some x) p text stays e = rw (stays x refl) e

pub text_stays : (old new : List Place) → Keeps old new → (i : ℕ) (text : List ℕ) → text_at old i ≡ Some text → text_at new i ≡ Some text
text_stays old new keeps i text = text_there (const_at old i) (const_at new i) text (keeps.content i)

-- an add that is not refused leaves one list of places
pub one_place : (c : Const) (old new other : List Place) (i j : ℕ) → Adds c old (Ok i) new → Adds c old (Ok j) other → new ≡ other
one_place c old new other i j (inl a) (inl b) = a.1 ∙ sym b.1
one_place c old new other i j (inl a) (inr b) = absurd (b.room.missing i a.0.here)
one_place c old new other i j (inr a) (inl b) = absurd (a.room.missing j b.0.here)
one_place c old new other i j (inr a) (inr b) = a.places_are ∙ sym b.places_are

no_full : (c : Const) (old new : List Place) (i n : ℕ) (places : List Place) → Adds c old (Ok i) new → Adds c old (Err (stops.Full n)) places → ⊥
no_full c old new i n places (inl a) f = f.0.missing i a.0.here
no_full c old new i n places (inr a) f = omega (arith, a.room.within, f.0.count_is, f.0.past)

-- an add of what is there is not refused, and changes nothing
stays_so : (c : Const) (places new : List Place) (i j : ℕ) → const_at places i ≡ Some c → Adds c places (Ok j) new → new ≡ places
stays_so c places new i j there (inl a) = a.1
stays_so c places new i j there (inr a) = absurd (a.room.missing i there)

not_refused : (c : Const) (places new : List Place) (i : ℕ) (e : PoolStop) → const_at places i ≡ Some c → Adds c places (Err e) new → ⊥
not_refused c places new i (stops.Full n) there f = f.0.missing i there
not_refused c places new i stops.Memory there f = f.0.missing i there

pub known_texts : (texts : List (List ℕ)) (old new : List Place) (refusal : Option PoolStop) → AllByRecursion (HasText old) texts → AddsTexts texts old refusal new → (refusal ≡ None) × (new ≡ old)
known_texts [] old new refusal known h = h
known_texts (t ∷ ts) old new refusal known (inl f) = absurd (not_refused (Utf8 t) old new known.0.0 f.0 known.0.1 f.2)
known_texts (t ∷ ts) old new refusal known (inr f) =
    let same = stays_so (Utf8 t) old f.1 known.0.0 f.0 known.0.1 f.2 in
    known_texts ts old new refusal known.1 (subst (λ (m : List Place). AddsTexts ts m refusal new) same f.3)

-- ---- one after the other

-- what a loop that puts the attributes has put so far
pub record Stand (all : List Named) (first : List Place) (front : List ℕ) (rest : List Named) (consts : List Place) (out : List ℕ) : Type 0 where
  pub names : AllByRecursion HasShortName rest
  pub put : (places : List Place) (bytes : List ℕ) → Keeps consts places → PutsAll places rest out bytes → PutsAll places all front bytes
  pub adds : (refusal : Option PoolStop) (places : List Place) → AddsTexts (names_of rest) consts refusal places → AddsTexts (names_of all) first refusal places
  pub full : (n : ℕ) (places : List Place) → AddsTexts (names_of all) first (Some (stops.Full n)) places → AddsTexts (names_of rest) consts (Some (stops.Full n)) places
  pub keeps : Keeps first consts

pub put_none : (all : List Named) (first : List Place) (front : List ℕ) → AllByRecursion HasShortName all → Stand all first front all first front
put_none all first front names = record { names = names; put = λ places bytes keeps h. h; adds = λ refusal places h. h; full = λ n places h. h; keeps = keeps_itself first }

module _ (all : List Named) (first : List Place) (front : List ℕ) (x : Named) (rest : List Named) (consts mid : List Place) (out next : List ℕ) (left : List Named) (h : Stand all first front left consts out) (splits : left ≡ x ∷ rest) where
  here : Stand all first front (x ∷ rest) consts out
  here = subst (λ (t : List Named). Stand all first front t consts out) splits h

  module _ (puts : PutsOne mid x out next) (index : ℕ) (adds : Adds (Utf8 x.name) consts (Ok index) mid) (keeps : Keeps consts mid) where
    then_all : (places : List Place) (bytes : List ℕ) → Keeps mid places → PutsAll places rest next bytes → PutsAll places (x ∷ rest) out bytes
    then_all places bytes on k =
        let info : AttributeInfo = record { name = puts.index; bytes = x.bytes } in
        record {
          infos = info ∷ k.infos;
          names = ((text_stays mid places on puts.index x.name puts.name, refl), k.names);
          bytes = k.bytes ∙ ap (λ (t : List ℕ). t ++ spelled (each attribute_parts k.infos)) puts.bytes ∙ append_assoc out (attribute_info puts.index x.bytes) (spelled (each attribute_parts k.infos));
          sound = ((puts.index_fits, tt), ((puts.length_fits, tt), (tt, k.sound)));
        }

    full_on : (n : ℕ) (places : List Place) → AddsTexts (names_of (x ∷ rest)) consts (Some (stops.Full n)) places → AddsTexts (names_of rest) mid (Some (stops.Full n)) places
    full_on n places (inl f) = absurd (no_full (Utf8 x.name) consts mid index n places adds (let e : f.0 ≡ stops.Full n = (let g = f.1 in cc) in subst (λ (s : PoolStop). Adds (Utf8 x.name) consts (Err s) places) e f.2))
    full_on n places (inr f) = subst (λ (m : List Place). AddsTexts (names_of rest) m (Some (stops.Full n)) places) (one_place (Utf8 x.name) consts f.1 mid f.0 index f.2 adds) f.3

    pub put_more : Stand all first front rest mid next
    put_more = record {
      names = here.names.1;
      put = λ places bytes on k. here.put places bytes (keeps_on consts mid places keeps on) (then_all places bytes on k);
      adds = λ refusal places k. here.adds refusal places (inr (index, mid, adds, k));
      full = λ n places k. full_on n places (here.full n places k);
      keeps = keeps_on first consts mid here.keeps keeps;
    }

  pub refused : (e : PoolStop) → Adds (Utf8 x.name) consts (Err e) mid → AddsTexts (names_of all) first (Some e) mid
  refused e adds = here.adds (Some e) mid (inl (e, refl, adds))
