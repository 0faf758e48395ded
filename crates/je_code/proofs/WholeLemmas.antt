-- Parts that are all of the bytes, and parts that the bytes follow up to an end or a fault.
use Rattle.std.proofs.Common.{◌≡◌, ◌≢◌, ℕ, ◌+◌, ◌<◌, ◌≤◌, List, [], ◌∷◌, ◌++◌, length, drop, Ok, Err, refl, sym, ap, subst, ◌∙◌, append_assoc, length-append, length-drop, arith}
use Rattle.std.specs.List.{AllByRecursion}
use Rattle.std.proofs.lemmas.List.{append-nil, drop_all, drop_at, drop-drop}
use Rattle.je_base.specs.Bytes.{IsThere}
use Rattle.je_base.specs.Parts.{part_bytes, IsSoundPart, Follows, AreOneLayout, OneWay}
use Rattle.je_instr.specs.declared.fault.CodeFault.{CodeFault}
use Rattle.je_code.specs.Code.{code_format, Part, spelled, IsSound}
use Rattle.je_code.specs.Reading.{Comes}

-- the bytes are these parts, which are sound
pub record AreParts (bytes : List ℕ) (ps : List Part) : Type 0 where
  pub layout : bytes ≡ spelled ps
  pub sound : IsSound ps

-- the parts are sound, and these are their bytes
record Spells (bytes : List ℕ) (at : ℕ) (ps : List Part) (end : ℕ) : Type 0 where
  pub bytes_are : drop at bytes ≡ spelled ps ++ drop end bytes
  pub end_is : end ≡ at + length (spelled ps)
  pub sound : AllByRecursion (IsSoundPart code_format) ps

module _ (bytes : List ℕ) where
  follows_spells : (at : ℕ) (ps : List Part) (end : ℕ) → Follows code_format bytes at ps end → Spells bytes at ps end
  follows_spells at [] end h = record { bytes_are = ap (λ (n : ℕ). drop n bytes) (sym h); end_is = omega (arith, h); sound = tt }
  follows_spells at (x ∷ xs) end h =
      let text = part_bytes code_format x in
      let s = follows_spells (at + length text) xs end h.2 in
      record {
        bytes_are = h.0 ∙ ap (λ (t : List ℕ). text ++ t) s.bytes_are ∙ sym (append_assoc text (spelled xs) (drop end bytes));
        end_is = omega (arith, s.end_is, length-append text (spelled xs));
        sound = (h.1, s.sound);
      }

  spells_follows : (at : ℕ) (ps : List Part) (rest : List ℕ) → drop at bytes ≡ spelled ps ++ rest → AllByRecursion (IsSoundPart code_format) ps → Follows code_format bytes at ps (at + length (spelled ps))
  spells_follows at [] rest e sound = omega arith
  spells_follows at (x ∷ xs) rest e sound =
      let text = part_bytes code_format x in
      let front : drop at bytes ≡ text ++ (spelled xs ++ rest) = e ∙ append_assoc text (spelled xs) rest in
      let next : drop (at + length text) bytes ≡ spelled xs ++ rest = sym (drop-drop (length text) at bytes) ∙ ap (drop (length text)) front ∙ drop_at text (spelled xs ++ rest) (length text) refl in
      let there : IsThere bytes at text = front ∙ ap (λ (t : List ℕ). text ++ t) (sym next) in
      let ends : at + length text + length (spelled xs) ≡ at + length (spelled (x ∷ xs)) = omega (arith, length-append text (spelled xs)) in
      (there, sound.0, subst (λ (n : ℕ). Follows code_format bytes (at + length text) xs n) ends (spells_follows (at + length text) xs rest next sound.1))

-- ---- the front of the bytes, and all of them

pub front_comes : (bytes : List ℕ) (ps : List Part) (front rest : List ℕ) → bytes ≡ front ++ rest → AreParts front ps → Comes bytes 0 ps (Ok (length front))
front_comes bytes ps front rest e h =
    let whole : bytes ≡ spelled ps ++ rest = e ∙ ap (λ (t : List ℕ). t ++ rest) h.layout in
    let ends : 0 + length (spelled ps) ≡ length front = omega (arith, ap length h.layout) in
    record { goes = subst (λ (n : ℕ). Follows code_format bytes 0 ps n) ends (spells_follows bytes 0 ps rest whole h.sound) }

pub whole_comes : (bytes : List ℕ) (ps : List Part) → AreParts bytes ps → Comes bytes 0 ps (Ok (length bytes))
whole_comes bytes ps h = front_comes bytes ps bytes [] (sym (append-nil bytes)) h

-- the bytes in front of the end, and those behind it
pub record EndsBefore (bytes : List ℕ) (ps : List Part) (end : ℕ) : Type 0 where
  pub front : List ℕ
  pub rest : List ℕ
  pub bytes_are : bytes ≡ front ++ rest
  pub some : rest ≢ []
  pub parts : AreParts front ps
  pub end_is : length front ≡ end

module _ {bytes : List ℕ} {ps : List Part} {end : ℕ} (h : Comes bytes 0 ps (Ok end)) where
  abbrev spells : Spells bytes 0 ps end
  spells = follows_spells bytes 0 ps end h.goes

  pub comes_whole : length bytes ≤ end → AreParts bytes ps
  comes_whole all =
      let none : drop end bytes ≡ [] = drop_all end bytes all in
      record { layout = spells.bytes_are ∙ ap (λ (t : List ℕ). spelled ps ++ t) none ∙ append-nil (spelled ps); sound = spells.sound }

  pub comes_front : end < length bytes → EndsBefore bytes ps end
  comes_front more = record {
    front = spelled ps;
    rest = drop end bytes;
    bytes_are = spells.bytes_are;
    some = λ e. omega (arith, ap length e, length-drop end bytes);
    parts = record { layout = refl; sound = spells.sound };
    end_is = omega (arith, spells.end_is);
  }

-- ---- nothing else

-- what comes of parts of one layout, of which some are all of the bytes
module _ (way : OneWay code_format) {bytes : List ℕ} {ps qs : List Part} (one : AreOneLayout ps qs) (whole : AreParts bytes qs) where
  pub comes_all : {end : ℕ} → Comes bytes 0 ps (Ok end) → (ps ≡ qs) × (end ≡ length bytes)
  comes_all h = way.agree bytes 0 ps qs (Ok _) (Ok (length bytes)) one h (whole_comes bytes qs whole)

  pub comes_no_fault : {fault : CodeFault} → Comes bytes 0 ps (Err fault) → ⊥
  comes_no_fault h = way.agree bytes 0 ps qs (Err _) (Ok (length bytes)) one h (whole_comes bytes qs whole)
