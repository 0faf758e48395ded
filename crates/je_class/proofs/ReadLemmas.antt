-- What reading the parts says of a whole class file and of its first fault.
use Rattle.std.proofs.Common.{◌≡◌, ◌≢◌, ℕ, ◌+◌, ◌<◌, ◌≤◌, List, [], ◌∷◌, ◌++◌, length, drop, Ok, Err, refl, sym, ap, subst, ◌∙◌, append_assoc, length-append, length-drop, arith, inl, inr, ◌⊎◌}
use Rattle.std.specs.List.{AllByRecursion}
use Rattle.std.proofs.lemmas.List.{append-nil, drop_all, drop_at, drop-drop}
use Rattle.je_base.specs.Bytes.{IsThere}
use Rattle.je_base.specs.Parts.{part_bytes, IsSoundPart, Follows, OneWay}
use Rattle.je_class.specs.declared.fault.TheConstants.{MOST_BYTES}
use Rattle.je_class.specs.declared.parts.TheConstants.{MAGIC}
use Rattle.je_class.specs.declared.fault.ClassFault.{ClassFault}
use Rattle.je_class.specs.declared.fault.ClassFault.TheVariants.{Trailing, Memory}
use Rattle.je_class.specs.Class.{Class}
use Rattle.je_class.specs.ClassBytes.{ClassBytes}
use Rattle.je_class.specs.FileParts.{class_format, Part, spelled, parts, class_parts}
use Rattle.je_class.specs.Faults.{FirstFault, too_long, breaks, trailing}
use Rattle.je_class.specs.Reading.{Comes}
use Rattle.je_class.proofs.OneClass.{one_class}

-- ---- parts that stand, and the bytes that spell them

-- the parts are sound, and these are their bytes
pub record Spells (bytes : List ℕ) (at : ℕ) (ps : List Part) (end : ℕ) : Type 0 where
  pub bytes_are : drop at bytes ≡ spelled ps ++ drop end bytes
  pub end_is : end ≡ at + length (spelled ps)
  pub sound : AllByRecursion (IsSoundPart class_format) ps

module _ (bytes : List ℕ) where
  follows_spells : (at : ℕ) (ps : List Part) (end : ℕ) → Follows class_format bytes at ps end → Spells bytes at ps end
  follows_spells at [] end h = record { bytes_are = ap (λ (n : ℕ). drop n bytes) (sym h); end_is = omega (arith, h); sound = tt }
  follows_spells at (x ∷ xs) end h =
      let text = part_bytes class_format x in
      let s = follows_spells (at + length text) xs end h.2 in
      record {
        bytes_are = h.0 ∙ ap (λ (t : List ℕ). text ++ t) s.bytes_are ∙ sym (append_assoc text (spelled xs) (drop end bytes));
        end_is = omega (arith, s.end_is, length-append text (spelled xs));
        sound = (h.1, s.sound);
      }

  spells_follows : (at : ℕ) (ps : List Part) (rest : List ℕ) → drop at bytes ≡ spelled ps ++ rest → AllByRecursion (IsSoundPart class_format) ps → Follows class_format bytes at ps (at + length (spelled ps))
  spells_follows at [] rest e sound = omega arith
  spells_follows at (x ∷ xs) rest e sound =
      let text = part_bytes class_format x in
      let front : drop at bytes ≡ text ++ (spelled xs ++ rest) = e ∙ append_assoc text (spelled xs) rest in
      let next : drop (at + length text) bytes ≡ spelled xs ++ rest = sym (drop-drop (length text) at bytes) ∙ ap (drop (length text)) front ∙ drop_at text (spelled xs ++ rest) (length text) refl in
      let there : IsThere bytes at text = front ∙ ap (λ (t : List ℕ). text ++ t) (sym next) in
      let ends : at + length text + length (spelled xs) ≡ at + length (spelled (x ∷ xs)) = omega (arith, length-append text (spelled xs)) in
      (there, sound.0, subst (λ (n : ℕ). Follows class_format bytes (at + length text) xs n) ends (spells_follows (at + length text) xs rest next sound.1))

longer : (front rest : List ℕ) → rest ≢ [] → length front < length (front ++ rest)
longer front [] some = absurd (some refl)
longer front (b ∷ rest) some = omega (arith, length-append front (b ∷ rest))

-- ---- whole class files

-- the bytes follow the class file from their begin to this offset
abbrev pub Stands : List ℕ → Class → ℕ → Type 0
Stands bytes c end = Comes bytes 0 (class_parts c) (Ok end)

pub stands_front : (bytes : List ℕ) (c : Class) (front rest : List ℕ) → bytes ≡ front ++ rest → ClassBytes front c → Stands bytes c (length front)
stands_front bytes c front rest e h =
    let whole : bytes ≡ spelled (class_parts c) ++ rest = e ∙ ap (λ (t : List ℕ). t ++ rest) h.layout in
    let ends : 0 + length (spelled (class_parts c)) ≡ length front = omega (arith, ap length h.layout) in
    record { goes = subst (λ (n : ℕ). Follows class_format bytes 0 (class_parts c) n) ends (spells_follows bytes 0 (class_parts c) rest whole h.sound.parts) }

pub stands_all : (bytes : List ℕ) (c : Class) → ClassBytes bytes c → Stands bytes c (length bytes)
stands_all bytes c h = stands_front bytes c bytes [] (sym (append-nil bytes)) h

module _ (bytes : List ℕ) (c : Class) (end : ℕ) (h : Stands bytes c end) where
  abbrev text : List ℕ
  text = spelled (class_parts c)

  abbrev spells : Spells bytes 0 (class_parts c) end
  spells = follows_spells bytes 0 (class_parts c) end h.goes

  pub stands_sound : AllByRecursion (IsSoundPart class_format) (class_parts c)
  stands_sound = spells.sound

  pub stands_whole : length bytes ≤ end → ClassBytes bytes c
  stands_whole all =
      let none : drop end bytes ≡ [] = drop_all end bytes all in
      record { layout = spells.bytes_are ∙ ap (λ (t : List ℕ). text ++ t) none ∙ append-nil text; sound = record { parts = stands_sound } }

  pub stands_trailing : length bytes ≤ MOST_BYTES → end < length bytes → FirstFault bytes (Trailing end)
  stands_trailing within more =
      let ends : length text ≡ end = omega (arith, spells.end_is) in
      let some : drop end bytes ≢ [] = λ e. omega (arith, ap length e, length-drop end bytes) in
      subst (λ (n : ℕ). FirstFault bytes (Trailing n)) ends (trailing c text (drop end bytes) within spells.bytes_are some (record { layout = refl; sound = record { parts = stands_sound } }))

  -- ---- no other answer

  pub stands_only : (way : OneWay class_format) (d : Class) → ClassBytes bytes d → (c ≡ d) × (end ≡ length bytes)
  stands_only way d k = one_class way bytes MAGIC MAGIC c d (Ok end) (Ok (length bytes)) h (stands_all bytes d k)

  -- the end of a class file and what follows it are the first fault, or there is none
  pub stands_fault : (way : OneWay class_format) (d : ClassFault) → length bytes ≤ MOST_BYTES → FirstFault bytes d → (end < length bytes) × (Trailing end ≡ d)
  stands_fault way _ within (too_long more) = absurd (omega arith)
  stands_fault way _ within (breaks magic e d le b) = absurd (one_class way bytes MAGIC magic c e (Ok end) (Err d) h (record { goes = b }))
  stands_fault way _ within (trailing e front rest le whole some k) =
      let same = one_class way bytes MAGIC MAGIC c e (Ok end) (Ok (length front)) h (stands_front bytes e front rest whole k) in
      let more = longer front rest some in
      (omega (arith, same.1, ap length whole), ap (λ (n : ℕ). Trailing n) same.1)

module _ (bytes : List ℕ) (magic : ℕ) (c : Class) (e : ClassFault) (h : Comes bytes 0 (parts magic c) (Err e)) where
  pub breaks_first : length bytes ≤ MOST_BYTES → FirstFault bytes e
  breaks_first within = breaks magic c e within h.goes

  pub breaks_only : (way : OneWay class_format) (d : Class) → ClassBytes bytes d → ⊥
  breaks_only way d k = one_class way bytes magic MAGIC c d (Err e) (Ok (length bytes)) h (stands_all bytes d k)

  pub breaks_fault : (way : OneWay class_format) (d : ClassFault) → length bytes ≤ MOST_BYTES → FirstFault bytes d → e ≡ d
  breaks_fault way _ within (too_long more) = absurd (omega arith)
  breaks_fault way _ within (breaks other f d le b) = one_class way bytes magic other c f (Err e) (Err d) h (record { goes = b })
  breaks_fault way _ within (trailing f front rest le whole some k) =
      absurd (one_class way bytes magic MAGIC c f (Err e) (Ok (length front)) h (stands_front bytes f front rest whole k))

-- ---- a fault that reading gives

-- memory ran out, or the bytes follow a class file up to a part that does not stand
abbrev pub IsFault : List ℕ → ClassFault → Type 0
IsFault bytes e = (e ≡ Memory) ⊎ ((magic : ℕ) × (c : Class) × Comes bytes 0 (parts magic c) (Err e))

module _ (bytes : List ℕ) (e : ClassFault) where
  pub fault_only : OneWay class_format → IsFault bytes e → (d : Class) → ClassBytes bytes d → e ≡ Memory
  fault_only way (inl memory) d k = memory
  fault_only way (inr h) d k = absurd (breaks_only bytes h.0 h.1 e h.2 way d k)

  pub fault_first : length bytes ≤ MOST_BYTES → IsFault bytes e → (e ≡ Memory) ⊎ FirstFault bytes e
  fault_first within (inl memory) = inl memory
  fault_first within (inr h) = inr (breaks_first bytes h.0 h.1 e h.2 within)

  pub fault_exact : OneWay class_format → length bytes ≤ MOST_BYTES → IsFault bytes e → (d : ClassFault) → FirstFault bytes d → (e ≡ Memory) ⊎ (e ≡ d)
  fault_exact way within (inl memory) d first = inl memory
  fault_exact way within (inr h) d first = inr (breaks_fault bytes h.0 h.1 e h.2 way d within first)
