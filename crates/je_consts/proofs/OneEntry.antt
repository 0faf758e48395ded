-- An entry stands at an offset in one way, or there is one reason why none does.
use Rattle.std.proofs.Common.{◌≡◌, ℕ, ◌+◌, ◌^◌, ◌<◌, List, [], ◌∷◌, ◌++◌, length, drop, Ok, Err, refl, sym, ap, subst, ◌∙◌, append_assoc, length-append, arith}
use Rattle.std.specs.List.{AllByRecursion}
use Rattle.std.specs.Int.{w32, w64, cast_unsigned, cast_signed}
use Rattle.std.proofs.Math.Facts.{Fits-of_z, Fits-lt-pow}
use Rattle.std.proofs.lemmas.Int.{to_z-of_z}
use Rattle.std.proofs.lemmas.List.{drop_at, drop-drop}
use Rattle.je_base.specs.Bytes.{IsThere}
use Rattle.je_base.specs.Parts.{part_bytes, spelled, IsSoundPart, Follows, AreOneLayout, OneValue, OneWay}
use Rattle.je_consts.specs.declared.fault.ConstFault.{ConstFault}
use Rattle.je_consts.specs.declared.constant.Const.{Const}
use Rattle.je_consts.specs.declared.constant.Const.TheVariants.{Utf8, Integer, Float, Long, Double, Class, Str, Field, Method, InterfaceMethod, NameAndType, MethodHandle, MethodType, InvokeDynamic}
use Rattle.je_consts.specs.Pool.{tag, Fits}
use Rattle.je_consts.specs.EntryParts.{HasTag, HasKind, HasText, EntryFault, entry_format, Part, tag_part, info_parts, entry_parts}
use Rattle.je_consts.specs.Faults.{MayCome, entry, no_tag, IsNoEntry}
use Rattle.je_consts.specs.Layout.{const_layout}
use Rattle.je_consts.proofs.FieldLemmas.{Read, Spells}
use Rattle.je_consts.proofs.EntryLemmas.{Comes}

-- ---- one layout

info_one : (c d : Const) → tag c ≡ tag d → AreOneLayout (info_parts c) (info_parts d)
info_one (Utf8 t) (Utf8 u) e = (λ e. refl, λ e. let len : length t ≡ length u = cc in ((len, λ e. ap (λ (x : List ℕ). HasText x ∷ []) e), λ e. tt))
info_one (Integer n) (Integer m) e = (λ e. refl, λ e. tt)
info_one (Float n) (Float m) e = (λ e. refl, λ e. tt)
info_one (Long n) (Long m) e = (λ e. refl, λ e. tt)
info_one (Double n) (Double m) e = (λ e. refl, λ e. tt)
info_one (Class n) (Class m) e = (λ e. refl, λ e. tt)
info_one (Str n) (Str m) e = (λ e. refl, λ e. tt)
info_one (Field a b) (Field n m) e = (λ e. refl, λ e. (λ e. refl, λ e. tt))
info_one (Method a b) (Method n m) e = (λ e. refl, λ e. (λ e. refl, λ e. tt))
info_one (InterfaceMethod a b) (InterfaceMethod n m) e = (λ e. refl, λ e. (λ e. refl, λ e. tt))
info_one (NameAndType a b) (NameAndType n m) e = (λ e. refl, λ e. (λ e. refl, λ e. tt))
info_one (MethodHandle k b) (MethodHandle l m) e = (λ e. ap (λ (x : ℕ). HasKind x ∷ []) e, λ e. (λ e. refl, λ e. tt))
info_one (MethodType n) (MethodType m) e = (λ e. refl, λ e. tt)
info_one (InvokeDynamic a b) (InvokeDynamic n m) e = (λ e. refl, λ e. (λ e. refl, λ e. tt))
info_one _ _ e = absurd (omega (arith, e))

tags_same : (t u : ℕ) → tag_part t ≡ tag_part u → t ≡ u
tags_same t u e = cc

one_layout : (ps qs : List Part) → MayCome ps → MayCome qs → AreOneLayout ps qs
one_layout _ _ (entry c) (entry d) = (λ e. ap (λ (t : ℕ). HasTag t ∷ []) e, λ e. info_one c d (tags_same (tag c) (tag d) e))
one_layout _ _ (entry c) (no_tag u none) = (λ e. ap (λ (t : ℕ). HasTag t ∷ []) e, λ e. absurd (none c (tags_same (tag c) u e)))
one_layout _ _ (no_tag t none) (entry d) = (λ e. ap (λ (t : ℕ). HasTag t ∷ []) e, λ e. absurd (none d (sym (tags_same t (tag d) e))))
one_layout _ _ (no_tag t none) (no_tag u other) = (λ e. ap (λ (t : ℕ). HasTag t ∷ []) e, λ e. tt)

-- ---- equal parts are of equal entries

info_same : (c d : Const) → tag c ≡ tag d → Fits c → Fits d → info_parts c ≡ info_parts d → c ≡ d
info_same (Utf8 t) (Utf8 u) e h k same = cc
info_same (Integer n) (Integer m) e h k same =
    let bits : cast_unsigned w32 n ≡ cast_unsigned w32 m = cc in
    ap (λ z. Integer z) (sym (to_z-of_z w32 n h) ∙ ap (cast_signed w32) bits ∙ to_z-of_z w32 m k)
info_same (Float n) (Float m) e h k same = cc
info_same (Long n) (Long m) e h k same =
    let bits : cast_unsigned w64 n ≡ cast_unsigned w64 m = cc in
    ap (λ z. Long z) (sym (to_z-of_z w64 n h) ∙ ap (cast_signed w64) bits ∙ to_z-of_z w64 m k)
info_same (Double n) (Double m) e h k same = cc
info_same (Class n) (Class m) e h k same = cc
info_same (Str n) (Str m) e h k same = cc
info_same (Field a b) (Field n m) e h k same = cc
info_same (Method a b) (Method n m) e h k same = cc
info_same (InterfaceMethod a b) (InterfaceMethod n m) e h k same = cc
info_same (NameAndType a b) (NameAndType n m) e h k same = cc
info_same (MethodHandle a b) (MethodHandle n m) e h k same = cc
info_same (MethodType n) (MethodType m) e h k same = cc
info_same (InvokeDynamic a b) (InvokeDynamic n m) e h k same = cc
info_same _ _ e h k same = absurd (omega (arith, e))

heads_same : (c d : Const) → entry_parts c ≡ entry_parts d → (tag_part (tag c) ≡ tag_part (tag d)) × (info_parts c ≡ info_parts d)
heads_same c d e = (cc, cc)

entry_same : (c d : Const) → Fits c → Fits d → entry_parts c ≡ entry_parts d → c ≡ d
entry_same c d h k e = let heads = heads_same c d e in info_same c d (tags_same (tag c) (tag d) heads.0) h k heads.1

-- ---- one answer

-- an entry has no parts that are entries
pub no_values : OneValue entry_format
no_values = record {
  same = λ bytes at none other h k. absurd none;
  no_fault = λ bytes at none fault h k. absurd none;
  one_fault = λ bytes at fault other h k. absurd h;
}

module _ (way : OneWay entry_format) (index : ℕ) (bytes : List ℕ) (at : ℕ) where
  stands_alone : (c : Const) (end : ℕ) (f : EntryFault) → Follows entry_format bytes at (entry_parts c) end → IsNoEntry bytes at f → ⊥
  stands_alone c end f h k = way.agree bytes at (entry_parts c) k.0 (Ok end) (Err f) (one_layout (entry_parts c) k.0 (entry c) k.1) (record { goes = h }) (record { goes = k.2 })

  pub one_answer : (r s : Read (Const × ℕ)) → Comes index bytes at r → Comes index bytes at s → r ≡ s
  one_answer (Ok x) (Ok y) h k =
      let both = way.agree bytes at (entry_parts x.0) (entry_parts y.0) (Ok x.1) (Ok y.1) (one_layout (entry_parts x.0) (entry_parts y.0) (entry x.0) (entry y.0)) (record { goes = h.1 }) (record { goes = k.1 }) in
      ap (λ (c : Const). Ok (c, x.1)) (entry_same x.0 y.0 h.0 k.0 both.0) ∙ ap (λ (n : ℕ). Ok (y.0, n)) both.1
  one_answer (Ok x) (Err e) h k = absurd (stands_alone x.0 x.1 k.0 h.1 k.1)
  one_answer (Err d) (Ok y) h k = absurd (stands_alone y.0 y.1 h.0 k.1 h.1)
  one_answer (Err d) (Err e) h k =
      let same : h.0 ≡ k.0 = way.agree bytes at h.1.0 k.1.0 (Err h.0) (Err k.0) (one_layout h.1.0 k.1.0 h.1.1 k.1.1) (record { goes = h.1.2 }) (record { goes = k.1.2 }) in
      ap (λ (fault : ConstFault). Err fault) (h.2 ∙ ap (λ (f : EntryFault). f index) same ∙ sym k.2)

-- ---- the bytes of an entry

follows_spells : (bytes : List ℕ) (at : ℕ) (ps : List Part) (end : ℕ) → Follows entry_format bytes at ps end → Spells bytes at (spelled entry_format ps) end
follows_spells bytes at [] end h = record { parts = ap (λ (n : ℕ). drop n bytes) (sym h); len = omega (arith, h) }
follows_spells bytes at (p ∷ ps) end h =
    let text = part_bytes entry_format p in
    let s = follows_spells bytes (at + length text) ps end h.2 in
    record {
      parts = h.0 ∙ ap (λ (t : List ℕ). text ++ t) s.parts ∙ sym (append_assoc text (spelled entry_format ps) (drop end bytes));
      len = omega (arith, s.len, length-append text (spelled entry_format ps));
    }

spells_follows : (bytes : List ℕ) (at : ℕ) (ps : List Part) (rest : List ℕ) → drop at bytes ≡ spelled entry_format ps ++ rest → AllByRecursion (IsSoundPart entry_format) ps → Follows entry_format bytes at ps (at + length (spelled entry_format ps))
spells_follows bytes at [] rest e sound = omega arith
spells_follows bytes at (p ∷ ps) rest e sound =
    let text = part_bytes entry_format p in
    let more = spelled entry_format ps in
    let front : drop at bytes ≡ text ++ (more ++ rest) = e ∙ append_assoc text more rest in
    let next : drop (at + length text) bytes ≡ more ++ rest = sym (drop-drop (length text) at bytes) ∙ ap (drop (length text)) front ∙ drop_at text (more ++ rest) (length text) refl in
    let there : IsThere bytes at text = front ∙ ap (λ (t : List ℕ). text ++ t) (sym next) in
    let ends : at + length text + length more ≡ at + length (text ++ more) = omega (arith, length-append text more) in
    (there, sound.0, subst (λ (n : ℕ). Follows entry_format bytes (at + length text) ps n) ends (spells_follows bytes (at + length text) ps rest next sound.1))

sound_info : (c : Const) → Fits c → AllByRecursion (IsSoundPart entry_format) (info_parts c)
sound_info (Utf8 text) h = ((h.0, tt), ((h.1, tt), tt))
sound_info (Integer n) h = ((Fits-lt-pow {w = w32} {n = cast_unsigned w32 n} (Fits-of_z {w = w32} {z = n} h), tt), tt)
sound_info (Float bits) h = ((h, tt), tt)
sound_info (Long n) h = ((Fits-lt-pow {w = w64} {n = cast_unsigned w64 n} (Fits-of_z {w = w64} {z = n} h), tt), tt)
sound_info (Double bits) h = ((h, tt), tt)
sound_info (Class name) h = ((h, tt), tt)
sound_info (Str text) h = ((h, tt), tt)
sound_info (Field class member) h = ((h.0, tt), ((h.1, tt), tt))
sound_info (Method class member) h = ((h.0, tt), ((h.1, tt), tt))
sound_info (InterfaceMethod class member) h = ((h.0, tt), ((h.1, tt), tt))
sound_info (NameAndType name descriptor) h = ((h.0, tt), ((h.1, tt), tt))
sound_info (MethodHandle kind member) h = ((omega (arith, h.0.1), (h.0, tt)), ((h.1, tt), tt))
sound_info (MethodType descriptor) h = ((h, tt), tt)
sound_info (InvokeDynamic bootstrap member) h = ((h.0, tt), ((h.1, tt), tt))

tag_below : (c : Const) → tag c < 2 ^ 8
tag_below (Utf8 text) = omega arith
tag_below _ = omega arith

module _ (index : ℕ) (bytes : List ℕ) (at : ℕ) where
  -- what stands there is the entry's bytes
  pub comes_spells : (x : Const × ℕ) → Comes index bytes at (Ok x) → Spells bytes at (const_layout x.0) x.1
  comes_spells x h = follows_spells bytes at (entry_parts x.0) x.1 h.1

  pub comes_again : (c : Const) (rest : List ℕ) → Fits c → drop at bytes ≡ const_layout c ++ rest → Comes index bytes at (Ok (c, at + length (const_layout c)))
  comes_again c rest fits e = (fits, spells_follows bytes at (entry_parts c) rest e ((tag_below c, ((c, refl), tt)), sound_info c fits))
