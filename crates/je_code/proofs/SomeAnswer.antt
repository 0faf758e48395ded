-- Bytes are the content of a Code attribute or have a first fault: it cannot be that they do neither.
use Rattle.std.proofs.Common.{◌≡◌, ℕ, zero, suc, ◌+◌, ◌^◌, ◌<◌, ◌≤◌, ◌⊎◌, List, [], ◌∷◌, ◌++◌, length, get_or, take, drop, Ok, Err, Option, Some, None, refl, sym, ap, subst, ◌∙◌, arith, inl, inr}
use Rattle.std.specs.Prelude.{option_map}
use Rattle.std.specs.Int.{w16, w32, from_be_bytes}
use Rattle.std.proofs.lemmas.Bool.{cases_lt}
use Rattle.std.proofs.lemmas.List.{take-append-drop, drop-drop, length-take, get_or-drop, get_or-take, get_or_past}
use Rattle.std.proofs.lemmas.Nat.{be_bytes_2, be_bytes_4}
use Rattle.je_base.specs.Bytes.{u2, u4, IsThere}
use Rattle.je_base.specs.Parts.{U2, U4, Run, table_parts}
use Rattle.je_consts.specs.declared.place.Place.{Place}
use Rattle.je_instr.specs.declared.fault.CodeFault.{CodeFault}
use Rattle.je_instr.specs.declared.fault.CodeFault.TheVariants.{BadLayout}
use Rattle.je_instr.specs.declared.program.Decoded.{Decoded}
use Rattle.je_instr.specs.declared.program.RawHandler.{RawHandler}
use Rattle.je_instr.specs.Decoding as decoding
use Rattle.je_instr.specs.Decoding.{Decodes}
use Rattle.je_code.specs.declared.attr.CodeAttr.{CodeAttr}
use Rattle.je_code.specs.Code.{IsCodeLength, Passes, AttributeInfo, Code, Part, handler_parts, attribute_parts, code_parts, CodeBytes}
use Rattle.je_code.specs.CodeAttr.{IsCodeAttr}
use Rattle.je_code.specs.Faults.{FirstFault, breaks, malformed}
use Rattle.je_code.specs.Reading.{Comes, bytecode_parts}
use Rattle.je_code.specs.Rows.{line_parts, var_parts, line_rows, var_rows}
use Rattle.je_code.specs.Tables.{first_named, ReadsTable, line_number_table, local_variable_table, local_variable_type_table, stack_map_table}
use Rattle.je_code.proofs.AttrLemmas.{code_bytes, too_many}
use Rattle.je_code.proofs.Comes.{then, stops, comes_within, u2_comes, u4_comes, run_comes, u2_cut, u4_cut, is_length, is_no_length, run_cut, run_behind, length_cut}
use Rattle.je_code.proofs.TableLemmas.{Stand, table_more, table_stops, table_ends}
use Rattle.je_code.proofs.WholeLemmas.{comes_whole}

-- ---- numbers

-- the numbers of the list are bytes
abbrev pub AreBytes : List ℕ → Type 0
AreBytes bytes = (i : ℕ) → get_or bytes i 0 < 256

fits_2 : (bs : List ℕ) → AreBytes bs → from_be_bytes w16 bs < 2 ^ 16
fits_2 bs fits = let x = fits 0 in let y = fits 1 in omega (arith, x, y)

fits_4 : (bs : List ℕ) → AreBytes bs → from_be_bytes w32 bs < 2 ^ 32
fits_4 bs fits = let x = fits 0 in let y = fits 1 in let z = fits 2 in let w = fits 3 in omega (arith, x, y, z, w)

module _ (bytes : List ℕ) (fits : AreBytes bytes) where
  front_fits : (n at : ℕ) → AreBytes (take n (drop at bytes))
  front_fits n at i =
      elim (cases_lt i n) [
        | inl lt ↦ rw (get_or-take n (drop at bytes) i 0 lt, get_or-drop) (fits (at + i))
        | inr le ↦ rw (get_or_past (take n (drop at bytes)) i 0 (omega (arith, length-take n (drop at bytes)))) (omega arith)
      ]

  front_there : (part : List ℕ) (at n : ℕ) → part ≡ take n (drop at bytes) → n ≡ length part → IsThere bytes at part
  front_there part at n front len =
      sym (take-append-drop n (drop at bytes)) ∙ ap (λ (t : List ℕ). t ++ drop n (drop at bytes)) (sym front)
      ∙ ap (λ (t : List ℕ). part ++ t) (drop-drop n at bytes ∙ ap (λ (k : ℕ). drop (at + k) bytes) len)

  abbrev Number : ℕ → ℕ → (ℕ → List ℕ) → ℕ → Type 0
  Number at size layout bound = (length (drop at bytes) < size) ⊎ ((n : ℕ) × IsThere bytes at (layout n) × (n < bound))

  u2_at : (at : ℕ) → Number at 2 u2 (2 ^ 16)
  u2_at at =
      elim (cases_lt (length (drop at bytes)) 2) [
        | inl short ↦ inl short
        | inr long ↦
            let front = take 2 (drop at bytes) in
            let len : length front ≡ 2 = omega (arith, length-take 2 (drop at bytes)) in
            let n = from_be_bytes w16 front in
            inr (n, front_there (u2 n) at 2 (be_bytes_2 front n len (front_fits 2 at) refl) refl, fits_2 front (front_fits 2 at))
      ]

  u4_at : (at : ℕ) → Number at 4 u4 (2 ^ 32)
  u4_at at =
      elim (cases_lt (length (drop at bytes)) 4) [
        | inl short ↦ inl short
        | inr long ↦
            let front = take 4 (drop at bytes) in
            let len : length front ≡ 4 = omega (arith, length-take 4 (drop at bytes)) in
            let n = from_be_bytes w32 front in
            inr (n, front_there (u4 n) at 4 (be_bytes_4 front n len (front_fits 4 at) refl) refl, fits_4 front (front_fits 4 at))
      ]

  -- ---- structures

  -- a structure whose parts stand there, up to an end, or one of whose parts is the first that does not
  abbrev Answer : {A : Type 0} → (A → List Part) → ℕ → Type 0
  Answer {A = A} parts at = ((y : A) × (end : ℕ) × Comes bytes at (parts y) (Ok end)) ⊎ ((y : A) × (d : CodeFault) × Comes bytes at (parts y) (Err d))

  -- there is one from each offset on
  abbrev Answers : {A : Type 0} → (A → List Part) → Type 0
  Answers parts = (at : ℕ) → at ≤ length bytes → Answer parts at

  -- one after the other; the second is some z where the first does not stand
  both : {A B : Type 0} (p : A → List Part) (q : B → List Part) (z : B) → Answers p → Answers q → Answers (λ (x : A × B). p x.0 ++ q x.1)
  both p q z first second at within =
      elim (first at within) [
        | inr h ↦ inr ((h.0, z), h.1, stops (q z) h.2)
        | inl h ↦ elim (second h.1 (comes_within within h.2)) [
          | inl k ↦ inl ((h.0, k.0), k.1, then h.2 k.2)
          | inr k ↦ inr ((h.0, k.0), k.1, then h.2 k.2)
        ]
      ]

  -- the same parts as those of another structure
  seen_as : {A B : Type 0} (p : A → List Part) (q : B → List Part) (view : A → B) → ((y : A) → p y ≡ q (view y)) → Answers p → Answers q
  seen_as p q view same answers at within =
      elim (answers at within) [
        | inl h ↦ inl (view h.0, h.1, subst (λ (ps : List Part). Comes bytes at ps (Ok h.1)) (same h.0) h.2)
        | inr h ↦ inr (view h.0, h.1, subst (λ (ps : List Part). Comes bytes at ps (Err h.1)) (same h.0) h.2)
      ]

  module _ {A : Type 0} (parts : A → List Part) (item : Answers parts) where
    turns : (left at count read next : ℕ) (xs : List A) → next ≤ length bytes → Stand bytes at parts count xs read next → read + left ≡ count → Answer (table_parts parts) at
    turns zero at count read next xs within stand all = inl (xs, next, table_ends parts xs stand (omega arith))
    turns (suc left) at count read next xs within stand all =
        elim (item next within) [
          | inr h ↦ let whole = table_stops parts xs h.0 stand (omega arith) h.2 in inr (whole.0, h.1, whole.1)
          | inl h ↦ turns left at count (read + 1) h.1 (xs ++ h.0 ∷ []) (comes_within within h.2) (table_more parts xs h.0 stand h.2) (omega arith)
        ]

    table : Answers (table_parts parts)
    table at within =
        elim (u2_at at) [
          | inl short ↦ inr ([], BadLayout at, stops _ (u2_cut 0 [] (short, refl)))
          | inr n ↦
              let count : Comes bytes at (U2 n.0 [] ∷ []) (Ok (at + 2)) = u2_comes n.1 refl n.2 tt in
              turns n.0 at n.0 0 (at + 2) [] (comes_within within count) (record { count_is = refl; comes = count }) (omega arith)
        ]

  number : Answers (λ (n : ℕ). U2 n [] ∷ [])
  number at within =
      elim (u2_at at) [
        | inl short ↦ inr (0, BadLayout at, u2_cut 0 [] (short, refl))
        | inr n ↦ inl (n.0, at + 2, u2_comes n.1 refl n.2 tt)
      ]

  -- the run of so many bytes, or the fault that it is cut off
  run : (at len : ℕ) → ((r : List ℕ) × (end : ℕ) × (length r ≡ len) × Comes bytes at (Run r [] ∷ []) (Ok end)) ⊎ ((r : List ℕ) × (length r ≡ len) × Comes bytes at (Run r [] ∷ []) (Err (BadLayout at)))
  run at len =
      elim (cases_lt (length (drop at bytes)) len) [
        | inl short ↦ inr (run_cut (short, refl))
        | inr long ↦
            let r = take len (drop at bytes) in
            let size : length r ≡ len = omega (arith, length-take len (drop at bytes)) in
            inl (r, at + length r, size, run_comes (front_there r at len refl (sym size)) refl)
      ]

  sized : Answers (λ (r : List ℕ). U4 (length r) [] ∷ Run r [] ∷ [])
  sized at within =
      elim (u4_at at) [
        | inl short ↦ let cut = length_cut (λ n. []) (u4_cut 0 [] (short, refl)) in inr (cut.0, BadLayout at, cut.1)
        | inr n ↦
            let counted : Comes bytes at (U4 n.0 [] ∷ []) (Ok (at + 4)) = u4_comes n.1 refl n.2 tt in
            elim (run (at + 4) n.0) [
              | inl h ↦ inl (h.0, h.1, run_behind (λ n. []) counted h.2 h.3)
              | inr h ↦ inr (h.0, BadLayout (at + 4), run_behind (λ n. []) counted h.1 h.2)
            ]
      ]

  length_decided : (n : ℕ) → Passes (IsCodeLength n) ⊎ (Passes (IsCodeLength n) → ⊥)
  length_decided n =
      elim (cases_lt 0 n) [
        | inr none ↦ inr (λ h. omega (arith, h.0, none))
        | inl some ↦ elim (cases_lt 65535 n) [ inl more ↦ inr (λ h. omega (arith, h.1, more)) | inr short ↦ inl (some, short) ]
      ]

  bytecode : Answers bytecode_parts
  bytecode at within =
      elim (u4_at at) [
        | inl short ↦ let cut = length_cut (λ n. IsCodeLength n ∷ []) (u4_cut 0 (IsCodeLength 0 ∷ []) (short, refl)) in inr (cut.0, BadLayout at, cut.1)
        | inr n ↦
            let counted : Comes bytes at (U4 n.0 [] ∷ []) (Ok (at + 4)) = u4_comes n.1 refl n.2 tt in
            elim (length_decided n.0) [
              | inr fails ↦ let cut = length_cut (λ n. IsCodeLength n ∷ []) (is_no_length counted fails) in inr (cut.0, BadLayout at, cut.1)
              | inl pass ↦ elim (run (at + 4) n.0) [
                | inl h ↦ inl (h.0, h.1, run_behind (λ n. IsCodeLength n ∷ []) (is_length counted pass) h.2 h.3)
                | inr h ↦ inr (h.0, BadLayout (at + 4), run_behind (λ n. IsCodeLength n ∷ []) (is_length counted pass) h.1 h.2)
              ]
            ]
      ]

  handler : Answers handler_parts
  handler =
      seen_as _ _ (λ (h : ℕ × (ℕ × (ℕ × ℕ))). record { start = h.0; end = h.1.0; target = h.1.1.0; catch_const = h.1.1.1 }) (λ h. refl)
      (both _ _ (0, (0, 0)) number (both _ _ (0, 0) number (both _ _ 0 number number)))

  attribute : Answers attribute_parts
  attribute = seen_as _ _ (λ (a : ℕ × List ℕ). record { name = a.0; bytes = a.1 }) (λ a. refl) (both _ _ [] number sized)

  abbrev Whole : Type 0
  Whole = ℕ × (ℕ × (List ℕ × (List RawHandler × List AttributeInfo)))

  code : Answers code_parts
  code =
      seen_as _ _ (λ (w : Whole). record { max_stack = w.0; max_locals = w.1.0; code = w.1.1.0; handlers = w.1.1.1.0; attributes = w.1.1.1.1 }) (λ w. refl)
      (both _ _ (0, ([], ([], []))) number (both _ _ ([], ([], [])) number (both _ _ ([], []) bytecode (both _ _ [] (table handler_parts handler) (table attribute_parts attribute)))))

-- ---- the tables

-- it cannot be that an attribute has no rows at all: it is a table, or it is none and has no rows
not_none : {A : Type 0} (parts : A → List Part) (attribute : Option AttributeInfo) → ((entries : List A) → ReadsTable parts attribute entries → ⊥) → ⊥
not_none parts None none = none [] refl
not_none parts (Some a) none = none [] (inr ((λ others table. none others (inl table)), refl))

-- ---- the whole

module _ (decode : (consts : List Place) (code : List ℕ) (table : List RawHandler) → ((d : Decoded) → Decodes consts code table d → ⊥) → ((f : CodeFault) → decoding.FirstFault consts code table f → ⊥) → ⊥)
    (consts : List Place) (info : List ℕ) (fits : AreBytes info) (none : (a : CodeAttr) → IsCodeAttr consts info a → ⊥) (sound : (f : CodeFault) → FirstFault consts info f → ⊥) where
  abbrev named : Code → List ℕ → Option AttributeInfo
  named c name = first_named consts name c.attributes

  no_attr : (c : Code) → CodeBytes info c → (d : Decoded) → Decodes consts c.code c.handlers d → ⊥
  no_attr c bytes d decodes =
      not_none line_parts (named c line_number_table) (λ lines has_lines.
      not_none var_parts (named c local_variable_table) (λ vars has_vars.
      not_none var_parts (named c local_variable_type_table) (λ types has_types.
      none (record {
        max_stack = c.max_stack;
        max_locals = c.max_locals;
        decoded = d;
        lines = line_rows d.offsets lines;
        vars = var_rows d.offsets vars;
        var_types = var_rows d.offsets types;
        map = option_map (λ (a : AttributeInfo). a.bytes) (named c stack_map_table);
      }) (record {
        code = c;
        bytes = bytes;
        max_stack = refl;
        max_locals = refl;
        decodes = decodes;
        lines = record { infos = lines; table = has_lines; rows_are = refl };
        vars = record { infos = vars; table = has_vars; rows_are = refl };
        var_types = record { infos = types; table = has_types; rows_are = refl };
        map = refl;
      }))))

  pub not_neither : ⊥
  not_neither =
      elim (code info fits 0 (omega arith)) [
        | inr h ↦ sound h.1 (breaks h.0 h.1 h.2.goes)
        | inl h ↦ elim (cases_lt h.1 (length info)) [
          | inl more ↦ sound (BadLayout h.1) (too_many consts info h.0 h.1 h.2 more)
          | inr all ↦
              let bytes = code_bytes (comes_whole h.2 all) in
              decode consts h.0.code h.0.handlers (no_attr h.0 bytes) (λ f first. sound f (malformed h.0 f bytes first))
        ]
      ]
