-- Bytes are the content of one Code attribute, or have one first fault.
use Rattle.std.proofs.Common.{◌≡◌, ◌≢◌, ℕ, ◌<◌, List, [], ◌∷◌, ◌++◌, length, Result, Ok, Err, Option, Some, None, refl, sym, ap, subst, ◌∙◌, length-append, arith, inl, inr}
use Rattle.je_base.specs.Parts.{table_parts, AreOneLayout, Agree, OneWay}
use Rattle.je_consts.specs.declared.place.Place.{Place}
use Rattle.je_instr.specs.declared.fault.CodeFault.{CodeFault}
use Rattle.je_instr.specs.declared.fault.CodeFault.TheVariants.{BadLayout}
use Rattle.je_instr.specs.declared.program.Decoded.{Decoded}
use Rattle.je_instr.specs.declared.program.RawHandler.{RawHandler}
use Rattle.je_instr.specs.Decoding as decoding
use Rattle.je_instr.specs.Decoding.{Decodes}
use Rattle.je_code.specs.declared.attr.CodeAttr.{CodeAttr}
use Rattle.je_code.specs.declared.rows.LineRow.{LineRow}
use Rattle.je_code.specs.declared.rows.VarRow.{VarRow}
use Rattle.je_code.specs.Code.{AttributeInfo, Code, Part, code_format, code_parts, CodeBytes}
use Rattle.je_code.specs.CodeAttr.{ReadsLines, ReadsVars, IsCodeAttr}
use Rattle.je_code.specs.Faults.{FirstFault, breaks, trailing, malformed}
use Rattle.je_code.specs.Reading.{Comes, IsTabled}
use Rattle.je_code.specs.Rows.{line_parts, var_parts, line_rows, var_rows}
use Rattle.je_code.specs.Tables.{ReadsTable}
use Rattle.je_code.proofs.AttrLemmas.{parts_of_code}
use Rattle.je_code.proofs.OneLayout.{layout_table, line_one, var_one, code_one, Decides, table_same, line_decides, var_decides, code_same}
use Rattle.je_code.proofs.Same.{same_attr}
use Rattle.je_code.proofs.TableLemmas.{parts_of_table}
use Rattle.je_code.proofs.WholeLemmas.{front_comes, whole_comes, comes_all, comes_no_fault}

-- what is decoded is one program, or has one fault
pub record OneDecoding : Type 0 where
  pub same : (consts : List Place) (code : List ℕ) (table : List RawHandler) (d e : Decoded) → Decodes consts code table d → Decodes consts code table e → d ≡ e
  pub no_fault : (consts : List Place) (code : List ℕ) (table : List RawHandler) (d : Decoded) (f : CodeFault) → Decodes consts code table d → decoding.FirstFault consts code table f → ⊥
  pub one_fault : (consts : List Place) (code : List ℕ) (table : List RawHandler) (f g : CodeFault) → decoding.FirstFault consts code table f → decoding.FirstFault consts code table g → f ≡ g

module _ (way : OneWay code_format) where
  -- ---- the tables

  module _ {A : Type 0} (parts : A → List Part) (one : (x y : A) → AreOneLayout (parts x) (parts y)) (decides : Decides parts) where
    entries_same : (attribute : Option AttributeInfo) (xs ys : List A) → ReadsTable parts attribute xs → ReadsTable parts attribute ys → xs ≡ ys
    entries_same None xs ys h k = h ∙ sym k
    entries_same (Some a) xs ys (inl h) (inl k) = table_same parts decides xs ys (comes_all way (layout_table parts one xs ys) (parts_of_table k) (whole_comes a.bytes (table_parts parts xs) (parts_of_table h))).0
    entries_same (Some a) xs ys (inl h) (inr k) = absurd (k.0 xs h)
    entries_same (Some a) xs ys (inr h) (inl k) = absurd (h.0 ys k)
    entries_same (Some a) xs ys (inr h) (inr k) = h.1 ∙ sym k.1

  lines_same : (attribute : Option AttributeInfo) (offsets others : List ℕ) (rows more : List LineRow) → offsets ≡ others → ReadsLines attribute offsets rows → ReadsLines attribute others more → rows ≡ more
  lines_same attribute offsets others rows more e h k =
      h.rows_are ∙ ap (λ (os : List ℕ). line_rows os h.infos) e
      ∙ ap (line_rows others) (entries_same line_parts line_one line_decides attribute h.infos k.infos h.table k.table) ∙ sym k.rows_are

  vars_same : (attribute : Option AttributeInfo) (offsets others : List ℕ) (rows more : List VarRow) → offsets ≡ others → ReadsVars attribute offsets rows → ReadsVars attribute others more → rows ≡ more
  vars_same attribute offsets others rows more e h k =
      h.rows_are ∙ ap (λ (os : List ℕ). var_rows os h.infos) e
      ∙ ap (var_rows others) (entries_same var_parts var_one var_decides attribute h.infos k.infos h.table k.table) ∙ sym k.rows_are

  module _ (consts : List Place) where
    tabled_same : (c : Code) (d : Decoded) (a b : CodeAttr) → IsTabled consts c d a → IsTabled consts c d b → a ≡ b
    tabled_same c d a b h k =
        let decoded = h.decoded_is ∙ sym k.decoded_is in
        let offsets = ap (λ (x : Decoded). x.offsets) decoded in
        same_attr a b (h.max_stack ∙ sym k.max_stack) (h.max_locals ∙ sym k.max_locals) decoded
        (lines_same _ a.decoded.offsets b.decoded.offsets a.lines b.lines offsets h.lines k.lines)
        (vars_same _ a.decoded.offsets b.decoded.offsets a.vars b.vars offsets h.vars k.vars)
        (vars_same _ a.decoded.offsets b.decoded.offsets a.var_types b.var_types offsets h.var_types k.var_types)
        (h.map ∙ sym k.map)

    module _ (info : List ℕ) where
      tabled_of : (a : CodeAttr) (h : IsCodeAttr consts info a) → IsTabled consts h.code a.decoded a
      tabled_of a h = record {
        max_stack = h.max_stack;
        max_locals = h.max_locals;
        decoded_is = refl;
        lines = h.lines;
        vars = h.vars;
        var_types = h.var_types;
        map = h.map;
      }

      -- ---- the parts

      agree : (c d : Code) (o p : Result ℕ CodeFault) → Comes info 0 (code_parts c) o → Comes info 0 (code_parts d) p → Agree (code_parts c) (code_parts d) o p
      agree c d o p h k = way.agree info 0 (code_parts c) (code_parts d) o p (code_one c d) h k

      pub one_bytes : (c d : Code) → CodeBytes info c → CodeBytes info d → c ≡ d
      one_bytes c d h k = code_same c d (comes_all way (code_one c d) (parts_of_code k) (whole_comes info (code_parts c) (parts_of_code h))).0

      longer : (front rest : List ℕ) → info ≡ front ++ rest → rest ≢ [] → length front < length info
      longer front [] e some = absurd (some refl)
      longer front (b ∷ rest) e some = omega (arith, ap length e, length-append front (b ∷ rest))

      no_breaks : (c d : Code) (f : CodeFault) → CodeBytes info c → Comes info 0 (code_parts d) (Err f) → ⊥
      no_breaks c d f h k = comes_no_fault way (code_one d c) (parts_of_code h) k

      no_trailing : (c d : Code) (front rest : List ℕ) → CodeBytes info c → info ≡ front ++ rest → rest ≢ [] → CodeBytes front d → ⊥
      no_trailing c d front rest h e some k =
          let all = comes_all way (code_one d c) (parts_of_code h) (front_comes info (code_parts d) front rest e (parts_of_code k)) in
          let more = longer front rest e some in
          omega (arith, all.1, more)

      -- ---- one answer

      module _ (decode : OneDecoding) where
        pub same : (a b : CodeAttr) → IsCodeAttr consts info a → IsCodeAttr consts info b → a ≡ b
        same a b h k =
            let code = one_bytes h.code k.code h.bytes k.bytes in
            let back = subst (λ (c : Code). Decodes consts c.code c.handlers b.decoded) (sym code) k.decodes in
            let decoded = decode.same consts h.code.code h.code.handlers a.decoded b.decoded h.decodes back in
            let there = subst (λ (c : Code). IsTabled consts c b.decoded b) (sym code) (tabled_of b k) in
            tabled_same h.code a.decoded a b (tabled_of a h) (subst (λ (d : Decoded). IsTabled consts h.code d b) (sym decoded) there)

        pub decoded_no_fault : (c : Code) (d : Decoded) (f : CodeFault) → CodeBytes info c → Decodes consts c.code c.handlers d → FirstFault consts info f → ⊥
        decoded_no_fault c d _ is decodes (breaks b f k) = no_breaks c b f is (record { goes = k })
        decoded_no_fault c d _ is decodes (trailing b front rest e some k) = no_trailing c b front rest is e some k
        decoded_no_fault c d _ is decodes (malformed b f k first) =
            decode.no_fault consts c.code c.handlers d f decodes (subst (λ (x : Code). decoding.FirstFault consts x.code x.handlers f) (one_bytes b c k is) first)

        pub no_fault : (a : CodeAttr) (f : CodeFault) → IsCodeAttr consts info a → FirstFault consts info f → ⊥
        no_fault a f h = decoded_no_fault h.code a.decoded f h.bytes h.decodes

        pub one_fault : (f g : CodeFault) → FirstFault consts info f → FirstFault consts info g → f ≡ g
        one_fault _ _ (breaks c f b) (breaks d g k) = agree c d (Err f) (Err g) (record { goes = b }) (record { goes = k })
        one_fault _ _ (breaks c f b) (trailing d front rest e some k) = absurd (agree c d (Err f) (Ok (length front)) (record { goes = b }) (front_comes info (code_parts d) front rest e (parts_of_code k)))
        one_fault _ _ (breaks c f b) (malformed d g k first) = absurd (no_breaks d c f k (record { goes = b }))
        one_fault _ _ (trailing c front rest e some h) (breaks d g k) = absurd (agree c d (Ok (length front)) (Err g) (front_comes info (code_parts c) front rest e (parts_of_code h)) (record { goes = k }))
        one_fault _ _ (trailing c front rest e some h) (trailing d others more is no_end k) =
            ap BadLayout (agree c d (Ok (length front)) (Ok (length others)) (front_comes info (code_parts c) front rest e (parts_of_code h)) (front_comes info (code_parts d) others more is (parts_of_code k))).1
        one_fault _ _ (trailing c front rest e some h) (malformed d g k first) = absurd (no_trailing d c front rest k e some h)
        one_fault _ _ (malformed c f h first) (breaks d g k) = absurd (no_breaks c d g h (record { goes = k }))
        one_fault _ _ (malformed c f h first) (trailing d front rest e some k) = absurd (no_trailing c d front rest h e some k)
        one_fault _ _ (malformed c f h first) (malformed d g k other) =
            decode.one_fault consts d.code d.handlers f g (subst (λ (x : Code). decoding.FirstFault consts x.code x.handlers f) (one_bytes c d h k) first) other
