-- What is written reads back as what was given.
use Rattle.std.proofs.Common.{◌≡◌, ℕ, zero, suc, ◌-◌, ◌<◌, Bool, true, false, cond, ◌&&◌, eqb, List, [], ◌∷◌, ◌++◌, length, map, get_or, Option, Some, None, refl, sym, ap, subst, ◌∙◌, append_assoc, inl, inr, arith}
use Rattle.std.proofs.lemmas.Bool.{eq-eqb}
use Rattle.std.proofs.lemmas.Bool.Decides.{eqb_tells}
use Rattle.std.specs.List.{AllByRecursion, AllZip, find, filter}
use Rattle.std.specs.Option.{option_map, option_map_or}
use Rattle.je_base.specs.Parts.{table_parts}
use Rattle.je_base.specs.Text.{is_same_text}
use Rattle.je_consts.specs.declared.place.Place.{Place}
use Rattle.je_instr.specs.declared.assembled.Assembled.{Assembled}
use Rattle.je_instr.specs.declared.program.Program.{Program}
use Rattle.je_instr.specs.declared.program.RawHandler.{RawHandler}
use Rattle.je_instr.specs.Assembling.{placed}
use Rattle.je_instr.specs.Decoding.{Decodes}
use Rattle.je_code.specs.declared.named.Named.{Named}
use Rattle.je_code.specs.declared.rows.LineRow.{LineRow}
use Rattle.je_code.specs.declared.rows.Tables.{Tables}
use Rattle.je_code.specs.declared.rows.VarRow.{VarRow}
use Rattle.je_code.specs.Code.{AttributeInfo, Part, spelled, IsSound}
use Rattle.je_code.specs.CodeAttr.{IsCodeAttr}
use Rattle.je_code.specs.Moved.{IsLineInside, IsVarInside, AreInside}
use Rattle.je_code.specs.Rows.{LineInfo, VarInfo, line_parts, var_parts, is_offset, index_at, end_pc, line_row, var_row, line_rows, var_rows, line_info, var_info}
use Rattle.je_code.specs.Tables.{line_number_table, local_variable_table, local_variable_type_table, stack_map_table, is_named, first_named, ReadsTable}
use Rattle.je_code.specs.Writing.{AreSound}
use Rattle.je_code.specs.Named.{table_of, map_of, tables_of, IsNamed}
use Rattle.je_code.specs.Written.{IsWritten, attr_of}

-- ---- tables by their names

abbrev by_name : List ℕ → Named → Bool
by_name name named = is_same_text name named.name

-- the one is written as the other
abbrev Finds : Option Named → Option AttributeInfo → Type 0
Finds None None = Unit {0}
Finds (Some named) (Some info) = info.bytes ≡ named.bytes
Finds (Some named) None = ⊥
Finds None (Some info) = ⊥

module _ (consts : List Place) (name : List ℕ) where
  named_there : (named : Named) (info : AttributeInfo) → IsNamed consts named info → is_named consts name info ≡ by_name name named
  named_there named info h = ap (λ (o : Option (List ℕ)). option_map_or (is_same_text name) o false) h.0

  found_by : (b : Bool) (named : Named) (info : AttributeInfo) (o : Option Named) (p : Option AttributeInfo) → info.bytes ≡ named.bytes → Finds o p → Finds (cond b (Some named) o) (cond b (Some info) p)
  found_by true named info o p same h = same
  found_by false named info o p same h = h

  found : (all : List Named) (infos : List AttributeInfo) → AllZip (IsNamed consts) all infos → Finds (find (by_name name) all) (first_named consts name infos)
  found [] [] h = tt
  found (n ∷ all) (i ∷ infos) h = rw (named_there n i h.0) (found_by (by_name name n) n i _ _ h.0.1 (found all infos h.1))
  found [] (i ∷ infos) h = absurd h
  found (n ∷ all) [] h = absurd h

module _ {A : Type 0} (name other : List ℕ) (parts : A → List Part) where
  -- a table of another name is passed over
  passed : is_same_text name other ≡ false → (rows : List A) (more : List Named) → find (by_name name) (table_of other parts rows ++ more) ≡ find (by_name name) more
  passed differ [] more = refl
  passed differ (row ∷ rows) more = rw differ refl

no_table : {A : Type 0} (parts : A → List Part) (found : Option AttributeInfo) → Finds None found → ReadsTable parts found []
no_table parts None h = refl
no_table parts (Some info) h = absurd h

one_table : {A : Type 0} (parts : A → List Part) (rows : List A) (named : Named) (found : Option AttributeInfo) → named.bytes ≡ spelled (table_parts parts rows) → IsSound (table_parts parts rows) → Finds (Some named) found
    → ReadsTable parts found rows
one_table parts rows named None e sound h = absurd h
one_table parts rows named (Some info) e sound h = inl (record { layout = h ∙ e; sound = sound })

module _ {A : Type 0} (name : List ℕ) (parts : A → List Part) where
  -- the table of the name is read, where none follows of this name
  reads_own : is_same_text name name ≡ true → (rows : List A) (more : List Named) → find (by_name name) more ≡ None → IsSound (table_parts parts rows) → (found : Option AttributeInfo)
      → Finds (find (by_name name) (table_of name parts rows ++ more)) found → ReadsTable parts found rows
  reads_own same [] more none sound found h = no_table parts found (subst (λ (o : Option Named). Finds o found) none h)
  reads_own same (row ∷ rows) more none sound found h =
      let named : Named = record { name = name; bytes = spelled (table_parts parts (row ∷ rows)) } in
      one_table parts (row ∷ rows) named found refl sound (rw same at h)

no_map : (name : List ℕ) → is_same_text name stack_map_table ≡ false → (stack_map : Option (List ℕ)) → find (by_name name) (map_of stack_map) ≡ None
no_map name differ None = refl
no_map name differ (Some bytes) = rw differ refl

map_found : (stack_map : Option (List ℕ)) (found : Option AttributeInfo) → Finds (find (by_name stack_map_table) (map_of stack_map)) found → stack_map ≡ option_map (λ (a : AttributeInfo). a.bytes) found
map_found None None h = refl
map_found (Some bytes) (Some info) h = ap (λ (b : List ℕ). Some b) (sym h)
map_found None (Some info) h = absurd h
map_found (Some bytes) None h = absurd h

-- ---- offsets and indexes

abbrev Rise : List ℕ → Type 0
Rise offsets = (i j : ℕ) → i < j → j < length offsets → get_or offsets i 0 < get_or offsets j 0

tail_rises : (o : ℕ) (os : List ℕ) → Rise (o ∷ os) → Rise os
tail_rises o os rise i j less lt = rise (suc i) (suc j) (omega (arith, less)) (omega (arith, lt))

differ : (a b : ℕ) → b < a → eqb a b ≡ false
differ a b lt = elim (eqb_tells a b) [ inl same ↦ absurd (omega (arith, same.1, lt)) | inr apart ↦ apart.0 ]

pub offset_there : (os : List ℕ) → Rise os → (i : ℕ) → i < length os → is_offset os (get_or os i 0) ≡ true
offset_there [] rise i lt = absurd (omega (arith, lt))
offset_there (o ∷ os) rise zero lt = rw (eq-eqb o o refl) refl
offset_there (o ∷ os) rise (suc i) lt =
    rw (differ (get_or os i 0) o (rise zero (suc i) (omega arith) lt)) (offset_there os (tail_rises o os rise) i (omega (arith, lt)))

pub index_back : (os : List ℕ) → Rise os → (i : ℕ) → i < length os → index_at os (get_or os i 0) ≡ i
index_back [] rise i lt = absurd (omega (arith, lt))
index_back (o ∷ os) rise zero lt = rw (eq-eqb o o refl) refl
index_back (o ∷ os) rise (suc i) lt =
    let on = index_back os (tail_rises o os rise) i (omega (arith, lt)) in
    rw (differ (get_or os i 0) o (rise zero (suc i) (omega arith) lt)) (omega (arith, on))

-- ---- rows

module _ {A B : Type 0} (info : A → B) (row : B → A) (keep : B → Bool) (P : A → Type 0) (back : (x : A) → P x → (keep (info x) ≡ true) × (row (info x) ≡ x)) where
  rows_back : (xs : List A) → AllByRecursion P xs → map row (filter keep (map info xs)) ≡ xs
  rows_back [] h = refl
  rows_back (x ∷ xs) h =
      let one = back x h.0 in
      rw one.0 (ap (λ (y : A). y ∷ map row (filter keep (map info xs))) one.1 ∙ ap (λ (ys : List A). x ∷ ys) (rows_back xs h.1))

module _ (offsets : List ℕ) (rise : Rise offsets) where
  line_back : (row : LineRow) → IsLineInside (length offsets - 1) row → (is_offset offsets (line_info offsets row).start_pc ≡ true) × (line_row offsets (line_info offsets row) ≡ row)
  line_back row inside =
      let within : row.start < length offsets = omega (arith, inside) in
      let start = index_back offsets rise row.start within in
      let same : record { start = index_at offsets (get_or offsets row.start 0); line = row.line } ≡ record { start = row.start; line = row.line } = cc in
      (offset_there offsets rise row.start within, same)

  end_there : (row : VarRow) → IsVarInside (length offsets - 1) row → end_pc (var_info offsets row) ≡ get_or offsets row.end 0
  end_there row inside =
      let less = rise row.start row.end inside.0 (omega (arith, inside.0, inside.1)) in
      omega (arith, less)

  var_back : (row : VarRow) → IsVarInside (length offsets - 1) row
      → (is_offset offsets (var_info offsets row).start_pc && is_offset offsets (end_pc (var_info offsets row)) ≡ true) × (var_row offsets (var_info offsets row) ≡ row)
  var_back row inside =
      let within : row.start < length offsets = omega (arith, inside.0, inside.1) in
      let ends : row.end < length offsets = omega (arith, inside.0, inside.1) in
      let at = end_there row inside in
      let start = index_back offsets rise row.start within in
      let end : index_at offsets (end_pc (var_info offsets row)) ≡ row.end = ap (index_at offsets) at ∙ index_back offsets rise row.end ends in
      let first = offset_there offsets rise row.start within in
      let last : is_offset offsets (end_pc (var_info offsets row)) ≡ true = ap (is_offset offsets) at ∙ offset_there offsets rise row.end ends in
      let same : var_row offsets (var_info offsets row) ≡ record { start = row.start; end = row.end; name = row.name; sig = row.sig; slot = row.slot } = cc in
      (rw (first, last) refl, same)

  pub lines_back : (rows : List LineRow) → AllByRecursion (IsLineInside (length offsets - 1)) rows → line_rows offsets (map (line_info offsets) rows) ≡ rows
  lines_back = rows_back (line_info offsets) (line_row offsets) (λ (i : LineInfo). is_offset offsets i.start_pc) (IsLineInside (length offsets - 1)) line_back

  pub vars_back : (rows : List VarRow) → AllByRecursion (IsVarInside (length offsets - 1)) rows → var_rows offsets (map (var_info offsets) rows) ≡ rows
  vars_back = rows_back (var_info offsets) (var_row offsets) (λ (i : VarInfo). is_offset offsets i.start_pc && is_offset offsets (end_pc i)) (IsVarInside (length offsets - 1)) var_back

-- ---- the whole

module _ (consts : List Place) (a : Assembled) (max_stack max_locals : ℕ) (tables : Tables) (stack_map : Option (List ℕ)) (bytes : List ℕ) where
  abbrev lines : List Named
  lines = table_of line_number_table line_parts (map (line_info a.offsets) tables.lines)

  abbrev vars : List Named
  vars = table_of local_variable_table var_parts (map (var_info a.offsets) tables.vars)

  abbrev types : List Named
  types = table_of local_variable_type_table var_parts (map (var_info a.offsets) tables.var_types)

  abbrev maps : List Named
  maps = map_of stack_map

  in_a_row : tables_of a.offsets tables ++ maps ≡ lines ++ (vars ++ (types ++ maps))
  in_a_row = append_assoc lines (vars ++ types) maps ∙ ap (λ (t : List Named). lines ++ t) (append_assoc vars types maps)

  module _ (infos : List AttributeInfo) (zipped : AllZip (IsNamed consts) (tables_of a.offsets tables ++ maps) infos) (sound : AreSound a.offsets tables) where
    there : (name : List ℕ) → Finds (find (by_name name) (lines ++ (vars ++ (types ++ maps)))) (first_named consts name infos)
    there name = subst (λ (l : List Named). Finds (find (by_name name) l) (first_named consts name infos)) in_a_row (found consts name (tables_of a.offsets tables ++ maps) infos zipped)

    behind_lines : (name : List ℕ) → is_same_text name line_number_table ≡ false → Finds (find (by_name name) (vars ++ (types ++ maps))) (first_named consts name infos)
    behind_lines name other = subst (λ (o : Option Named). Finds o (first_named consts name infos)) (passed name line_number_table line_parts other _ (vars ++ (types ++ maps))) (there name)

    behind_vars : (name : List ℕ) → is_same_text name line_number_table ≡ false → is_same_text name local_variable_table ≡ false → Finds (find (by_name name) (types ++ maps)) (first_named consts name infos)
    behind_vars name other second = subst (λ (o : Option Named). Finds o (first_named consts name infos)) (passed name local_variable_table var_parts second _ (types ++ maps)) (behind_lines name other)

    reads_lines : ReadsTable line_parts (first_named consts line_number_table infos) (map (line_info a.offsets) tables.lines)
    reads_lines =
        let none = passed line_number_table local_variable_table var_parts refl _ (types ++ maps) ∙ passed line_number_table local_variable_type_table var_parts refl _ maps ∙ no_map line_number_table refl stack_map in
        reads_own line_number_table line_parts refl _ (vars ++ (types ++ maps)) none sound.lines _ (there line_number_table)

    reads_vars : ReadsTable var_parts (first_named consts local_variable_table infos) (map (var_info a.offsets) tables.vars)
    reads_vars =
        let none = passed local_variable_table local_variable_type_table var_parts refl _ maps ∙ no_map local_variable_table refl stack_map in
        reads_own local_variable_table var_parts refl _ (types ++ maps) none sound.vars _ (behind_lines local_variable_table refl)

    reads_types : ReadsTable var_parts (first_named consts local_variable_type_table infos) (map (var_info a.offsets) tables.var_types)
    reads_types =
        let none = no_map local_variable_type_table refl stack_map in
        reads_own local_variable_type_table var_parts refl _ maps none sound.var_types _ (behind_vars local_variable_type_table refl refl)

    reads_map : stack_map ≡ option_map (λ (i : AttributeInfo). i.bytes) (first_named consts stack_map_table infos)
    reads_map =
        let h = subst (λ (o : Option Named). Finds o (first_named consts stack_map_table infos)) (passed stack_map_table local_variable_type_table var_parts refl _ maps) (behind_vars stack_map_table refl refl) in
        map_found stack_map _ h

  pub read_back : IsWritten consts a max_stack max_locals tables stack_map bytes → AreSound a.offsets tables → Rise a.offsets → AreInside (length a.offsets - 1) tables
      → (p : Program) → Decodes consts a.code a.table (placed p a) → IsCodeAttr consts bytes (attr_of p a max_stack max_locals tables stack_map)
  read_back w sound rise inside p decodes =
      let infos = w.code.attributes in
      let of_code = subst (λ (c : List ℕ). Decodes consts c a.table (placed p a)) (sym w.code_is) decodes in
      record {
        code = w.code;
        bytes = w.is_code;
        max_stack = sym w.stack_is;
        max_locals = sym w.locals_are;
        decodes = subst (λ (t : List RawHandler). Decodes consts w.code.code t (placed p a)) (sym w.handlers_are) of_code;
        lines = record { infos = map (line_info a.offsets) tables.lines; table = reads_lines infos w.attributes sound; rows_are = sym (lines_back a.offsets rise tables.lines inside.lines) };
        vars = record { infos = map (var_info a.offsets) tables.vars; table = reads_vars infos w.attributes sound; rows_are = sym (vars_back a.offsets rise tables.vars inside.vars) };
        var_types = record { infos = map (var_info a.offsets) tables.var_types; table = reads_types infos w.attributes sound; rows_are = sym (vars_back a.offsets rise tables.var_types inside.var_types) };
        map = reads_map infos w.attributes sound;
      }
