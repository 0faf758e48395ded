-- The names of tables that had rows are in the constant pool.
use Rattle.std.proofs.Common.{◌≡◌, ℕ, Bool, true, false, cond, List, [], ◌∷◌, ◌++◌, Option, Some, None, map, refl, sym, ap, subst, ◌∙◌}
use Rattle.std.specs.Prelude.{option_and_then}
use Rattle.std.specs.List.{AllByRecursion, find}
use Rattle.std.specs.Option.{option_map_or}
use Rattle.std.proofs.lemmas.List.{map-append}
use Rattle.std.proofs.lemmas.Slice.Eq.{bytes_eq-Decides}
use Rattle.je_base.specs.Text.{is_same_text}
use Rattle.je_consts.specs.declared.constant.Const.{Const}
use Rattle.je_consts.specs.declared.constant.Const.TheVariants as const
use Rattle.je_consts.specs.declared.place.Place.{Place}
use Rattle.je_consts.specs.Pool.{const_at, text_of}
use Rattle.je_code.specs.declared.attr.CodeAttr.{CodeAttr}
use Rattle.je_code.specs.declared.rows.LineRow.{LineRow}
use Rattle.je_code.specs.declared.rows.VarRow.{VarRow}
use Rattle.je_code.specs.declared.info.AttributeInfo.{AttributeInfo}
use Rattle.je_code.specs.declared.named.Named.{Named}
use Rattle.je_code.specs.Code.{Part}
use Rattle.je_code.specs.CodeAttr.{ReadsLines, ReadsVars, IsCodeAttr}
use Rattle.je_code.specs.Moved.{moved_lines, moved_vars, moved}
use Rattle.je_code.specs.Rows.{line_parts, var_parts, line_rows, var_rows, line_info, var_info}
use Rattle.je_code.specs.Tables.{is_named, first_named, line_number_table, local_variable_table, local_variable_type_table}
use Rattle.je_code.specs.Named.{table_of, tables_of}
use Rattle.je_code.specs.Written.{HasText, names_of}

-- ---- lists

passes_first : {A : Type 0} (test : A → Bool) (x y : A) (rest : Option A) (b : Bool) → test x ≡ b → cond b (Some x) rest ≡ Some y → (rest ≡ Some y → test y ≡ true) → test y ≡ true
passes_first test x y rest true is found later = let same : x ≡ y = cc in subst (λ z. test z ≡ true) same is
passes_first test x y rest false is found later = later found

-- what is found passes the test
found_passes : {A : Type 0} (test : A → Bool) (xs : List A) (y : A) → find test xs ≡ Some y → test y ≡ true
found_passes test [] y found = absurd cc
found_passes test (x ∷ xs) y found = passes_first test x y (find test xs) (test x) refl found (found_passes test xs y)

all_both : {A : Type 0} (P : A → Type 0) (xs ys : List A) → AllByRecursion P xs → AllByRecursion P ys → AllByRecursion P (xs ++ ys)
all_both P [] ys first second = second
all_both P (x ∷ xs) ys first second = (first.0, all_both P xs ys first.1 second)

-- ---- names

text_there : (consts : List Place) (index : ℕ) (c : Option Const) (name : List ℕ) → const_at consts index ≡ c → option_map_or (is_same_text name) (option_and_then text_of c) false ≡ true → HasText consts name
text_there consts index None name is named = absurd cc
text_there consts index (Some (const.Utf8 text)) name is named = (index, is ∙ ap (λ (t : List ℕ). Some (const.Utf8 t)) (sym ((bytes_eq-Decides name text).0 named)))
text_there consts index (Some _) name is named = absurd cc

-- the name of an attribute that is found by it
found_there : (consts : List Place) (name : List ℕ) (attributes : List AttributeInfo) (a : AttributeInfo) → first_named consts name attributes ≡ Some a → HasText consts name
found_there consts name attributes a found = text_there consts a.name (const_at consts a.name) name refl (found_passes (is_named consts name) attributes a found)

-- a table of no rows has none
named_where : {A B : Type 0} (P : List ℕ → Type 0) (name : List ℕ) (parts : B → List Part) (f : A → B) (rows : List A)
    → ((row : A) (more : List A) → rows ≡ row ∷ more → P name) → AllByRecursion P (names_of (table_of name parts (map f rows)))
named_where P name parts f [] some = tt
named_where P name parts f (row ∷ rows) some = (some row rows refl, tt)

module _ (consts : List Place) (attributes : List AttributeInfo) (offsets : List ℕ) where
  lines_from : (name : List ℕ) (attribute : Option AttributeInfo) (row : LineRow) (more : List LineRow) → first_named consts name attributes ≡ attribute
      → ReadsLines attribute offsets (row ∷ more) → HasText consts name
  lines_from name (Some a) row more is reads = found_there consts name attributes a is
  lines_from name None row more is reads =
      let none : row ∷ more ≡ [] = reads.rows_are ∙ ap (line_rows offsets) reads.table in
      absurd cc

  vars_from : (name : List ℕ) (attribute : Option AttributeInfo) (row : VarRow) (more : List VarRow) → first_named consts name attributes ≡ attribute
      → ReadsVars attribute offsets (row ∷ more) → HasText consts name
  vars_from name (Some a) row more is reads = found_there consts name attributes a is
  vars_from name None row more is reads =
      let none : row ∷ more ≡ [] = reads.rows_are ∙ ap (var_rows offsets) reads.table in
      absurd cc

  -- where rows are left there were rows
  line_names : (to : ℕ → ℕ) (count : ℕ) (places : List ℕ) (name : List ℕ) (rows : List LineRow) → ReadsLines (first_named consts name attributes) offsets rows
      → AllByRecursion (HasText consts) (names_of (table_of name line_parts (map (line_info places) (moved_lines to count rows))))
  line_names to count places name [] reads = tt
  line_names to count places name (row ∷ more) reads =
      named_where (HasText consts) name line_parts (line_info places) (moved_lines to count (row ∷ more))
      (λ _ _ _. lines_from name (first_named consts name attributes) row more refl reads)

  var_names : (to : ℕ → ℕ) (count : ℕ) (places : List ℕ) (name : List ℕ) (rows : List VarRow) → ReadsVars (first_named consts name attributes) offsets rows
      → AllByRecursion (HasText consts) (names_of (table_of name var_parts (map (var_info places) (moved_vars to count rows))))
  var_names to count places name [] reads = tt
  var_names to count places name (row ∷ more) reads =
      named_where (HasText consts) name var_parts (var_info places) (moved_vars to count (row ∷ more))
      (λ _ _ _. vars_from name (first_named consts name attributes) row more refl reads)

names_both : (P : List ℕ → Type 0) (xs ys : List Named) → AllByRecursion P (names_of xs) → AllByRecursion P (names_of ys) → AllByRecursion P (names_of (xs ++ ys))
names_both P xs ys first second =
    subst (AllByRecursion P) (sym (map-append (λ (named : Named). named.name) xs ys)) (all_both P (names_of xs) (names_of ys) first second)

-- The tables of a Code have their names there, however their rows move.
pub names_there : (consts : List Place) (info : List ℕ) (old : CodeAttr) (to : ℕ → ℕ) (count : ℕ) (places : List ℕ) → IsCodeAttr consts info old
    → AllByRecursion (HasText consts) (names_of (tables_of places (moved to count old)))
names_there consts info old to count places is =
    let attributes = is.code.attributes in
    let offsets = old.decoded.offsets in
    let lines = line_names consts attributes offsets to count places line_number_table old.lines is.lines in
    let vars = var_names consts attributes offsets to count places local_variable_table old.vars is.vars in
    let types = var_names consts attributes offsets to count places local_variable_type_table old.var_types is.var_types in
    names_both (HasText consts) (table_of line_number_table line_parts (map (line_info places) (moved_lines to count old.lines))) _ lines
    (names_both (HasText consts) (table_of local_variable_table var_parts (map (var_info places) (moved_vars to count old.vars))) _ vars types)
