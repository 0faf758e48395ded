-- What is written is a Code of its parts, and at most four names are added.
use Rattle.std.proofs.Common.{◌≡◌, ℕ, suc, ◌+◌, ◌^◌, ◌<◌, ◌≤◌, ◌⊎◌, List, [], ◌∷◌, ◌++◌, length, map, Option, Some, None, Result, Ok, Err, refl, sym, ap, subst, ◌∙◌, append_assoc, length-append, inl, inr, arith}
use Rattle.std.proofs.lemmas.List.{length-map}
use Rattle.std.specs.List.{AllByRecursion, AllZip}
use Rattle.std.specs.Prelude.{IfErr}
use Rattle.je_base.specs.Bytes.{u2}
use Rattle.je_base.specs.Parts.{part_bytes, each, table_parts}
use Rattle.je_consts.specs.declared.constant.Const.TheVariants.{Utf8}
use Rattle.je_consts.specs.declared.fault.PoolStop.{PoolStop}
use Rattle.je_consts.specs.declared.fault.PoolStop.TheVariants as stops
use Rattle.je_consts.specs.declared.place.Place.{Place}
use Rattle.je_consts.specs.Adding.{Adds}
use Rattle.je_consts.specs.Pool.{places_of}
use Rattle.je_instr.specs.declared.assembled.Assembled.{Assembled}
use Rattle.je_code.specs.declared.named.Named.{Named}
use Rattle.je_code.specs.declared.rows.Tables.{Tables}
use Rattle.je_code.specs.Code.{Part, code_format, spelled, IsSound, attribute_parts}
use Rattle.je_code.specs.Rows.{line_info, var_info, line_parts, var_parts}
use Rattle.je_code.specs.Tables.{line_number_table, local_variable_table, local_variable_type_table}
use Rattle.je_code.specs.Writing.{head_parts, HasShortName, PutsAll}
use Rattle.je_code.specs.Named.{table_of, map_of, tables_of, IsNamed}
use Rattle.je_code.specs.Written.{IsWritten, names_of, AddsTexts}

-- ---- parts

spelled-append : (ps qs : List Part) → spelled (ps ++ qs) ≡ spelled ps ++ spelled qs
spelled-append [] qs = refl
spelled-append (p ∷ ps) qs = ap (λ (bytes : List ℕ). part_bytes code_format p ++ bytes) (spelled-append ps qs) ∙ sym (append_assoc (part_bytes code_format p) (spelled ps) (spelled qs))

all_join : {A : Type 0} (P : A → Type 0) (xs ys : List A) → AllByRecursion P xs → AllByRecursion P ys → AllByRecursion P (xs ++ ys)
all_join P [] ys h k = k
all_join P (x ∷ xs) ys h k = (h.0, all_join P xs ys h.1 k)

as_many : {A B : Type 0} (R : A → B → Type 0) (xs : List A) (ys : List B) → AllZip R xs ys → length xs ≡ length ys
as_many R [] [] h = refl
as_many R (x ∷ xs) (y ∷ ys) h = ap suc (as_many R xs ys h.1)
as_many R [] (y ∷ ys) h = absurd h
as_many R (x ∷ xs) [] h = absurd h

module _ (consts : List Place) (a : Assembled) (max_stack max_locals : ℕ) (tables : Tables) (stack_map : Option (List ℕ)) (all : List Named) (front bytes : List ℕ) where
  abbrev head : List Part
  head = head_parts max_stack max_locals a.code a.table

  pub is_written : front ≡ spelled head ++ u2 (length all) → IsSound head → all ≡ tables_of a.offsets tables ++ map_of stack_map → length all ≤ 4 → PutsAll consts all front bytes
      → IsWritten consts a max_stack max_locals tables stack_map bytes
  is_written starts sound these few puts =
      let infos = puts.infos in
      let many : length all ≡ length infos = as_many (IsNamed consts) all infos puts.names in
      let tail = table_parts attribute_parts infos in
      let behind = spelled (each attribute_parts infos) in
      let layout : bytes ≡ spelled (head ++ tail) =
      puts.bytes ∙ ap (λ (t : List ℕ). t ++ behind) starts
      ∙ append_assoc (spelled head) (u2 (length all)) behind
      ∙ ap (λ (n : ℕ). spelled head ++ (u2 n ++ behind)) many
      ∙ sym (spelled-append head tail) in
      let fits : length infos < 2 ^ 16 = omega arith in
      record {
        code = record { max_stack = max_stack; max_locals = max_locals; code = a.code; handlers = a.table; attributes = infos };
        is_code = record { layout = layout; sound = all_join _ head tail sound ((fits, tt), puts.sound) };
        stack_is = refl;
        locals_are = refl;
        code_is = refl;
        handlers_are = refl;
        attributes = subst (λ (l : List Named). AllZip (IsNamed consts) l infos) these puts.names;
      }

-- ---- names

-- one table at most, of this name
module _ {A : Type 0} (name : List ℕ) (parts : A → List Part) (short : length name ≤ 65535) where
  table_few : (rows : List A) → length (table_of name parts rows) ≤ 1
  table_few [] = omega arith
  table_few (row ∷ rows) = omega arith

  table_short : (rows : List A) → AllByRecursion HasShortName (table_of name parts rows)
  table_short [] = tt
  table_short (row ∷ rows) = (short, tt)

map_few : (stack_map : Option (List ℕ)) → length (map_of stack_map) ≤ 1
map_few None = omega arith
map_few (Some bytes) = omega arith

map_short : (stack_map : Option (List ℕ)) → AllByRecursion HasShortName (map_of stack_map)
map_short None = tt
map_short (Some bytes) = (omega arith, tt)

module _ (offsets : List ℕ) (tables : Tables) (stack_map : Option (List ℕ)) where
  abbrev lines : List Named
  lines = table_of line_number_table line_parts (map (line_info offsets) tables.lines)

  abbrev vars : List Named
  vars = table_of local_variable_table var_parts (map (var_info offsets) tables.vars)

  abbrev types : List Named
  types = table_of local_variable_type_table var_parts (map (var_info offsets) tables.var_types)

  pub few_tables : length (tables_of offsets tables ++ map_of stack_map) ≤ 4
  few_tables =
      let l = table_few line_number_table line_parts (omega arith) (map (line_info offsets) tables.lines) in
      let v = table_few local_variable_table var_parts (omega arith) (map (var_info offsets) tables.vars) in
      let t = table_few local_variable_type_table var_parts (omega arith) (map (var_info offsets) tables.var_types) in
      let m = map_few stack_map in
      let e = length-append (lines ++ (vars ++ types)) (map_of stack_map) in
      let f = length-append lines (vars ++ types) in
      let g = length-append vars types in
      omega (arith, l, v, t, m, e, f, g)

  pub short_names : AllByRecursion HasShortName (tables_of offsets tables ++ map_of stack_map)
  short_names =
      let l = table_short line_number_table line_parts (omega arith) (map (line_info offsets) tables.lines) in
      let v = table_short local_variable_table var_parts (omega arith) (map (var_info offsets) tables.vars) in
      let t = table_short local_variable_type_table var_parts (omega arith) (map (var_info offsets) tables.var_types) in
      all_join HasShortName (lines ++ (vars ++ types)) (map_of stack_map) (all_join HasShortName lines (vars ++ types) l (all_join HasShortName vars types v t)) (map_short stack_map)

-- ---- a full pool

added_one : (text : List ℕ) (old new : List Place) (index : ℕ) → Adds (Utf8 text) old (Ok index) new → length new ≤ length old + 1
added_one text old new index (inl a) = let e = ap (λ (l : List Place). length l) a.1 in omega (arith, e)
added_one text old new index (inr a) = let e = ap (λ (l : List Place). length l) a.places_are in omega (arith, e, length-append old (places_of (Utf8 text)))

pub full_count : (texts : List (List ℕ)) (old new : List Place) (n : ℕ) → AddsTexts texts old (Some (stops.Full n)) new → (65535 < n) × (n ≤ length old + 1 + length texts)
full_count [] old new n h = let e = h.0 in absurd cc
full_count (t ∷ ts) old new n (inl h) =
    let same : h.0 ≡ stops.Full n = (let e = h.1 in cc) in
    let full = subst (λ (s : PoolStop). Adds (Utf8 t) old (Err s) new) same h.2 in
    (omega (arith, full.0.count_is, full.0.past), omega (arith, full.0.count_is))
full_count (t ∷ ts) old new n (inr h) =
    let one = added_one t old h.1 h.0 h.2 in
    let on = full_count ts h.1 new n h.3 in
    (on.0, omega (arith, one, on.1))

-- of an answer, by its refusals
pub few_refusals : {A : Type 0} (all : List Named) (old new : List Place) (result : Result A PoolStop) → length all ≤ 4 → IfErr result (λ e. (e ≡ stops.Memory) ⊎ AddsTexts (names_of all) old (Some e) new)
    → (n : ℕ) → result ≡ Err (stops.Full n) → (65535 < n) × (n ≤ length old + 5)
few_refusals all old new (Ok x) few h n e = absurd cc
few_refusals all old new (Err s) few (inl m) n e = absurd cc
few_refusals all old new (Err s) few (inr h) n e =
    let same : s ≡ stops.Full n = cc in
    let full = full_count (names_of all) old new n (subst (λ (r : PoolStop). AddsTexts (names_of all) old (Some r) new) same h) in
    let many = length-map all (λ (named : Named). named.name) in
    (full.0, omega (arith, full.1, many, few))
