-- The rows of a Code attribute that is read stand within its code.
use Rattle.std.proofs.Common.{◌≡◌, ℕ, ◌+◌, ◌<◌, ◌≤◌, Bool, true, false, List, [], ◌∷◌, length, get_or, map, Option, Some, None, refl, sym, ap, subst, ◌∙◌, arith, inl, inr, eqb, eqb-true}
use Rattle.std.specs.Prelude.{◌&&◌}
use Rattle.std.specs.List.{AllByRecursion, filter}
use Rattle.std.proofs.lemmas.Bool.{cases_lt, false≢true}
use Rattle.std.proofs.lemmas.List.Folds.{Any-from_list_any}
use Rattle.std.proofs.lemmas.List.Sums.{fails_before_first, passes_at_first}
use Rattle.je_consts.specs.declared.place.Place.{Place}
use Rattle.je_code.specs.declared.attr.CodeAttr.{CodeAttr}
use Rattle.je_code.specs.declared.rows.LineRow.{LineRow}
use Rattle.je_code.specs.declared.rows.VarRow.{VarRow}
use Rattle.je_code.specs.Code.{AttributeInfo, Part}
use Rattle.je_code.specs.CodeAttr.{IsLineWithin, IsVarWithin, ReadsLines, ReadsVars, IsCodeAttr, HasRowsWithin}
use Rattle.je_code.specs.Reading.{IsRising}
use Rattle.je_code.specs.Rows.{LineInfo, VarInfo, is_offset, index_at, end_pc, is_line, is_var, line_row, var_row}
use Rattle.je_code.specs.Tables.{ReadsTable}

-- ---- what is made of each item that passes a test

module _ {X Y : Type 0} (f : X → Y) (p : X → Bool) where
  one_more : (P : Y → Type 0) (x : X) (xs : List X) → (p x ≡ true → P (f x)) → AllByRecursion P (map f (filter p xs)) → (b : Bool) → p x ≡ b → AllByRecursion P (map f (filter p (x ∷ xs)))
  one_more P x xs each rest true pass = rw pass (each pass, rest)
  one_more P x xs each rest false fail = rw fail rest

  all_made : (P : Y → Type 0) → ((x : X) → p x ≡ true → P (f x)) → (xs : List X) → AllByRecursion P (map f (filter p xs))
  all_made P each [] = tt
  all_made P each (x ∷ xs) = one_more P x xs (each x) (all_made P each xs) (p x) refl

  one_longer : (x : X) (xs : List X) → length (map f (filter p xs)) ≤ length xs → (b : Bool) → p x ≡ b → length (map f (filter p (x ∷ xs))) ≤ length (x ∷ xs)
  one_longer x xs rest true pass = rw pass (omega (arith, rest))
  one_longer x xs rest false fail = rw fail (omega (arith, rest))

  no_more_made : (xs : List X) → length (map f (filter p xs)) ≤ length xs
  no_more_made [] = omega arith
  no_more_made (x ∷ xs) = one_longer x xs (no_more_made xs) (p x) refl

both_so : (a b : Bool) → (a && b) ≡ true → (a ≡ true) × (b ≡ true)
both_so true b h = (refl, h)
both_so false b h = absurd (false≢true h)

-- ---- indexes

module _ (offsets : List ℕ) (rising : IsRising offsets) where
  index_within : (offset : ℕ) → is_offset offsets offset ≡ true → index_at offsets offset < length offsets
  index_within offset is =
      let at = Any-from_list_any (eqb offset) offsets is in
      elim (cases_lt at.0 (index_at offsets offset)) [
        | inl less ↦
            let fails = fails_before_first (eqb offset) offsets at.0 at.1 less in
            absurd (false≢true (sym fails ∙ ap (eqb offset) at.3 ∙ at.4))
        | inr more ↦ omega (arith, more, at.2)
      ]

  stands_at : (offset : ℕ) → is_offset offsets offset ≡ true → offset ≡ get_or offsets (index_at offsets offset) 0
  stands_at offset is = eqb-true offset (get_or offsets (index_at offsets offset) 0) (passes_at_first (eqb offset) offsets 0 (index_within offset is))

  in_order : (low high : ℕ) → low ≤ high → is_offset offsets low ≡ true → is_offset offsets high ≡ true → index_at offsets low ≤ index_at offsets high
  in_order low high le is also =
      elim (cases_lt (index_at offsets high) (index_at offsets low)) [
        | inl less ↦
            let below = rising (index_at offsets high) (index_at offsets low) less (index_within low is) in
            let at_low = stands_at low is in
            let at_high = stands_at high also in
            absurd (omega (arith, below, at_low, at_high, le))
        | inr more ↦ more
      ]

  module _ (count : ℕ) (all : length offsets ≡ count + 1) where
    line_within : (i : LineInfo) → is_line offsets i ≡ true → IsLineWithin count (line_row offsets i)
    line_within i is = let within = index_within i.start_pc is in omega (arith, within, all)

    var_within : (i : VarInfo) → is_var offsets i ≡ true → IsVarWithin count (var_row offsets i)
    var_within i is =
        let ends = both_so (is_offset offsets i.start_pc) (is_offset offsets (end_pc i)) is in
        let le : i.start_pc ≤ end_pc i = omega arith in
        let order = in_order i.start_pc (end_pc i) le ends.0 ends.1 in
        let within = index_within (end_pc i) ends.1 in
        (order, omega (arith, within, all))

    lines_within : (attribute : Option AttributeInfo) (rows : List LineRow) → ReadsLines attribute offsets rows → AllByRecursion (IsLineWithin count) rows
    lines_within attribute rows h =
        subst (AllByRecursion (IsLineWithin count)) (sym h.rows_are) (all_made (line_row offsets) (is_line offsets) (IsLineWithin count) line_within h.infos)

    vars_within : (attribute : Option AttributeInfo) (rows : List VarRow) → ReadsVars attribute offsets rows → AllByRecursion (IsVarWithin count) rows
    vars_within attribute rows h =
        subst (AllByRecursion (IsVarWithin count)) (sym h.rows_are) (all_made (var_row offsets) (is_var offsets) (IsVarWithin count) var_within h.infos)

-- ---- how many there are

few_entries : {A : Type 0} (parts : A → List Part) (attribute : Option AttributeInfo) (entries : List A) → ReadsTable parts attribute entries → length entries ≤ 65535
few_entries parts None entries h = omega (arith, ap length h)
few_entries parts (Some a) entries (inl h) = let fits = h.sound.0.0 in omega (arith, fits)
few_entries parts (Some a) entries (inr h) = omega (arith, ap length h.1)

module _ (attribute : Option AttributeInfo) (offsets : List ℕ) where
  few_lines : (rows : List LineRow) → ReadsLines attribute offsets rows → length rows ≤ 65535
  few_lines rows h =
      let made = no_more_made (line_row offsets) (is_line offsets) h.infos in
      let few = few_entries _ attribute h.infos h.table in
      omega (arith, ap length h.rows_are, made, few)

  few_vars : (rows : List VarRow) → ReadsVars attribute offsets rows → length rows ≤ 65535
  few_vars rows h =
      let made = no_more_made (var_row offsets) (is_var offsets) h.infos in
      let few = few_entries _ attribute h.infos h.table in
      omega (arith, ap length h.rows_are, made, few)

-- ---- all rows

pub rows_within : (consts : List Place) (info : List ℕ) (attr : CodeAttr) → IsCodeAttr consts info attr → length attr.decoded.offsets ≡ length attr.decoded.program.instrs + 1 → IsRising attr.decoded.offsets
    → HasRowsWithin attr
rows_within consts info attr h count rising = record {
  offsets = count;
  lines = lines_within attr.decoded.offsets rising (length attr.decoded.program.instrs) count _ attr.lines h.lines;
  vars = vars_within attr.decoded.offsets rising (length attr.decoded.program.instrs) count _ attr.vars h.vars;
  var_types = vars_within attr.decoded.offsets rising (length attr.decoded.program.instrs) count _ attr.var_types h.var_types;
  few_lines = few_lines _ attr.decoded.offsets attr.lines h.lines;
  few_vars = few_vars _ attr.decoded.offsets attr.vars h.vars;
  few_var_types = few_vars _ attr.decoded.offsets attr.var_types h.var_types;
}
