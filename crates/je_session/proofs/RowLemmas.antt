-- Rows under two maps that are one within the code.
use Rattle.std.proofs.Common.{◌≡◌, ℕ, ◌≤◌, List, [], ◌∷◌, length, refl, ap, ◌∙◌, arith}
use Rattle.std.specs.Prelude.{map, nat_lt, ◌&&◌}
use Rattle.std.specs.List.{AllByRecursion, filter}
use Rattle.je_code.specs.declared.attr.CodeAttr.{CodeAttr}
use Rattle.je_code.specs.declared.rows.LineRow.{LineRow}
use Rattle.je_code.specs.declared.rows.Tables.{Tables}
use Rattle.je_code.specs.declared.rows.VarRow.{VarRow}
use Rattle.je_code.specs.CodeAttr.{IsLineWithin, IsVarWithin, HasRowsWithin}
use Rattle.je_code.specs.Moved.{line_under, var_under, moved_lines, moved_vars, moved}

map-same : {A B : Type 0} (P : A → Type 0) (f g : A → B) → ((x : A) → P x → f x ≡ g x) → (xs : List A) → AllByRecursion P xs → map f xs ≡ map g xs
map-same P f g same [] all = refl
map-same P f g same (x ∷ xs) all = ap (λ y. y ∷ map f xs) (same x all.0) ∙ ap (λ l. g x ∷ l) (map-same P f g same xs all.1)

module _ (to from : ℕ → ℕ) (count most : ℕ) (same : (i : ℕ) → i ≤ most → to i ≡ from i) where
  line_under-same : (row : LineRow) → IsLineWithin most row → line_under to row ≡ line_under from row
  line_under-same row within = ap (λ (n : ℕ). record { start = n; line = row.line }) (same row.start within)

  var_under-same : (row : VarRow) → IsVarWithin most row → var_under to row ≡ var_under from row
  var_under-same row within =
      ap (λ (n : ℕ). record { start = n; end = to row.end; name = row.name; sig = row.sig; slot = row.slot }) (same row.start (omega (arith, within.0, within.1)))
      ∙ ap (λ (n : ℕ). record { start = from row.start; end = n; name = row.name; sig = row.sig; slot = row.slot }) (same row.end within.1)

  moved_lines-same : (rows : List LineRow) → AllByRecursion (IsLineWithin most) rows → moved_lines to count rows ≡ moved_lines from count rows
  moved_lines-same rows within =
      ap (filter (λ (row : LineRow). nat_lt row.start count)) (map-same (IsLineWithin most) (line_under to) (line_under from) line_under-same rows within)

  moved_vars-same : (rows : List VarRow) → AllByRecursion (IsVarWithin most) rows → moved_vars to count rows ≡ moved_vars from count rows
  moved_vars-same rows within =
      ap (filter (λ (row : VarRow). nat_lt row.start row.end && nat_lt row.start count)) (map-same (IsVarWithin most) (var_under to) (var_under from) var_under-same rows within)

tables_by : List LineRow → List VarRow → List VarRow → Tables
tables_by lines vars var_types = record { lines = lines; vars = vars; var_types = var_types }

-- the rows of a Code, under two maps that are one up to its end
pub moved-same : (to from : ℕ → ℕ) (count : ℕ) (code : CodeAttr) → ((i : ℕ) → i ≤ length code.decoded.program.instrs → to i ≡ from i) → HasRowsWithin code
    → moved to count code ≡ moved from count code
unfolding tables_by
moved-same to from count code same rows =
    let most = length code.decoded.program.instrs in
    ap (λ l. tables_by l (moved_vars to count code.vars) (moved_vars to count code.var_types)) (moved_lines-same to from count most same code.lines rows.lines)
    ∙ ap (λ l. tables_by (moved_lines from count code.lines) l (moved_vars to count code.var_types)) (moved_vars-same to from count most same code.vars rows.vars)
    ∙ ap (λ l. tables_by (moved_lines from count code.lines) (moved_vars from count code.vars) l) (moved_vars-same to from count most same code.var_types rows.var_types)
