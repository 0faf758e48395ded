-- The program that comes of blocks in the place of instructions.
use Rattle.std.proofs.Common.{◌≡◌, ℕ, suc, ◌<◌, List, [], ◌∷◌, length, map, Option, Some, None, Bool, false, option_map, refl, sym, ap, subst, ◌∙◌, arith}
use Rattle.std.specs.Prelude.{IsTrue, count_by}
use Rattle.std.specs.List.{AllByRecursion, AllZip}
use Rattle.je_consts.specs.declared.place.Place.{Place}
use Rattle.je_instr.specs.Allowed.{IsAllowed}
use Rattle.je_instr.specs.CodeProgram.{parameters_of}
use Rattle.je_instr.specs.Resolves.{Resolves}
use Rattle.je_shape.specs.Least.{Assignment}
use Rattle.je_keep.specs.MethodCode.{AreFaultless}
use Rattle.je_calls.proofs.ShapeLemmas.{handlers_exist}
use Rattle.je_machine.specs.Operation as machine
use Rattle.je_instr.specs.declared.instr.Instr.{Instr}
use Rattle.je_instr.specs.declared.program.Handler.{Handler}
use Rattle.je_instr.specs.declared.program.Program.{Program}
use Rattle.je_instr.specs.Assembling.{AllowsProgram}
use Rattle.je_splice.specs.InstrCodes.{instr_codes}
use Rattle.je_splice.specs.Layout.{laid_code, laid_handlers}
use Rattle.je_splice.specs.Marks.{Marks, marked_items, marked_handlers, new_index}
use Rattle.je_splice.specs.Put.{PutAt, replacements, marks_of}
use Rattle.je_put.specs.declared.block.Block.{Block}
use Rattle.je_put.specs.declared.block.PlaceBlock.{PlaceBlock}
use Rattle.je_put.specs.Placing.{BelongsTo, completes, put_at}
use Rattle.je_put.specs.Result.{pieces, Lists, put_program}
use Rattle.je_put.specs.Result as put
use Rattle.je_calls.specs.declared.replace.Replaced.{Replaced}
use Rattle.je_calls.specs.declared.rule.Choice.{Choice}
use Rattle.je_calls.specs.Blocks.{block_of, code_by, blocks_of}
use Rattle.je_calls.specs.Choices.{AreChosen}
use Rattle.je_calls.specs.Chosen.{choices_from, chosen_at, is_given}
use Rattle.je_calls.specs.Method.{Task, IsProgramOf, method_with, ArePlain, IsReplaceableTask}
use Rattle.je_calls.specs.RefRun.{Agrees}
use Rattle.je_calls.specs.Result.{new_program, new_place, with_code, IsReplaced}

-- ---- each block is the program's own, since it says nothing of shapes

one_belongs : (count at : ℕ) (code : Option (List Instr)) (fs : List (Option Block)) → AllByRecursion (λ (p : PutAt Block). BelongsTo count p.piece) (replacements (suc at) fs)
    → AllByRecursion (λ (p : PutAt Block). BelongsTo count p.piece) (replacements at (option_map block_of code ∷ fs))
one_belongs count at None fs h = h
one_belongs count at (Some code) fs h = (tt, h)

all_belong : (count at : ℕ) (is : List Instr) (choices : List Choice) → AllByRecursion (λ (p : PutAt Block). BelongsTo count p.piece) (replacements at (blocks_of is choices))
all_belong count at [] choices = tt
all_belong count at (i ∷ is) [] = tt
all_belong count at (i ∷ is) (choice ∷ choices) = one_belongs count at (code_by i choice) (blocks_of is choices) (all_belong count (suc at) is choices)

of_put : (count : ℕ) (ps : List PlaceBlock) → AllByRecursion (λ (p : PutAt Block). BelongsTo count p.piece) (map put_at ps) → AllByRecursion (λ (p : PlaceBlock). BelongsTo count p.block) ps
of_put count [] h = tt
of_put count (p ∷ ps) h = (h.0, of_put count ps h.1)

pub places_belong : (count : ℕ) (ps : List PlaceBlock) (is : List Instr) (choices : List Choice) → map put_at ps ≡ replacements 0 (blocks_of is choices) → AllByRecursion (λ (p : PlaceBlock). BelongsTo count p.block) ps
places_belong count ps is choices e = of_put count ps (subst (AllByRecursion (λ (p : PutAt Block). BelongsTo count p.piece)) (sym e) (all_belong count 0 is choices))

-- ---- the program and where indexes go

abbrev marks_by : List (PutAt Block) → Marks Block Handler
marks_by l = marks_of (λ (h : Handler). h.target) completes l []

abbrev program_by : Program → List (PutAt Block) → Program
program_by p l = record {
  instrs = laid_code instr_codes (pieces (marked_items instr_codes (marks_by l) p.instrs));
  handlers = laid_handlers instr_codes (pieces (marked_items instr_codes (marks_by l) p.instrs)) (marked_handlers instr_codes (marks_by l) p.handlers);
}

abbrev place_by : Program → List (PutAt Block) → ℕ → ℕ
place_by p l = new_index (marks_by l) (pieces (marked_items instr_codes (marks_by l) p.instrs))

pub program_is : (p : Program) (ps : List PlaceBlock) (choices : List Choice) → map put_at ps ≡ replacements 0 (blocks_of p.instrs choices) → put_program p ps [] ≡ new_program p choices
program_is p ps choices e = ap (program_by p) e

pub places_are : (p : Program) (ps : List PlaceBlock) (choices : List Choice) (count : ℕ) (list : List ℕ) → map put_at ps ≡ replacements 0 (blocks_of p.instrs choices) → Lists (put.new_place p ps []) count list
    → Lists (new_place p choices) count list
places_are p ps choices count list e h = subst (λ (l : List (PutAt Block)). Lists (place_by p l) count list) e h

-- ---- the whole

pub replaced : (t : Task) (program : machine.Program) (r : Replaced) (choices : List Choice) → AreChosen t program choices → r.program ≡ new_program t.code choices
    → Lists (new_place t.code choices) (suc (length t.code.instrs)) r.new_of → r.count ≡ count_by is_given choices
    → ((chosen : AreChosen t program choices) (new : machine.Program) → IsProgramOf (with_code t (new_program t.code (choices_from t.rules chosen.x 0 program.operations))) new → Agrees program (chosen_at program chosen.x t.rules) new)
    → IsReplaced t program r
replaced t program r choices chosen code new_of count agrees =
    let same = chosen.choices_are in
    let is : r.program ≡ new_program t.code (choices_from t.rules chosen.x 0 program.operations) = code ∙ ap (new_program t.code) same in
    record {
      x = chosen.x;
      faultless = chosen.faultless;
      plain = chosen.plain;
      code = is;
      new_of = subst (λ (l : List Choice). Lists (new_place t.code l) (suc (length t.code.instrs)) r.new_of) same new_of;
      count = count ∙ ap (count_by is_given) same;
      agrees = λ new of. agrees chosen new (subst (λ (p : Program). IsProgramOf (with_code t p) new) is of);
    }

pub formed : ((consts : List Place) (is : List Instr) → AllByRecursion (IsAllowed consts) is → (a : List machine.Operation) × AllZip (Resolves consts) is a) → (t : Task) → AllowsProgram t.consts t.code
    → 0 < length t.code.instrs → (choices : List Choice) → ((program : machine.Program) → IsProgramOf t program → AreChosen t program choices) → IsReplaceableTask t
formed all t allowed some choices chosen =
    let operations = all t.consts t.code.instrs allowed.operands in
    let handlers = handlers_exist t.consts t.code.handlers allowed.caught in
    let program : machine.Program = record { parameters = parameters_of t.is_static t.types; operations = operations.0; handlers = handlers.0 } in
    let of : IsProgramOf t program = record { operations = operations.1; handlers = handlers.1; parameters = refl } in
    let is = chosen program of in
    (program, of, record { some = some; x = is.x; faultless = is.faultless; plain = is.plain })

-- what is not empty has a first item
pub some_item : {A : Type 0} (xs : List A) (empty : Bool) → empty ≡ false → (xs ≡ [] → IsTrue empty) → 0 < length xs
some_item [] empty none h = let yes = h refl in absurd cc
some_item (a ∷ xs) empty none h = omega arith

-- What holds of the new program of each method that has these instructions holds of what is answered, where there is such a method.
pub new_holds : (P : Program → Type 0) (t : Task) (choices : List Choice) (code : Program) → code ≡ new_program t.code choices → IsReplaceableTask t
    → ((program : machine.Program) → IsProgramOf t program → AreChosen t program choices)
    → ((program : machine.Program) (x : Assignment) → IsProgramOf t program → AreFaultless (method_with t program) x → ArePlain t.rules x program
    → P (new_program t.code (choices_from t.rules x 0 program.operations))) → P code
new_holds P t choices code is z chosen holds =
    let one = chosen z.0 z.1 in
    subst P (sym (is ∙ ap (new_program t.code) one.choices_are)) (holds z.0 one.x z.1 one.faultless one.plain)
