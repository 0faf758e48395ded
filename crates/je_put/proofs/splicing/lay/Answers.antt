use Rattle.std.proofs.Common.{◌∙◌, ℕ, List, [], suc, length, ap, sym, subst, slice_index}
use Rattle.std.specs.List.{AllByRecursion}
use Rattle.je_instr.specs.declared.program.Handler.{Handler}
use Rattle.je_splice.specs.InstrCodes.{instr_codes}
use Rattle.je_splice.specs.Layout.{laid_handlers}
use Rattle.je_splice.specs.Marks.{new_index, marked_handlers}
use Rattle.je_put.specs.Items.{items_seen}
use Rattle.je_put.specs.Placing.{block_marks}
use Rattle.je_put.specs.Result.{pieces, shapes_from, Lists}
use Rattle.je_put.specs.Tables.{HasTargetsBelow, BelongBelow}
use Rattle.je_put.proofs.TablesLemmas.{begins_some, lands_by, without_end}
use Rattle.je_put.proofs.splicing.lay.Goals as goal

pub tables_of-requires-clause-begins : goal.tables_of-requires-clause-begins
tables_of-requires-clause-begins c = begins_some (block_marks [] []) c.args.items.now c.deref.result.now c.in_ok-begins.begins.items c.deref.ensures.value (c.in_ok-begins.ensures (block_marks [] []))

pub code_of-requires-clause-some : goal.code_of-requires-clause-some
code_of-requires-clause-some c = begins_some (block_marks [] []) c.args.items.now c.deref-2.result.now c.in_ok-begins.begins.items c.deref-2.ensures.value (c.in_ok-begins.ensures (block_marks [] []))

pub code_of-requires-clause-targets : goal.code_of-requires-clause-targets
code_of-requires-clause-targets c =
    subst (λ (n : ℕ). AllByRecursion (HasTargetsBelow n) c.args.items.now)
    (sym (without_end (length c.args.p.now.instrs) c.deref-3.result.now c.in_ok-tables.tables.landing.items (length c.args.table.now) c.deref-3.ensures.value c.in_ok-tables.ensures.long.landing c.requires.count))
    c.requires.targets

pub handlers_of-requires-clause-some : goal.handlers_of-requires-clause-some
handlers_of-requires-clause-some c = begins_some (block_marks [] []) c.args.items.now c.deref-4.result.now c.in_ok-begins.begins.items c.deref-4.ensures.value (c.in_ok-begins.ensures (block_marks [] []))

pub shapes_of-requires : goal.shapes_of-requires
shapes_of-requires c =
    subst (λ (n : ℕ). AllByRecursion (BelongBelow n) c.args.items.now)
    (sym (without_end (length c.args.p.now.instrs) c.deref-5.result.now c.in_ok-tables.tables.new_of.items (length c.args.table.now) c.deref-5.ensures.value c.in_ok-tables.ensures.long.new_of c.requires.count))
    c.requires.belong

pub returns : goal.returns
returns c places entries has =
    let m = block_marks places entries in
    let seen = items_seen m c.args.items.now in
    let all = pieces seen in
    let begins = c.in_ok-begins.ensures m in
    let tables = c.in_ok-tables.ensures.found places entries all has (c.deref.ensures.value ∙ begins) in
    record {
      instrs = c.from_vec.ensures ∙ c.in_ok-code.ensures m (c.deref-2.ensures.value ∙ begins) (lands_by m all (length c.args.table.now) c.deref-3.result.now c.in_ok-tables.tables.landing.items c.deref-3.ensures.value tables.landing);
      handlers = c.from_vec-2.ensures ∙ c.in_ok-handlers.ensures places entries has (c.deref-4.ensures.value ∙ begins) tables
          ∙ ap (λ (l : List Handler). laid_handlers instr_codes all (marked_handlers instr_codes m l)) c.as_slice.ensures;
      new_of = subst (λ (l : List ℕ). Lists (new_index m all) (suc (length c.args.p.now.instrs)) l) (sym c.from_vec-3.ensures) (subst (λ (n : ℕ). Lists (new_index m all) n c.in_ok-tables.tables.new_of.items) c.requires.count tables.new_of);
      shapes = c.from_vec-4.ensures ∙ c.in_ok-shapes.ensures m
          ∙ ap (λ (l : List ℕ). shapes_from (slice_index l) 0 seen) (c.deref-5.ensures.value ∙ sym c.from_vec-3.ensures);
    }
