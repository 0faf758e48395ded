use Rattle.std.proofs.Common.{◌≡◌, ◌∙◌, ◌+◌, List, suc, length, ap, sym, subst, refl, arith}
use Rattle.je_splice.specs.Layout as layout
use Rattle.je_instr.specs.declared.instr.Instr.{Instr}
use Rattle.je_put.specs.declared.block.Block.{Block}
use Rattle.je_put.specs.Items.{items_seen}
use Rattle.je_put.specs.Placing.{block_marks}
use Rattle.je_put.specs.Result.{put_items, pieces}
use Rattle.je_instr.specs.declared.program.Program.{Program}
use Rattle.je_splice.specs.InstrCodes.{instr_codes}
use Rattle.je_splice.specs.Marks.{marked_handlers}
use Rattle.je_splice.specs.Resolved.{IsWoven}
use Rattle.je_put.specs.Tables.{IsLaid}
use Rattle.je_put.proofs.SplicingLemmas.{targets_of, items_put, laid_put, belong_of, program_put, shapes_put}
use Rattle.je_put.proofs.splicing.splice.Goals as goal

pub lay-requires-clause-targets : goal.lay-requires-clause-targets
lay-requires-clause-targets c =
    targets_of (length c.args.p.now.instrs) c.in_ok-items.items.items c.deref-3.result.now c.args.p.now.instrs c.as_slice-instrs.result.now c.as_slice-instrs.ensures c.deref-3.ensures.value
    (c.in_ok-items.ensures.kept (length c.args.p.now.instrs)) c.requires.program.targets

pub lay-requires-clause-belong : goal.lay-requires-clause-belong
lay-requires-clause-belong c =
    belong_of c.args.p.now c.args.places.now c.args.entries.now c.requires.places c.requires.entries c.deref-3.result.now
    (items_put c.args.p.now c.args.places.now c.args.entries.now c.in_ok-items.items.items c.deref-3.result.now c.as_slice-instrs.result.now c.in_ok-sum.field-0 c.in_ok-table.table.items c.deref.result.now
    c.deref-3.ensures.value c.as_slice-instrs.ensures c.in_ok-table.ensures c.in_ok-sum.ensures c.deref.ensures.value (c.in_ok-items.ensures.seen c.args.places.now c.args.entries.now))

pub returns-clause-program : goal.returns-clause-program
returns-clause-program c =
    program_put c.args.p.now c.args.places.now c.args.entries.now c.in_ok-spliced.spliced
    (laid_put c.args.p.now c.args.places.now c.args.entries.now c.deref-3.result.now c.in_ok-spliced.spliced c.in_ok-sum.field-0 c.in_ok-table.table.items c.deref-2.result.now
    (items_put c.args.p.now c.args.places.now c.args.entries.now c.in_ok-items.items.items c.deref-3.result.now c.as_slice-instrs.result.now c.in_ok-sum.field-0 c.in_ok-table.table.items c.deref.result.now
    c.deref-3.ensures.value c.as_slice-instrs.ensures c.in_ok-table.ensures c.in_ok-sum.ensures c.deref.ensures.value (c.in_ok-items.ensures.seen c.args.places.now c.args.entries.now)) c.in_ok-table.ensures c.deref-2.ensures.value (c.in_ok-spliced.ensures c.args.places.now c.args.entries.now))

pub returns-clause-new_of : goal.returns-clause-new_of
returns-clause-new_of c =
    (laid_put c.args.p.now c.args.places.now c.args.entries.now c.deref-3.result.now c.in_ok-spliced.spliced c.in_ok-sum.field-0 c.in_ok-table.table.items c.deref-2.result.now
    (items_put c.args.p.now c.args.places.now c.args.entries.now c.in_ok-items.items.items c.deref-3.result.now c.as_slice-instrs.result.now c.in_ok-sum.field-0 c.in_ok-table.table.items c.deref.result.now
    c.deref-3.ensures.value c.as_slice-instrs.ensures c.in_ok-table.ensures c.in_ok-sum.ensures c.deref.ensures.value (c.in_ok-items.ensures.seen c.args.places.now c.args.entries.now)) c.in_ok-table.ensures c.deref-2.ensures.value (c.in_ok-spliced.ensures c.args.places.now c.args.entries.now)).new_of

pub returns-clause-shapes : goal.returns-clause-shapes
returns-clause-shapes c =
    shapes_put c.args.p.now c.args.places.now c.args.entries.now c.requires.places c.requires.entries c.in_ok-spliced.spliced
    (laid_put c.args.p.now c.args.places.now c.args.entries.now c.deref-3.result.now c.in_ok-spliced.spliced c.in_ok-sum.field-0 c.in_ok-table.table.items c.deref-2.result.now
    (items_put c.args.p.now c.args.places.now c.args.entries.now c.in_ok-items.items.items c.deref-3.result.now c.as_slice-instrs.result.now c.in_ok-sum.field-0 c.in_ok-table.table.items c.deref.result.now
    c.deref-3.ensures.value c.as_slice-instrs.ensures c.in_ok-table.ensures c.in_ok-sum.ensures c.deref.ensures.value (c.in_ok-items.ensures.seen c.args.places.now c.args.entries.now)) c.in_ok-table.ensures c.deref-2.ensures.value (c.in_ok-spliced.ensures c.args.places.now c.args.entries.now))

pub returns-clause-does : goal.returns-clause-does
returns-clause-does c = λ consts.
    subst
    (λ (x : Program). IsWoven consts (pieces (put_items c.args.p.now c.args.places.now c.args.entries.now)) (marked_handlers instr_codes (block_marks c.args.places.now c.args.entries.now) c.args.p.now.handlers)
    x.instrs x.handlers) (sym (returns-clause-program c)) (c.put_programs_do.ensures consts c.args.p.now c.args.places.now c.args.entries.now)
