use Rattle.std.proofs.Common.{get_or}
use Rattle.std.proofs.lemmas.List.{get_or_default}
use Rattle.je_class.specs.Summed.{IsNameAt}
use Rattle.je_class.proofs.Zips.{AllZip_taken}
use Rattle.je_class.proofs.summed.names_of.Goals as goal

pub loop-index-preserved : goal.loop-index-preserved
loop-index-preserved c =
    let indexes = c.args.indexes.now in
    let at = c.loop-index.index-index in
    let index = get_or indexes at 0 in
    let is_there = get_or_default indexes at 0 index c.loop-index-test.true in
    rw c.in_ok-push.ensures.items (AllZip_taken (IsNameAt c.args.consts.now) indexes c.loop-index.names.items at index c.in_ok-name_of.field-0 c.loop-index-test.true is_there c.loop-index.invariant c.in_ok-name_of.ensures)
