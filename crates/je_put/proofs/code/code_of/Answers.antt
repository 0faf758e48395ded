use Rattle.std.proofs.Common.{◌+◌, drop, refl, subst, length, ◌-◌}
use Rattle.std.specs.List.{AllByRecursion}
use Rattle.je_splice.specs.InstrCodes.{instr_codes}
use Rattle.je_splice.specs.Layout.{moved_to, code_from}
use Rattle.je_put.specs.Items.{items_seen}
use Rattle.je_put.specs.Result.{pieces}
use Rattle.je_put.specs.Tables.{HasTargetsBelow}
use Rattle.je_put.proofs.ItemsLemmas.{drop_step, walk_end}
use Rattle.je_put.proofs.CodeLemmas.{code_more}
use Rattle.je_put.proofs.code.code_of.Goals as goal

pub loop-place-preserved : goal.loop-place-preserved
loop-place-preserved c =
    let step = drop_step c.args.items.now c.loop-place.place c.index-items-place.result c.loop-place-test.true c.index-items-place.is in
    record {
      targets = (subst (AllByRecursion (HasTargetsBelow (length c.args.landing.now - 1))) step c.loop-place.invariant.targets).1;
      whole = λ m begins lands.
          let all = pieces (items_seen m c.args.items.now) in
          code_more m (moved_to all) c.loop-place.code.items c.push_body.new.out.items c.push_jump.new.out.items _ c.loop-place.place c.loop-place.at c.in_ok-at.at c.in_ok-width_of.field-0 c.over_behind.result c.index-items-place.result (drop c.loop-place.place c.args.items.now) (drop (c.loop-place.place + 1) c.args.items.now)
          (c.in_ok-push_body.ensures m all begins lands) (c.in_ok-push_jump.ensures all begins) (c.over_behind.ensures m) c.in_ok-at.ensures (c.in_ok-width_of.ensures m) step (c.loop-place.invariant.whole m begins lands);
    }

pub returns : goal.returns
returns c m begins lands =
    walk_end (λ l. code_from instr_codes (moved_to (pieces (items_seen m c.args.items.now))) c.loop-place.place c.loop-place.at (pieces (items_seen m l))) c.args.items.now c.loop-place.place _ _ refl c.loop-place-test.false (c.loop-place.invariant.whole m begins lands)
