use Rattle.std.proofs.Common.{◌≡◌, ◌∙◌, ◌++◌, ◌-◌, List, [], filter, map, length, ap, sym, subst, rules}
use Rattle.std.specs.List.{AllByRecursion}
use Rattle.std.proofs.lemmas.List.{append-nil, nil_from_length}
use Rattle.je_instr.specs.Assembling.{IsWithinProgram}
use Rattle.je_instr.specs.declared.program.Handler.{Handler}
use Rattle.je_splice.specs.InstrCodes.{covers_some}
use Rattle.je_put.specs.Placing.{block_marks}
use Rattle.je_put.specs.Items.{items_seen}
use Rattle.je_put.specs.Result.{pieces}
use Rattle.je_put.specs.Tables.{moved_handler}
use Rattle.je_put.proofs.CodeLemmas.{filter_more, all_laid}
use Rattle.je_put.proofs.handlers.handlers_of.Goals as goal

pub loop-handler-preserved : goal.loop-handler-preserved
loop-handler-preserved c = record {
  within = (subst (AllByRecursion (IsWithinProgram (length c.args.table.now - 1))) c.in-Some.ensures.cases.0 c.loop-handler.invariant.within).1;
  whole = λ places entries has begins tables.
      let m = block_marks places entries in
      filter_more (moved_handler m (pieces (items_seen m c.args.items.now))) c.loop-handler.all.items c.push_entry.new.out.items _ c.in_ok-moved.field-0 c.in-Some.handler.now c.loop-handler.rest.now c.in-Some.tail.now
      c.in_ok-push_entry.ensures (c.in_ok-moved.ensures places entries has begins tables) c.in-Some.ensures.cases.0 (c.loop-handler.invariant.whole places entries has begins tables);
}

pub returns : goal.returns
returns c places entries has begins tables =
    let m = block_marks places entries in
    let all = pieces (items_seen m c.args.items.now) in
    let nothing : c.loop-handler.rest.now ≡ [] = nil_from_length c.loop-handler.rest.now (search rules) in
    sym (append-nil c.loop-handler.all.items)
    ∙ ap (λ (l : List Handler). c.loop-handler.all.items ++ filter covers_some (map (moved_handler m all) l)) (sym nothing)
    ∙ c.loop-handler.invariant.whole places entries has begins tables
    ∙ all_laid m all c.args.handlers.now

pub loop-handler-init : goal.loop-handler-init
loop-handler-init c = record {
  within = c.requires.within;
  whole = λ places entries has begins tables.
      let m = block_marks places entries in
      ap (λ (l : List Handler). l ++ filter covers_some (map (moved_handler m (pieces (items_seen m c.args.items.now))) c.args.handlers.now)) (c.in_ok-all.ensures m);
}
