use Rattle.std.proofs.Common.{◌∙◌, suc, length, vec_len, sym, ap, subst, arith}
use Rattle.std.specs.List.{AllByRecursion}
use Rattle.je_instr.specs.CodeProgram.{HasTargets}
use Rattle.je_put.specs.declared.parts.Parts.{Parts}
use Rattle.je_put.specs.Placing.{block_marks}
use Rattle.je_put.proofs.ItemsLemmas.{row_more, is_here}
use Rattle.je_put.proofs.items.items_of.Goals as goal

pub loop-instr-preserved : goal.loop-instr-preserved
loop-instr-preserved c = record {
  count = omega (arith, c.loop-instr.invariant.count, c.in-Some.ensures.cases.1);
  whole = λ places entries has.
      let m = block_marks places entries in
      let count = c.loop-instr.invariant.count in
      row_more m c.loop-instr.i _ _ _ c.in-Some.instr.now c.loop-instr.rest.now c.in-Some.tail.now c.in-Some.ensures.cases.0
      (c.in_ok-push_index.ensures.seen m c.loop-instr.i
      (is_here places entries (suc (length c.args.instrs.now)) c.args.table.now has c.loop-instr.i c.index-table-i.result c.index-table-i-in-Some.result c.len.result
      (omega (arith, count, c.in-Some.ensures.cases.1)) c.index-table-i.is c.index-table-i-in-Some.is (c.len.ensures ∙ ap (λ (p : Parts). vec_len p.entries) (sym c.index-table-i-in-Some.is) ∙ c.index-table-i-in-Some.result.entries.ok.0)))
      (c.loop-instr.invariant.whole places entries has);
  kept = λ count all.
      let before = c.loop-instr.invariant.kept count all in
      let split = subst (AllByRecursion (HasTargets count)) c.in-Some.ensures.cases.0 before.0 in
      (split.1, c.in_ok-push_index.ensures.kept count split.0 before.1);
}

pub returns-clause-kept : goal.returns-clause-kept
returns-clause-kept c count all = (c.loop-instr.invariant.kept count all).1
