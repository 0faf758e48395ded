use Rattle.std.proofs.Common.{◌∙◌, arith}
use Rattle.je_put.proofs.PartsLemmas.{entries_more, entries_past, length_set}
use Rattle.je_put.proofs.parts.add_entries.Goals as goal

pub loop-entry-preserved-in_ok-add_entry : goal.loop-entry-preserved-in_ok-add_entry
loop-entry-preserved-in_ok-add_entry c = record {
  rows = λ i. entries_more _ _ c.in-Some.entry.now c.loop-entry.table.items c.index_mut.result.now c.add_entry.new.self c.in-Some.ensures.cases.0 (omega (arith, c.if-at-len.true, c.len.ensures, c.loop-entry.table.ok.0)) c.index_mut.ensures.value c.in_ok-add_entry.ensures i
      ∙ c.loop-entry.invariant.rows i;
  long = length_set c.loop-entry.table.items c.in-Some.entry.now.target c.add_entry.new.self ∙ c.loop-entry.invariant.long;
}

pub loop-entry-preserved : goal.loop-entry-preserved
loop-entry-preserved c = record {
  rows = λ i. entries_past _ _ c.in-Some.entry.now c.loop-entry.table.items c.in-Some.ensures.cases.0 (omega (arith, c.if-at-len.false, c.len.ensures, c.loop-entry.table.ok.0)) i
      ∙ c.loop-entry.invariant.rows i;
  long = c.loop-entry.invariant.long;
}
