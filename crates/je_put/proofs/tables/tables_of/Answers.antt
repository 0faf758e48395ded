use Rattle.std.proofs.Common.{◌≡◌, ℕ, ◌+◌, ◌∙◌, length, length-append, ◌∷◌, [], ap, sym}
use Rattle.je_splice.specs.Layout.{moved_to}
use Rattle.je_splice.specs.Marks.{first_of, arrive, new_index}
use Rattle.je_put.specs.Placing.{block_marks}
use Rattle.je_put.proofs.ItemsLemmas.{entries_count, passed_count, met_count}
use Rattle.je_put.proofs.TablesLemmas.{arrive_is, stand_is, next_first, lists_more, lists_all}
use Rattle.je_put.proofs.tables.tables_of.Goals as goal

pub loop-i-preserved : goal.loop-i-preserved
loop-i-preserved c = record {
  firsts_long = ap length c.in_ok-push.ensures.items ∙ length-append c.loop-i.firsts.items (c.loop-i.first ∷ []) ∙ ap (λ (n : ℕ). n + 1) c.loop-i.invariant.firsts_long;
  landing_long = ap length c.in_ok-push-2.ensures.items ∙ length-append c.loop-i.landing.items (c.begin_of.result ∷ []) ∙ ap (λ (n : ℕ). n + 1) c.loop-i.invariant.landing_long;
  new_of_long = ap length c.in_ok-push-3.ensures.items ∙ length-append c.loop-i.new_of.items (c.begin_of-in-loop-i.result ∷ []) ∙ ap (λ (n : ℕ). n + 1) c.loop-i.invariant.new_of_long;
  found = λ places entries items has begins.
      let m = block_marks places entries in
      let i = c.loop-i.i in
      let row = c.index-table-i.result in
      let before = c.loop-i.invariant.found places entries items has begins in
      let e_is : c.len.result ≡ length (m.entries i) = c.len.ensures ∙ row.entries.ok.0
      ∙ sym (entries_count places entries (length c.args.table.now) c.args.table.now has i row c.loop-i-test.true c.index-table-i.is) in
      let p_is : c.len-in-loop-i.result ≡ length (m.passed i) = c.len-in-loop-i.ensures ∙ row.passed.ok.0
      ∙ sym (passed_count places entries (length c.args.table.now) c.args.table.now has i row c.loop-i-test.true c.index-table-i.is) in
      let t_is : c.len-in-loop-i-2.result ≡ length (m.met i) = c.len-in-loop-i-2.ensures ∙ row.met.ok.0
      ∙ sym (met_count places entries (length c.args.table.now) c.args.table.now has i row c.loop-i-test.true c.index-table-i.is) in
      let arrives = arrive_is m i c.loop-i.first c.len.result c.len-in-loop-i.result c.len-in-loop-i-2.result before.first e_is p_is t_is c.in_ok-arrive.arrive c.in_ok-sum.field-0 c.in_ok-arrive.ensures c.in_ok-sum.ensures in
      let stands = stand_is m i c.loop-i.first c.len.result c.len-in-loop-i.result c.len-in-loop-i-2.result before.first e_is p_is t_is c.in_ok-arrive.arrive c.in_ok-sum.field-0 c.in_ok-stand.stand c.in_ok-arrive.ensures c.in_ok-sum.ensures c.in_ok-stand.ensures in
      record {
        first = next_first m i c.loop-i.first c.len.result c.len-in-loop-i.result c.len-in-loop-i-2.result before.first e_is p_is t_is c.in_ok-arrive.arrive c.in_ok-sum.field-0 c.in_ok-stand.stand c.in_ok-first.first c.in_ok-arrive.ensures c.in_ok-sum.ensures c.in_ok-stand.ensures c.in_ok-first.ensures;
        firsts = lists_more (first_of m) i _ _ c.loop-i.first before.firsts before.first c.in_ok-push.ensures.items;
        landing = lists_more (λ i. moved_to items (arrive m i)) i _ _ c.begin_of.result before.landing (c.begin_of.ensures items begins ∙ ap (moved_to items) arrives) c.in_ok-push-2.ensures.items;
        new_of = lists_more (new_index m items) i _ _ c.begin_of-in-loop-i.result before.new_of (c.begin_of-in-loop-i.ensures items begins ∙ ap (moved_to items) stands) c.in_ok-push-3.ensures.items;
      };
}

pub returns-clause-found : goal.returns-clause-found
returns-clause-found c places entries items has begins =
    let m = block_marks places entries in
    let before = c.loop-i.invariant.found places entries items has begins in
    record {
      firsts = lists_all (first_of m) c.loop-i.i (length c.args.table.now) _ c.loop-i-test.false c.loop-i.auto.i-end before.firsts;
      landing = lists_all (λ i. moved_to items (arrive m i)) c.loop-i.i (length c.args.table.now) _ c.loop-i-test.false c.loop-i.auto.i-end before.landing;
      new_of = lists_all (new_index m items) c.loop-i.i (length c.args.table.now) _ c.loop-i-test.false c.loop-i.auto.i-end before.new_of;
    }
