use Rattle.std.proofs.Common.{◌≡◌, ◌∙◌, ◌+◌, length, sym, arith, Some, None}
use Rattle.je_splice.specs.Marks.{first_of}
use Rattle.je_put.specs.Placing.{block_marks}
use Rattle.je_put.proofs.ItemsLemmas.{entries_count, passed_count}
use Rattle.je_put.proofs.CodeLemmas.{listed, entry_is}
use Rattle.je_put.proofs.handlers.place_of.Goals as goal

pub returns-in_ok-place-in-Some : goal.returns-in_ok-place-in-Some
returns-in_ok-place-in-Some c places entries has lists =
    let m = block_marks places entries in
    let target = c.args.handler.now.target in
    let first = listed (first_of m) (length c.args.firsts.now) target 0 c.args.firsts.now lists c.requires.firsts in
    let here : c.in_ok-place-in-Some.place ≡ first_of m target + c.in-Some.k = omega (arith, c.in_ok-place-in-Some.ensures, first) in
    here ∙ entry_is places entries (length c.args.table.now) c.args.table.now has c.args.handler.now c.index-table-target.result c.deref.result.now (Some c.in-Some.k) c.requires.table c.index-table-target.is c.deref.ensures.value c.in-Some.ensures

pub returns-in_ok-place-in-None : goal.returns-in_ok-place-in-None
returns-in_ok-place-in-None c places entries has lists =
    let m = block_marks places entries in
    let target = c.args.handler.now.target in
    let row = c.index-table-target.result in
    let first = listed (first_of m) (length c.args.firsts.now) target 0 c.args.firsts.now lists c.requires.firsts in
    let e = c.len.ensures ∙ row.entries.ok.0 ∙ sym (entries_count places entries (length c.args.table.now) c.args.table.now has target row c.requires.table c.index-table-target.is) in
    let p = c.len-in-None.ensures ∙ row.passed.ok.0 ∙ sym (passed_count places entries (length c.args.table.now) c.args.table.now has target row c.requires.table c.index-table-target.is) in
    let here : c.in_ok-place-in-None.place ≡ first_of m target + (length (m.entries target) + length (m.passed target)) = omega (arith, c.in_ok-place-in-None.ensures, c.in_ok-sum-in-None.ensures, first, e, p) in
    here ∙ entry_is places entries (length c.args.table.now) c.args.table.now has c.args.handler.now row c.deref.result.now None c.requires.table c.index-table-target.is c.deref.ensures.value c.in-None.ensures
