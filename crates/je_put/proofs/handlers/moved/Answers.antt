use Rattle.std.proofs.Common.{◌∙◌, ◌<◌, ℕ, List, length, sym, subst, arith}
use Rattle.je_splice.specs.Marks.{first_of}
use Rattle.je_put.specs.Placing.{block_marks}
use Rattle.je_put.specs.Items.{items_seen}
use Rattle.je_put.specs.Result.{pieces, Lists}
use Rattle.je_put.proofs.CodeLemmas.{listed, handler_moved}
use Rattle.je_put.proofs.handlers.moved.Goals as goal

pub returns : goal.returns
returns c places entries has begins tables =
    let m = block_marks places entries in
    let all = pieces (items_seen m c.args.items.now) in
    let h = c.args.handler.now in
    let count = length c.args.table.now in
    let w = c.requires.within in
    let start : h.start < count = omega (arith, w.some, w.within) in
    let end : h.end < count = omega (arith, w.some, w.within) in
    let lists = subst (λ (n : ℕ). Lists (first_of m) n c.args.tables.now.firsts.items) (sym c.requires.table) tables.firsts in
    let there = subst (λ (l : List ℕ). Lists (first_of m) (length l) l) (sym c.deref.ensures.value) lists in
    handler_moved m all h c.begin_of-start.result c.in_ok-end.end c.begin_of.result c.index.result.now c.index-2.result.now c.in_ok-place.place
    (c.index.ensures ∙ listed (first_of m) count h.start c.index.result.now c.args.tables.now.firsts.items tables.firsts start)
    (c.index-2.ensures ∙ listed (first_of m) count h.end c.index-2.result.now c.args.tables.now.firsts.items tables.firsts end)
    (c.in_ok-place.ensures places entries has there)
    (c.begin_of-start.ensures all begins) (c.in_ok-end.ensures m begins) (c.begin_of.ensures all begins)
