use Rattle.std.proofs.Common.{◌∙◌, ◌+◌, ◌-◌, ℕ, ap, sym}
use Rattle.je_splice.specs.Layout.{moved_to}
use Rattle.je_put.specs.Items.{items_seen}
use Rattle.je_put.specs.Result.{pieces}
use Rattle.je_put.proofs.CodeLemmas.{shut_behind}
use Rattle.je_put.proofs.handlers.shut_of.Goals as goal

pub returns : goal.returns
returns c m begins =
    let all = pieces (items_seen m c.args.items.now) in
    c.in_ok-end.ensures ∙ ap (λ (n : ℕ). n + c.body_at.result) (c.begin_of.ensures all begins)
    ∙ ap (λ (n : ℕ). moved_to all (c.args.place - 1) + n) (c.body_at.ensures m)
    ∙ sym (shut_behind all c.args.place c.if-place-eq0.false)
