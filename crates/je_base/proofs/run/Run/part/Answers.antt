use Rattle.std.proofs.Common.{rules, ap, sym, ◌∙◌, ◌+◌, slice_range}
use Rattle.std.proofs.lemmas.List.{places}
use Rattle.je_base.proofs.RunLemmas.{slice_range-slice_range}
use Rattle.je_base.proofs.run.Run.part.Goals as goal

pub returns : goal.returns
returns c =
    let r = c.self.inside in
    ap (λ v. slice_range v.items (r.start + c.args.start) (r.start + c.args.end)) c.in_ok-block.ensures.cases
    ∙ sym (slice_range-slice_range r.block.value.items r.start r.end c.args.start c.args.end c.requires.order (search (rules, places)))
    ∙ ap (λ l. slice_range l c.args.start c.args.end) c.self.view_is
