use Rattle.std.proofs.Common.{rules, ap, sym, ◌∙◌}
use Rattle.je_consts.specs.Layout.{pool_layout}
use Rattle.je_consts.proofs.consts.Consts.copy.Goals as goal

pub invariant_of-result : goal.invariant_of-result
invariant_of-result c =
    (c.in_ok-copy.ensures ∙ c.self.invariant.0 ∙ sym (ap (λ v. pool_layout v.items) c.in_ok-base.ensures.cases), rw (c.in_ok-base.ensures.cases, c.in_ok-tail.ensures, c.deref.ensures.value) c.self.invariant.1, rw c.in_ok-base.ensures.cases (search rules), tt)
