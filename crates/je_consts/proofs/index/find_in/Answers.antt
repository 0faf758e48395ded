use Rattle.std.proofs.Common.{◌++◌, arith, length-append}
use Rattle.je_consts.specs.Adding.{IsMissing}
use Rattle.je_consts.proofs.AddLemmas.{const_within}
use Rattle.je_consts.proofs.IndexLemmas.{missing_both, least_before, least_behind, if_none}
use Rattle.je_consts.proofs.index.find_in.Goals as goal

pub returns-in-Some-clause-some : goal.returns-in-Some-clause-some
returns-in-Some-clause-some c = least_before c.args.base.now c.args.tail.now c.args.entry.now c.in-Some.index c.in-Some.ensures.some

pub returns-in_err-index-clause-none : goal.returns-in_err-index-clause-none
returns-in_err-index-clause-none c =
    let base = c.args.base.now in
    let tail = c.args.tail.now in
    if_none c.from_residual.result (IsMissing (base ++ tail) c.args.entry.now) (missing_both base tail c.args.entry.now c.in_default.ensures.none c.in_err-index.ensures.none)

pub overflow_add-result : goal.overflow_add-result
overflow_add-result c =
    omega (arith, const_within c.args.tail.now c.in_ok-index.index c.args.entry.now c.in_ok-index.ensures.some.here, length-append c.args.base.now c.args.tail.now)

pub returns-clause-some : goal.returns-clause-some
returns-clause-some c =
    least_behind c.args.base.now c.args.tail.now c.args.entry.now c.in_ok-index.index c.in_default.ensures.none c.in_ok-index.ensures.some
