use Rattle.je_tokens.specs.Literals.{units}
use Rattle.je_tokens.proofs.ScanLemmas.{units_escape}
use Rattle.je_tokens.proofs.literals.units.Goals as goal

pub loop-c-preserved-in-Some-escape_at : goal.loop-c-preserved-in-Some-escape_at
loop-c-preserved-in-Some-escape_at c =
    units_escape (units c.args.content.now) c.loop-c.found.items c.push.new.self.items c.loop-c.rest.now c.in-Some.behind.now c.split_at.result.1.now c.in-Some.c.now c.in-Some-escape_at.code c.in-Some-escape_at.len
    c.loop-c.invariant c.in-Some.ensures.cases.0 c.if-c-eq92.true c.in-Some-escape_at.ensures.found c.in_ok-push-in-Some-escape_at.ensures.items c.split_at.ensures.back
