use Rattle.je_put.proofs.CodeLemmas.{body_keeps}
use Rattle.je_put.proofs.code.push_body.Goals as goal

pub returns-in_ok-push-in-Keeps : goal.returns-in_ok-push-in-Keeps
returns-in_ok-push-in-Keeps c m items begins lands =
    body_keeps m items c.args.item c.in-Keeps.field-0 c.args.at c.in-Keeps.instr c.args.landing.now c.args.out.now.items c.push-in-Keeps.new.self.items c.in_ok-redirect-in-Keeps.field-0
    c.in-Keeps.is c.requires.targets lands c.in_ok-redirect-in-Keeps.ensures c.in_ok-push-in-Keeps.ensures.items
