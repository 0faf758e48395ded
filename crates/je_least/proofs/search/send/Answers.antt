use Rattle.std.proofs.Common.{map}
use Rattle.std.specs.Option.{option_copied}
use Rattle.je_least.specs.Knowns.{known_seen, coming_seen, thrown_seen}
use Rattle.je_least.specs.Plans.{plan_seen}
use Rattle.je_least.proofs.SearchLemmas.{gains_sends}
use Rattle.je_least.proofs.search.send.Goals as goal

pub returns : goal.returns
returns c =
    λ o q. gains_sends (plan_seen c.args.plan.now) c.args.at o (coming_seen c.args.left) (thrown_seen (option_copied c.args.thrown)) c.args.next.now q
    (map known_seen c.args.search.now.table.items) c.args.search.now.todo.items (map known_seen c.pass_all.new.search.table.items) c.pass_all.new.search.todo.items
    (map known_seen c.pass_to_handlers.new.search.table.items) c.pass_to_handlers.new.search.todo.items c.in_ok-pass_all.ensures c.in_ok-pass_to_handlers.ensures
