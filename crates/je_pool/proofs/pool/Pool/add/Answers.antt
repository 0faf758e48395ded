use Rattle.std.proofs.Common.{rules, ◌≡◌, Some, false}
use Rattle.je_world.specs.Question.{Name}
use Rattle.je_pool.specs.Pool.{name_at, is_taken}
use Rattle.je_pool.proofs.PoolLemmas.{puts_added}
use Rattle.je_pool.proofs.pool.Pool.add.Goals as goal

pub returns-in-Ok-clause-puts : goal.returns-in-Ok-clause-puts
returns-in-Ok-clause-puts c =
    let free : (name : Name) → name_at c.args.class ≡ Some name → is_taken c.args.self.now name ≡ false = search rules in
    puts_added c.args.self.now c.keep.new.self c.args.class c.in-Ok.ensures.ok free
