use Rattle.std.proofs.Common.{◌≡◌, ◌∙◌, ◌⊎◌}
use Rattle.je_base.specs.Files.{IsAsked}
use Rattle.je_pool.specs.Path.{path_in}
use Rattle.je_pool.proofs.AskingLemmas.{asks_read, asks_memory}
use Rattle.je_pool.proofs.search.file_in.Goals as goal

pub returns-in-Ok-clause-asked : goal.returns-in-Ok-clause-asked
returns-in-Ok-clause-asked g c =
    asks_read (path_in c.args.root.now c.args.name.now) c.as_str.result.now (g.F.Files.asked c.args.files.now) (g.F.Files.asked c.read.new.self) (c.as_str.ensures.value ∙ c.in_ok-path.ensures) c.in-Ok.ensures.asked.0

pub returns-in-Err-Failed-clause-asked : goal.returns-in-Err-Failed-clause-asked
returns-in-Err-Failed-clause-asked g c =
    let old = g.F.Files.asked c.args.files.now in
    let new = g.F.Files.asked c.read.new.self in
    let asked : IsAsked c.as_str.result.now old (g.F.Files.reads c.args.files.now) new (g.F.Files.reads c.read.new.self) = rw c.in-Err-Failed.field-0-is at c.in-Err-Failed.ensures.asked in
    asks_read (path_in c.args.root.now c.args.name.now) c.as_str.result.now old new (c.as_str.ensures.value ∙ c.in_ok-path.ensures) asked.0

pub returns-in-Err-Memory-clause-asked : goal.returns-in-Err-Memory-clause-asked
returns-in-Err-Memory-clause-asked g c =
    let old = g.F.Files.asked c.args.files.now in
    let new = g.F.Files.asked c.read.new.self in
    let before = g.F.Files.reads c.args.files.now in
    let after = g.F.Files.reads c.read.new.self in
    let asked : ((new ≡ old) × (after ≡ before)) ⊎ IsAsked c.as_str.result.now old before new after = rw c.in-Err-Memory.field-0-is at c.in-Err-Memory.ensures.asked in
    asks_memory (path_in c.args.root.now c.args.name.now) c.as_str.result.now old new before after (c.as_str.ensures.value ∙ c.in_ok-path.ensures) asked
