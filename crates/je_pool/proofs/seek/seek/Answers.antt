use Rattle.std.proofs.Common.{Some, Ok, sym}
use Rattle.je_pool.specs.Asking.{ReadsTold}
use Rattle.je_pool.specs.Found.{IsNamed}
use Rattle.je_pool.proofs.PoolLemmas.{OneClass}
use Rattle.je_pool.proofs.SeekLemmas.{named_at, came_at, finds_read, same_read}
use Rattle.je_pool.proofs.seek.seek.Goals as goal

pub returns-in-Some-clause-named : goal.returns-in-Some-clause-named
returns-in-Some-clause-named g c =
    named_at c.args.name.now c.args.pool.now.classes c.in-Some.id.0 c.in-Some.ensures.within c.in-Some.ensures.kept

pub returns-in-Ok-clause-told : goal.returns-in-Ok-clause-told
returns-in-Ok-clause-told g c =
    let told : ReadsTold (g.F.Files.contents c.args.files.now) c.args.pool.now.roots c.args.name.now (Ok (Some c.in-Ok-Some.class)) = rw (sym c.roots.ensures, sym c.in-Ok-Some.field-0-is) c.in-Ok-Some.ensures.told in
    finds_read (g.F.Files.contents c.args.files.now) c.args.pool.now c.keep.new.self c.args.name.now c.in-Ok-Some.class c.in-Ok.id (sym c.in_default.ensures.kept) c.in-Ok.ensures.ok c.in-Ok.ensures.id told

pub returns-in-Ok-clause-same : goal.returns-in-Ok-clause-same
returns-in-Ok-clause-same g c =
    let one : OneClass = record { same = c.one_class.ensures.same; no_fault = c.one_class.ensures.no_fault; one_fault = c.one_class.ensures.one_fault } in
    let told : ReadsTold (g.F.Files.contents c.args.files.now) c.args.pool.now.roots c.args.name.now (Ok (Some c.in-Ok-Some.class)) = rw (sym c.roots.ensures, sym c.in-Ok-Some.field-0-is) c.in-Ok-Some.ensures.told in
    let named : IsNamed c.args.name.now c.in-Ok-Some.class = rw c.in-Ok-Some.field-0-is at c.in-Ok-Some.ensures.named in
    same_read one (g.F.Files.contents c.args.files.now) c.args.pool.now c.keep.new.self c.args.name.now c.in-Ok-Some.class (sym c.in_default.ensures.kept) c.in-Ok.ensures.ok named told

pub returns-in-Ok-clause-named : goal.returns-in-Ok-clause-named
returns-in-Ok-clause-named g c =
    let named : IsNamed c.args.name.now c.in-Ok-Some.class = rw c.in-Ok-Some.field-0-is at c.in-Ok-Some.ensures.named in
    came_at (IsNamed c.args.name.now) c.args.pool.now c.keep.new.self c.in-Ok-Some.class c.in-Ok.id c.in-Ok.ensures.ok c.in-Ok.ensures.id named
