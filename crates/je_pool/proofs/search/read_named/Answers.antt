use Rattle.std.proofs.Common.{◌≡◌, Some, None, map, string_bytes, sym}
use Rattle.std.specs.Option.{option_map}
use Rattle.je_pool.specs.Path.{file_name}
use Rattle.je_pool.specs.Asking.{IsFront}
use Rattle.je_pool.proofs.FrontLemmas.{front_is, told_nothing, told_class, told_fault}
use Rattle.je_pool.proofs.search.read_named.Goals as goal

pub returns-in-Ok-None-clause-told : goal.returns-in-Ok-None-clause-told
returns-in-Ok-None-clause-told g c =
    let asked : file_name c.args.name.now ≡ Some (string_bytes c.in-Some.file) = let e : option_map string_bytes (Some c.in-Some.file) ≡ file_name c.args.name.now = rw c.in-Some.is at c.in_ok-file.ensures in sym e in
    let front : IsFront (g.F.Files.contents c.args.files.now) (map string_bytes c.args.roots.now) (string_bytes c.in-Some.file) None = rw (sym c.as_str.ensures.value, sym c.in-Ok-None.field-0-is) c.in-Ok-None.ensures.told in
    told_nothing (g.F.Files.contents c.args.files.now) (map string_bytes c.args.roots.now) c.args.name.now (string_bytes c.in-Some.file) asked front

pub returns-in-Ok-clause-told : goal.returns-in-Ok-clause-told
returns-in-Ok-clause-told g c =
    let asked : file_name c.args.name.now ≡ Some (string_bytes c.in-Some.file) = let e : option_map string_bytes (Some c.in-Some.file) ≡ file_name c.args.name.now = rw c.in-Some.is at c.in_ok-file.ensures in sym e in
    let front : IsFront (g.F.Files.contents c.args.files.now) (map string_bytes c.args.roots.now) (string_bytes c.in-Some.file) (Some c.in-Ok-Some.front) = rw (sym c.as_str.ensures.value, sym c.in-Ok-Some.field-0-is) c.in-Ok-Some.ensures.told in
    told_class (g.F.Files.contents c.args.files.now) (map string_bytes c.args.roots.now) c.args.name.now (string_bytes c.in-Some.file) c.in-Ok-Some.front.items c.in-Ok.class asked (front_is _ _ _ c.in-Ok-Some.front front) c.in-Ok.ensures.found

pub returns-in-Ok-Some-clause-told : goal.returns-in-Ok-Some-clause-told
returns-in-Ok-Some-clause-told g c =
    let asked : file_name c.args.name.now ≡ Some (string_bytes c.in-Some.file) = let e : option_map string_bytes (Some c.in-Some.file) ≡ file_name c.args.name.now = rw c.in-Some.is at c.in_ok-file.ensures in sym e in
    let front : IsFront (g.F.Files.contents c.args.files.now) (map string_bytes c.args.roots.now) (string_bytes c.in-Some.file) (Some c.in-Ok-Some.front) = rw (sym c.as_str.ensures.value, sym c.in-Ok-Some.field-0-is) c.in-Ok-Some.ensures.told in
    told_fault (g.F.Files.contents c.args.files.now) (map string_bytes c.args.roots.now) c.args.name.now (string_bytes c.in-Some.file) c.in-Ok-Some.front.items c.in-Err.why asked (front_is _ _ _ c.in-Ok-Some.front front) c.in-Err.ensures.fault
