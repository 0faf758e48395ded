use Rattle.std.proofs.Common.{◌∷◌, Option, Some, None, map, string_bytes, sym, ◌∙◌, arith, subst}
use Rattle.je_base.specs.Files.{Tells, Contents}
use Rattle.je_pool.specs.Path.{path_in}
use Rattle.je_pool.specs.Asking.{most_read}
use Rattle.je_pool.proofs.AskingLemmas.{Gone, gone_on, gone_found, gone_end, gone_asks_one, gone_path, gone_left, gone_none}
use Rattle.je_pool.proofs.search.first_file.Goals as goal

pub loop-root-preserved : goal.loop-root-preserved
loop-root-preserved g c =
    let roots = map string_bytes c.args.roots.now in
    let old = g.F.Files.asked c.args.files.now in
    let now = g.F.Files.asked c.loop-root.files in
    let told = g.F.Files.contents c.args.files.now in
    let root = string_bytes c.in-Some.root.now in
    let rest = map string_bytes c.in-Some.rest.now in
    let gone : Gone roots (root ∷ rest) c.args.name.now told old now = gone_left string_bytes c.in-Some.ensures.cases.0 c.loop-root.invariant.gone in
    let read : Tells (g.F.Files.contents c.loop-root.files) (path_in root c.args.name.now) most_read None = rw (sym c.as_str.ensures.value, sym c.in-Ok-None.field-0-is) c.in-Ok-None.ensures.told in
    let tells : Tells told (path_in root c.args.name.now) most_read None = let P : Option Contents → Type 0 = λ t. Tells t (path_in root c.args.name.now) most_read None in subst P c.loop-root.invariant.contents read in
    record {
      gone = gone_on roots rest root c.args.name.now told old now (g.F.Files.asked c.file_in.new.files) gone tells (rw (sym c.as_str.ensures.value) c.in-Ok-None.ensures.asks);
      contents = c.file_in.ensures.contents ∙ c.loop-root.invariant.contents;
      writes = c.file_in.ensures.writes ∙ c.loop-root.invariant.writes;
      faults = omega (arith, c.file_in.ensures.faults, c.loop-root.invariant.faults);
      failed = c.in-Ok-None.ensures.others ∙ c.loop-root.invariant.failed;
    }

pub returns-in-Ok-Some-clause-told : goal.returns-in-Ok-Some-clause-told
returns-in-Ok-Some-clause-told g c =
    let roots = map string_bytes c.args.roots.now in
    let told = g.F.Files.contents c.args.files.now in
    let root = string_bytes c.in-Some.root.now in
    let rest = map string_bytes c.in-Some.rest.now in
    let name = c.args.name.now in
    let gone = gone_left string_bytes c.in-Some.ensures.cases.0 c.loop-root.invariant.gone in
    let read : Tells (g.F.Files.contents c.loop-root.files) (path_in root name) most_read (Some c.in-Ok-Some.bytes) = rw (sym c.as_str.ensures.value, sym c.in-Ok-Some.field-0-is) c.in-Ok-Some.ensures.told in
    let tells : Tells told (path_in root name) most_read (Some c.in-Ok-Some.bytes) = let P : Option Contents → Type 0 = λ t. Tells t (path_in root name) most_read (Some c.in-Ok-Some.bytes) in subst P c.loop-root.invariant.contents read in
    gone_found roots rest root name told (g.F.Files.asked c.args.files.now) (g.F.Files.asked c.loop-root.files) c.in-Ok-Some.bytes gone tells

pub returns-in-Ok-Some-clause-asked : goal.returns-in-Ok-Some-clause-asked
returns-in-Ok-Some-clause-asked g c =
    let gone = gone_left string_bytes c.in-Some.ensures.cases.0 c.loop-root.invariant.gone in
    gone_asks_one (map string_bytes c.args.roots.now) (map string_bytes c.in-Some.rest.now) (string_bytes c.in-Some.root.now) c.args.name.now (g.F.Files.contents c.args.files.now) (g.F.Files.asked c.args.files.now) (g.F.Files.asked c.loop-root.files) (g.F.Files.asked c.file_in.new.files) gone (rw (sym c.as_str.ensures.value) c.file_in.ensures.asked)

pub returns-in-Err-clause-asked : goal.returns-in-Err-clause-asked
returns-in-Err-clause-asked g c =
    let gone = gone_left string_bytes c.in-Some.ensures.cases.0 c.loop-root.invariant.gone in
    gone_asks_one (map string_bytes c.args.roots.now) (map string_bytes c.in-Some.rest.now) (string_bytes c.in-Some.root.now) c.args.name.now (g.F.Files.contents c.args.files.now) (g.F.Files.asked c.args.files.now) (g.F.Files.asked c.loop-root.files) (g.F.Files.asked c.file_in.new.files) gone (rw (sym c.as_str.ensures.value) c.file_in.ensures.asked)

pub returns-in-Err-clause-failed : goal.returns-in-Err-clause-failed
returns-in-Err-clause-failed g c = λ failed.
    let gone = gone_left string_bytes c.in-Some.ensures.cases.0 c.loop-root.invariant.gone in
    let path = c.in-Err.ensures.failed failed in
    rw (path, c.as_str.ensures.value) (gone_path (map string_bytes c.args.roots.now) (map string_bytes c.in-Some.rest.now) (string_bytes c.in-Some.root.now) c.args.name.now (g.F.Files.contents c.args.files.now) (g.F.Files.asked c.args.files.now) (g.F.Files.asked c.loop-root.files) gone)

pub returns-clause-told : goal.returns-clause-told
returns-clause-told g c =
    let gone = gone_none string_bytes c.loop-root.left.now c.in_default.ensures.cases c.loop-root.invariant.gone in
    gone_end (map string_bytes c.args.roots.now) c.args.name.now (g.F.Files.contents c.args.files.now) (g.F.Files.asked c.args.files.now) (g.F.Files.asked c.loop-root.files) gone
