use Rattle.std.proofs.Common.{refl, ◌∙◌}
use Rattle.je_code.specs.Tables.{stack_map_table}
use Rattle.je_code.proofs.NameLemmas.{ascii_text, put_one}
use Rattle.je_code.proofs.tables.put_map.Goals as goal

pub with_name-requires : goal.with_name-requires
with_name-requires c = ascii_text _ refl

pub returns-in_ok-push : goal.returns-in_ok-push
returns-in_ok-push c =
    let put = put_one c.args.all.now.items c.push.new.self.items c.in_ok-with_name.field-0 stack_map_table c.in-Some.bytes.now c.in_ok-push.ensures.items c.in_ok-with_name.ensures.name (c.in_ok-with_name.ensures.bytes ∙ c.in_ok-bytes.ensures.items) in
    rw c.in-Some.is put
