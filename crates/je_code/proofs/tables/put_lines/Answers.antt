use Rattle.std.proofs.Common.{◌++◌, List, refl, sym, ap, ◌∙◌}
use Rattle.je_code.specs.declared.named.Named.{Named}
use Rattle.je_code.specs.Code.{spelled}
use Rattle.je_code.specs.Rows.{line_info, line_parts}
use Rattle.je_code.specs.Tables.{line_number_table}
use Rattle.je_code.specs.Writing.{line_table}
use Rattle.je_code.proofs.NameLemmas.{ascii_text, table_of-some, put_one}
use Rattle.je_code.proofs.tables.put_lines.Goals as goal

pub with_name-requires : goal.with_name-requires
with_name-requires c = ascii_text _ refl

pub returns-in_ok-push-clause-put : goal.returns-in_ok-push-clause-put
returns-in_ok-push-clause-put c =
    let rows = c.args.rows.now in
    let bytes = spelled (line_table c.args.offsets.now rows) in
    let put = put_one c.args.all.now.items c.push.new.self.items c.in_ok-with_name.field-0 line_number_table bytes c.in_ok-push.ensures.items c.in_ok-with_name.ensures.name (c.in_ok-with_name.ensures.bytes ∙ c.in_ok-bytes.ensures.bytes) in
    put ∙ ap (λ (more : List Named). c.args.all.now.items ++ more) (sym (table_of-some line_number_table line_parts (line_info c.args.offsets.now) rows (sym c.is_empty.ensures ∙ c.if-not-is_empty.true)))
