use Rattle.std.proofs.Common.{◌≡◌, ℕ, ◌++◌, ◌≤◌, length, List, Option, option_map, sym, ap, subst, ◌∙◌}
use Rattle.std.specs.Borrow.{Bor}
use Rattle.je_base.specs.Bytes.{u2}
use Rattle.je_code.specs.declared.named.Named.{Named}
use Rattle.je_code.specs.Code.{spelled}
use Rattle.je_code.specs.Writing.{AreSound, head_parts}
use Rattle.je_code.specs.Named.{map_of, tables_of}
use Rattle.je_code.proofs.BackLemmas.{read_back}
use Rattle.je_code.proofs.WrittenLemmas.{is_written, few_tables}
use Rattle.je_code.proofs.writing.write_code.Goals as goal

pub returns-clause-written : goal.returns-clause-written
returns-clause-written c =
    let a = c.args.a.now in
    let stack_map : Option (List ℕ) = option_map (λ (m : Bor (List ℕ)). m.now) c.args.map in
    let these : c.deref-2.result.now ≡ tables_of a.offsets c.args.tables.now ++ map_of stack_map =
    c.deref-2.ensures.value ∙ c.in_ok-all.ensures.tables ∙ ap (λ (o : List ℕ). tables_of o c.args.tables.now ++ map_of stack_map) c.as_slice.ensures in
    let few : length c.deref-2.result.now ≤ 4 = rw these (few_tables a.offsets c.args.tables.now stack_map) in
    let head = spelled (head_parts c.args.max_stack c.args.max_locals a.code a.table) in
    let front = c.in_ok-out.ensures.bytes ∙ ap (λ (l : List Named). head ++ u2 (length l)) (c.deref.ensures.value ∙ sym c.deref-2.ensures.value) in
    is_written c.put_attributes.new.consts a c.args.max_stack c.args.max_locals c.args.tables.now stack_map c.deref-2.result.now c.in_ok-out.out.items c.put_attributes.new.out.items front c.in_ok-out.ensures.sound these few c.in_ok-put_attributes.ensures.put

pub returns-clause-read_back : goal.returns-clause-read_back
returns-clause-read_back c =
    let a = c.args.a.now in
    let stack_map : Option (List ℕ) = option_map (λ (m : Bor (List ℕ)). m.now) c.args.map in
    let sound = subst (λ (o : List ℕ). AreSound o c.args.tables.now) c.as_slice.ensures c.in_ok-all.ensures.sound in
    let rise = λ (i j : ℕ). c.assembled_offsets.ensures.rise c.requires.written.program a i j c.requires.written.assembled in
    read_back c.put_attributes.new.consts a c.args.max_stack c.args.max_locals c.args.tables.now stack_map c.put_attributes.new.out.items (returns-clause-written c) sound rise c.requires.rows
