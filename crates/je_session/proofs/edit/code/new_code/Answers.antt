use Rattle.std.proofs.Common.{◌≡◌, ℕ, ◌-◌, List, None, length, get_or, sym, ap, subst, ◌∙◌, arith}
use Rattle.std.specs.List.{AllByRecursion}
use Rattle.std.proofs.lemmas.Result.{err_from_is_err_and, IfOk-weaker}
use Rattle.je_instr.specs.declared.instr.Instr.{Instr}
use Rattle.je_instr.specs.declared.program.Program.{Program}
use Rattle.je_code.specs.declared.rows.Tables.{Tables}
use Rattle.je_code.specs.Moved.{AreInside}
use Rattle.je_code.specs.Named.{tables_of}
use Rattle.je_code.specs.Written.{HasText, IsWritten, names_of}
use Rattle.je_session.specs.Splice.{new_instrs, new_places, IsNewCode}
use Rattle.je_session.proofs.NewCodeLemmas.{is_program, allows_program, size_stops, can_be_written, count_offsets, old_few, is_short, new_few, is_new_code}
use Rattle.je_session.proofs.SpliceLemmas.{are_new_of}
use Rattle.je_session.proofs.ThereLemmas.{names_there}
use Rattle.je_session.proofs.edit.code.new_code.Goals as goal

pub splice-requires-clause-few : goal.splice-requires-clause-few
splice-requires-clause-few c = rw c.as_slice.ensures (old_few c.forms_take.ensures.simple c.forms_take.ensures.invoke c.args.consts.now c.args.old.now c.args.chosen.now c.requires)

pub overflow_cast-count : goal.overflow_cast-count
overflow_cast-count c =
    let few = new_few c.forms_take.ensures.simple c.forms_take.ensures.invoke c.args.consts.now c.args.old.now c.args.chosen.now c.requires in
    let count_is =
    c.len-count.ensures ∙ c.in_ok-spliced.spliced.instrs.ok.0 ∙ ap length c.in_ok-spliced.ensures.instrs
    ∙ ap (λ (l : List Instr). length (new_instrs c.args.chosen.now l)) c.as_slice.ensures in
    omega (arith, count_is, few)

pub assemble-requires : goal.assemble-requires
assemble-requires c =
    let program : Program = record { instrs = c.from_vec.result; handlers = c.from_vec-2.result } in
    is_program c.args.consts.now program (is_short c.forms_take.ensures.simple c.forms_take.ensures.invoke c.args.consts.now c.args.old.now c.args.chosen.now program c.requires
    (c.from_vec.ensures ∙ c.in_ok-spliced.ensures.instrs ∙ ap (λ (l : List Instr). new_instrs c.args.chosen.now l) c.as_slice.ensures) (c.from_vec-2.ensures ∙ c.new.ensures.items))

pub returns-in_err-assembled-clause-memory : goal.returns-in_err-assembled-clause-memory
returns-in_err-assembled-clause-memory c =
    let p = err_from_is_err_and c.from_residual-in_err-assembled.result c.from_residual-in_err-assembled.ensures.1 in
    let program : Program = record { instrs = c.from_vec.result; handlers = c.from_vec-2.result } in
    let is = is_short c.forms_take.ensures.simple c.forms_take.ensures.invoke c.args.consts.now c.args.old.now c.args.chosen.now program c.requires
    (c.from_vec.ensures ∙ c.in_ok-spliced.ensures.instrs ∙ ap (λ (l : List Instr). new_instrs c.args.chosen.now l) c.as_slice.ensures) (c.from_vec-2.ensures ∙ c.new.ensures.items) in
    rw (p.1, p.2) (size_stops c.args.consts.now program c.in_err-assembled.field-0.0 is c.in_err-assembled.ensures.fault)

pub map_tables-requires-clause-new_of : goal.map_tables-requires-clause-new_of
map_tables-requires-clause-new_of c =
    let new_of_is = c.deref.ensures.value ∙ c.in_ok-spliced.ensures.places ∙ ap (λ (l : List Instr). new_places 0 c.args.chosen.now l) c.as_slice.ensures in
    let count_is =
    c.len-count.ensures ∙ c.in_ok-spliced.spliced.instrs.ok.0 ∙ ap length c.in_ok-spliced.ensures.instrs
    ∙ ap (λ (l : List Instr). length (new_instrs c.args.chosen.now l)) c.as_slice.ensures in
    rw (new_of_is, count_is) (are_new_of c.args.chosen.now c.args.old.now.decoded.program.instrs)

pub written-requires-clause-written : goal.written-requires-clause-written
written-requires-clause-written c =
    let program : Program = record { instrs = c.from_vec.result; handlers = c.from_vec-2.result } in
    let is = is_short c.forms_take.ensures.simple c.forms_take.ensures.invoke c.args.consts.now c.args.old.now c.args.chosen.now program c.requires
    (c.from_vec.ensures ∙ c.in_ok-spliced.ensures.instrs ∙ ap (λ (l : List Instr). new_instrs c.args.chosen.now l) c.as_slice.ensures) (c.from_vec-2.ensures ∙ c.new.ensures.items) in
    can_be_written c.args.consts.now program c.in_ok-assembled.assembled c.in_ok-tables.tables is c.in_ok-assembled.ensures.shortest c.in_ok-tables.ensures.few

pub written-requires-clause-rows : goal.written-requires-clause-rows
written-requires-clause-rows c =
    let program : Program = record { instrs = c.from_vec.result; handlers = c.from_vec-2.result } in
    let offsets = count_offsets program c.in_ok-assembled.assembled c.in_ok-assembled.ensures.shortest in
    let count_is = c.len-count.ensures ∙ c.in_ok-spliced.spliced.instrs.ok.0 ∙ ap length (sym c.from_vec.ensures) in
    let same : c.len-count.result ≡ length c.in_ok-assembled.assembled.offsets - 1 = omega (arith, offsets, count_is) in
    subst (λ (n : ℕ). AreInside n c.in_ok-tables.tables) same c.in_ok-tables.ensures.inside

pub written-requires-clause-names : goal.written-requires-clause-names
written-requires-clause-names c =
    let there = names_there c.args.consts.now c.requires.info c.args.old.now (λ i. get_or c.deref.result.now i 0) c.len-count.result c.in_ok-assembled.assembled.offsets c.requires.is_code in
    subst (λ (t : Tables). AllByRecursion (HasText c.args.consts.now) (names_of (tables_of c.in_ok-assembled.assembled.offsets t))) (sym c.in_ok-tables.ensures.moved) there

pub returns-clause-code : goal.returns-clause-code
returns-clause-code c =
    let old = c.args.old.now in
    let program : Program = record { instrs = c.from_vec.result; handlers = c.from_vec-2.result } in
    let instrs_are = c.from_vec.ensures ∙ c.in_ok-spliced.ensures.instrs ∙ ap (λ (l : List Instr). new_instrs c.args.chosen.now l) c.as_slice.ensures in
    let none = c.from_vec-2.ensures ∙ c.new.ensures.items in
    let is = is_short c.forms_take.ensures.simple c.forms_take.ensures.invoke c.args.consts.now old c.args.chosen.now program c.requires instrs_are none in
    let decodes = c.in_ok-assembled.ensures.spelled c.args.consts.now (allows_program c.args.consts.now program is) in
    let new_of_is = c.deref.ensures.value ∙ c.in_ok-spliced.ensures.places ∙ ap (λ (l : List Instr). new_places 0 c.args.chosen.now l) c.as_slice.ensures in
    let count_is = c.len-count.ensures ∙ c.in_ok-spliced.spliced.instrs.ok.0 ∙ ap length (sym c.from_vec.ensures) in
    IfOk-weaker c.written.result (λ v. IsWritten c.args.consts.now c.in_ok-assembled.assembled old.max_stack old.max_locals c.in_ok-tables.tables None v.items) (λ v. IsNewCode c.args.consts.now old c.args.chosen.now v.items)
    (λ v. is_new_code c.args.consts.now old c.args.chosen.now program c.in_ok-assembled.assembled c.deref.result.now c.len-count.result c.in_ok-tables.tables v.items instrs_are none decodes new_of_is count_is c.in_ok-tables.ensures.moved)
    c.written.ensures.written
