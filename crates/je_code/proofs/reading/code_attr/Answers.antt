use Rattle.std.proofs.Common.{inr, arith}
use Rattle.std.proofs.lemmas.Result.{err_from_is_err_and}
use Rattle.je_code.specs.Reading.{code_of_parts}
use Rattle.je_code.proofs.AttrLemmas.{breaks_off, too_many, no_program, attr_is}
use Rattle.je_code.proofs.reading.code_attr.Goals as goal

pub returns-in_err-parts-clause-fault : goal.returns-in_err-parts-clause-fault
returns-in_err-parts-clause-fault c =
    let p = err_from_is_err_and c.from_residual.result c.from_residual.ensures.1 in
    rw (p.1, p.2) (breaks_off c.args.consts.now c.args.info.now _ c.in_err-parts.ensures)

pub returns-then-end-len-clause-fault : goal.returns-then-end-len-clause-fault
returns-then-end-len-clause-fault c =
    inr (too_many c.args.consts.now c.args.info.now (code_of_parts c.in_ok-parts.parts) c.in_ok-parts.end c.in_ok-parts.ensures (omega arith))

pub returns-in_err-decoded-clause-fault : goal.returns-in_err-decoded-clause-fault
returns-in_err-decoded-clause-fault c =
    let p = err_from_is_err_and c.from_residual-in_err-decoded.result c.from_residual-in_err-decoded.ensures.1 in
    rw (p.1, p.2) (no_program c.args.consts.now c.args.info.now (code_of_parts c.in_ok-parts.parts) c.in_ok-parts.end c.in_ok-parts.ensures (omega arith) _ (rw (c.as_slice.ensures, c.deref.ensures.value) at c.in_err-decoded.ensures.fault))

pub with_tables-requires : goal.with_tables-requires
with_tables-requires c i j less within =
    c.offsets_rise.ensures.rise c.args.consts.now c.in_ok-parts.parts.code c.in_ok-parts.parts.handlers.items c.in_ok-decoded.decoded i j (rw (c.as_slice.ensures, c.deref.ensures.value) at c.in_ok-decoded.ensures.found) less within

pub returns-clause-found : goal.returns-clause-found
returns-clause-found c =
    attr_is c.args.consts.now c.args.info.now (code_of_parts c.in_ok-parts.parts) c.in_ok-parts.end c.in_ok-parts.ensures (omega arith) c.in_ok-decoded.decoded c.in_ok-attr.attr (rw (c.as_slice.ensures, c.deref.ensures.value) at c.in_ok-decoded.ensures.found) c.in_ok-attr.ensures
