use Rattle.je_link.proofs.ProgramLemmas.{no_operations, no_handlers}
use Rattle.je_link.proofs.program.program_of.Goals as goal

pub returns-in_default-2-clause-only : goal.returns-in_default-2-clause-only
returns-in_default-2-clause-only c =
    let none = rw (c.in_default-2.is, c.as_slice.ensures) at c.in_ok-operations.ensures.only in
    no_operations c.args.consts.now c.args.is_static c.args.descriptor.now c.args.decoded.now (c.one_decoding.ensures.same c.args.consts.now) none

pub returns-in_default-3-clause-only : goal.returns-in_default-3-clause-only
returns-in_default-3-clause-only c =
    let none = rw (c.in_default-3.is, c.as_slice-2.ensures) at c.in_ok-handlers.ensures.only in
    no_handlers c.args.consts.now c.args.is_static c.args.descriptor.now c.args.decoded.now (c.one_decoding.ensures.same c.args.consts.now) none
