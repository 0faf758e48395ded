use Rattle.je_lens.proofs.tables.verdict_of_tables.Goals as goal

pub written-requires-clause-program : goal.written-requires-clause-program
written-requires-clause-program c =
    let is = c.in-Ok.ensures.found in
    c.decoded_again.ensures.program c.args.consts.now is.code.code is.code.handlers c.in-Ok.code.decoded is.decodes
