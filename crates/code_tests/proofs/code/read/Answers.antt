use Rattle.code_tests.proofs.code.read.Goals as goal

pub returns-in-Ok-clause-program : goal.returns-in-Ok-clause-program
returns-in-Ok-clause-program c =
    let is = c.in-Ok.ensures.found in
    c.decoded_again.ensures.program c.args.consts.now is.code.code is.code.handlers c.in-Ok.code.decoded is.decodes
