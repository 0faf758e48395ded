use Rattle.je_code.proofs.reading.with_tables.Goals as goal

pub vars_of-requires-2 : goal.vars_of-requires-2
vars_of-requires-2 c = rw c.as_slice-offsets.ensures c.requires
