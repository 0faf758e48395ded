use Rattle.std.proofs.Common.{ap, arith}
use Rattle.je_splice.specs.Marks.{lead_width}
use Rattle.je_splice.proofs.MarksLemmas.{entry_stands, passed_stands, met_stands, instruction_stands, instead_stands, lead_stands}
use Rattle.je_splice.proofs.marks.pieces_are_placed.Goals as goal

pub returns-clause-entries : goal.returns-clause-entries
returns-clause-entries g c = λ codes m code i k a x is h. entry_stands codes m code i k a x is h

pub returns-clause-passed : goal.returns-clause-passed
returns-clause-passed g c = λ codes m code i k a x is h. passed_stands codes m code i k a x is h

pub returns-clause-met : goal.returns-clause-met
returns-clause-met g c = λ codes m code i k a x is h. met_stands codes m code i k a x is h

pub returns-clause-instructions : goal.returns-clause-instructions
returns-clause-instructions g c = λ codes m code i a is none. instruction_stands codes m code i a is none

pub returns-clause-instead : goal.returns-clause-instead
returns-clause-instead g c = λ codes m code i a x is some. instead_stands codes m code i a x is some

pub returns-clause-begins : goal.returns-clause-begins
returns-clause-begins g c = λ codes m code more e. lead_stands codes m code more e

pub returns-clause-begins_there : goal.returns-clause-begins_there
returns-clause-begins_there g c = λ m e. let first = ap lead_width e in omega (arith, first, e)
