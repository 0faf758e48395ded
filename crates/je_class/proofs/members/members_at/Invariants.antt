use Rattle.je_class.specs.Reading.{parts_of_kind}
use Rattle.je_class.proofs.Tables.{Stand}
use Rattle.je_class.proofs.members.members_at.Given as goal

abbrev pub invariant-loop : goal.invariant-loop
invariant-loop l = Stand l.bytes l.at (parts_of_kind l.consts l.kind) l.count l.members.items l.counter l.next
