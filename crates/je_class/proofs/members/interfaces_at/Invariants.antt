use Rattle.je_class.specs.FileParts.{interface_parts}
use Rattle.je_class.proofs.Tables.{Stand}
use Rattle.je_class.proofs.members.interfaces_at.Given as goal

abbrev pub invariant-loop : goal.invariant-loop
invariant-loop l = Stand l.bytes l.at (interface_parts l.consts) l.count l.interfaces.items l.counter l.next
