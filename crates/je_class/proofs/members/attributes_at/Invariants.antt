use Rattle.je_class.specs.FileParts.{attribute_parts}
use Rattle.je_class.proofs.Tables.{Stand}
use Rattle.je_class.proofs.members.attributes_at.Given as goal

abbrev pub invariant-loop : goal.invariant-loop
invariant-loop l = Stand l.bytes l.at (attribute_parts l.consts) l.count l.attributes.items l.counter l.next
