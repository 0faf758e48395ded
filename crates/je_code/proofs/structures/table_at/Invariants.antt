use Rattle.je_code.proofs.TableLemmas.{Stand}
use Rattle.je_code.proofs.structures.table_at.Given as goal

abbrev pub invariant-loop : goal.invariant-loop
invariant-loop g l = Stand l.bytes l.at g.S.Structure.parts l.count l.structures.items l.counter l.next
