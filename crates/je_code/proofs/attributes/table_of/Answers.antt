use Rattle.std.proofs.Common.{arith, inl, inr}
use Rattle.je_code.proofs.OneLayout.{layout_table}
use Rattle.je_code.proofs.TableLemmas.{is_table, parts_of_table}
use Rattle.je_code.proofs.WholeLemmas.{comes_whole, comes_all, comes_no_fault}
use Rattle.je_code.proofs.attributes.table_of.Goals as goal

pub returns-then-end-len-clause-none : goal.returns-then-end-len-clause-none
returns-then-end-len-clause-none g c others table =
    let all = comes_all c.one_code_way.ensures (layout_table g.S.Structure.parts c.requires c.in-Ok.entries.items others) (parts_of_table table) c.in-Ok.ensures in
    omega (arith, all.1)

pub returns-else-end-len-clause-some : goal.returns-else-end-len-clause-some
returns-else-end-len-clause-some g c = is_table (comes_whole c.in-Ok.ensures (omega arith))

pub returns-in_default-clause-none : goal.returns-in_default-clause-none
returns-in_default-clause-none g c others table =
    elim c.in-Err.ensures [
      | inl memory ↦ c.in_default.not-Memory memory
      | inr h ↦ comes_no_fault c.one_code_way.ensures (layout_table g.S.Structure.parts c.requires h.0 others) (parts_of_table table) h.1
    ]
