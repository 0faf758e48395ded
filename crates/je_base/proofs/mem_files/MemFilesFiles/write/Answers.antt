use Rattle.std.proofs.Common.{not, inl, inr, sym, ap, ◌∙◌}
use Rattle.std.specs.FinMap.{get}
use Rattle.je_base.specs.MemFiles.{FilesState}
use Rattle.je_base.proofs.FilesLemmas.{get-insert_other}
use Rattle.je_base.proofs.mem_files.MemFilesFiles.write.Goals as goal
use Rattle.je_base.proofs.mem_files.MemFilesFiles.write.Goals.{then-fails_next, else-fails_next}

pub returns-then-fails-clause-not_done : goal.returns-then-fails-clause-not_done
returns-then-fails-clause-not_done c =
    elim c.if-fails_next.branch [
      | then-fails_next w ↦ inl (c.fails_next.ensures.0 w.if-fails_next.true)
      | else-fails_next w ↦ inr (λ room. let full = w.has_room_for.ensures.1 room in let shut = sym w.fails-is ∙ c.if-fails.true in absurd (cc (ap not full)))
    ]

pub returns-clause-others : goal.returns-clause-others
returns-clause-others c =
    λ other h. let before = ap (λ (f : FilesState). get f.contents other) c.self.view_is in rw c.put.ensures (get-insert_other c.self.inside.store.contents c.args.path.now c.args.bytes.now other h ∙ before)
