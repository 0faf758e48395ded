use Rattle.je_fit.proofs.RunLemmas.{known_depth}
use Rattle.je_stay.proofs.ReferenceLemmas.{nothing_fits, step_kept, is_done, visited, run_keeps, items_shaped, items_fit}
use Rattle.je_stay.proofs.references.references_keep.Goals as goal

pub returns-clause-kept : goal.returns-clause-kept
returns-clause-kept c = λ kind x r shaped classes bound left s t fit e. step_kept kind x r shaped classes bound left s t fit e

pub returns-clause-reached : goal.returns-clause-reached
returns-clause-reached c = λ kind x r shaped classes count bound left s t fit v. visited kind x r shaped classes count bound s left t fit v

pub returns-clause-done : goal.returns-clause-done
returns-clause-done c = λ kind x r shaped classes count bound left s t fit v. is_done kind x r shaped t (visited kind x r shaped classes count bound s left t fit v)

pub returns-clause-known : goal.returns-clause-known
returns-clause-known c = λ kind x r shaped classes count bound left s t fit v e. nothing_fits (x t.place) t.frame e (visited kind x r shaped classes count bound s left t fit v)

pub returns-clause-depth : goal.returns-clause-depth
returns-clause-depth c = λ kind x r shaped classes count bound left s t shape fit v e. known_depth (x t.place) shape t.frame e (visited kind x r shaped classes count bound s left t fit v)

pub returns-clause-ends : goal.returns-clause-ends
returns-clause-ends c = λ kind x r shaped classes bound s fit. run_keeps kind x r shaped classes bound bound s fit

pub returns-clause-laid : goal.returns-clause-laid
returns-clause-laid c = λ kind x limit parameters items handlers shaped each. items_fit kind x limit parameters items handlers shaped each

pub returns-clause-items : goal.returns-clause-items
returns-clause-items c = items_shaped
