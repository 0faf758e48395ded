use Rattle.std.proofs.Common.{[], ◌∷◌, refl}
use Rattle.std.specs.Prelude.{pos}
use Rattle.std.specs.Int.{int_wrap}
use Rattle.je_machine.specs.Value.{Int}
use Rattle.je_machine.specs.Frame.{frame_of}
use Rattle.je_stay.proofs.shown.wrong_pieces.Goals as goal

pub returns-clause-left_over : goal.returns-clause-left_over
unfolding int_wrap
returns-clause-left_over c = λ classes outside h. let wrong = h classes 0 (frame_of [] (Int (pos 0) ∷ [])) outside refl in absurd cc

pub returns-clause-nothing : goal.returns-clause-nothing
unfolding int_wrap
returns-clause-nothing c = λ classes outside h. let wrong = h classes 0 (frame_of [] (Int (pos 0) ∷ [])) outside refl in absurd cc
