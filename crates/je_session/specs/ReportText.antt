-- The lines that tell what a run did.
use Rattle.std.specs.Prelude.{ℕ, List, [], ◌∷◌, ◌++◌, codes}
use Rattle.std.specs.List.{flat_map}
use Rattle.std.specs.Fmt.{decimal}
use Rattle.je_base.specs.Shown.{shown}
use Rattle.je_session.specs.Cause.{line_feed}
use Rattle.je_session.specs.ClassEdit.{ClassEdit}
use Rattle.je_session.specs.Forms.{out_path}
use Rattle.je_session.specs.Output.{Step, Put, Write}

-- The line of a method that was edited, in which the rules chose so many expressions: its class's
-- name, its name and its descriptor.
abbrev pub edited_line : List ℕ → List ℕ → ℕ → List ℕ
edited_line class method matched =
    codes "edited " ++ (shown class ++ (codes "." ++ (shown method
    ++ (codes "()V matched " ++ (decimal matched ++ line_feed)))))

-- the line of a class that was written
abbrev pub wrote_line : List ℕ → List ℕ
wrote_line path = codes "wrote " ++ (path ++ line_feed)

-- the line of a step that failed
abbrev pub failed_line : Step → List ℕ
failed_line (Put piece) = codes "outside fault: standard output" ++ line_feed
failed_line (Write path bytes) = codes "outside fault: writing " ++ (path ++ line_feed)

-- ---- the output of edits

-- the lines of the methods of a class, in the order of its plans
abbrev pub edited_lines : ClassEdit → List ℕ
edited_lines e = flat_map (λ p. edited_line e.name p.plan.name p.matched) e.plans

-- a put of nothing is not made
abbrev pub put_some : List ℕ → List Step
put_some [] = []
put_some (b ∷ bytes) = Put (b ∷ bytes) ∷ []

-- a class is written, and then its line is put
abbrev pub writing : ClassEdit → List Step
writing e = Write (out_path e.name) e.bytes ∷ Put (wrote_line (out_path e.name)) ∷ []

-- One put of the lines of all methods of all classes; then, in order, each class.
abbrev pub output_of : List ClassEdit → List Step
output_of edits = put_some (flat_map edited_lines edits) ++ flat_map writing edits
