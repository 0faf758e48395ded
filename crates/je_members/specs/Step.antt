-- Serves private functions: what a name that is met on a walk comes to.
use Rattle.std.specs.Prelude.{ℕ, cond, List, [], ◌∷◌, ◌++◌, Option, Some, None, Result, Ok, Err}
use Rattle.je_world.specs.declared.link.Link.{Link}
use Rattle.je_world.specs.declared.link.Link.TheVariants.{Cycle}
use Rattle.je_world.specs.Question.{Name, Question, Answered, and_then}
use Rattle.je_world.specs.World.{is_listed}
use Rattle.je_world.specs.Search as search
use Rattle.je_world.specs.Search.{above}
use Rattle.je_members.specs.Among.{among}
use Rattle.je_members.specs.declared.kin.Kin.{Kin}
use Rattle.je_members.specs.declared.ending.Step.{Step}
use Rattle.je_members.specs.declared.ending.Step.TheVariants.{Bad, Met, Into}
use Rattle.je_members.specs.Kin.{kin_at}

-- what a look at it comes to
abbrev pub came : Result Kin Link → Step
came (Ok kin) = Into kin
came (Err bad) = Bad bad

-- It is sought, or is looked at.
unfoldable pub meet : List Name → Name → Question Step
meet sought name =
    cond (is_listed name sought) (Answered (Met name))
    (and_then (kin_at name) (λ kin. Answered (came kin)))

-- It is above itself, was met before, or is met now.
unfoldable pub step : List Name → List Name → List Name → Name → Question (Option Step)
step sought below so_far name =
    cond (is_listed name below) (Answered (Some (Bad (Cycle name))))
    (cond (is_listed name so_far) (Answered None)
    (and_then (meet sought name) (λ met. Answered (Some met))))

-- where a search goes on from a name
abbrev pub on_step :
    {N : Type 0} → (Kin → Question (search.Ending N Name)) → Step
    → Question (search.Ending N Name)
on_step next (Bad bad) = Answered (search.Bad bad)
on_step next (Met name) = Answered (search.Decided name)
on_step next (Into kin) = next kin

abbrev pub on_pass :
    List Name → (Kin → Question (search.Ending (List Name) Name)) → Option Step
    → Question (search.Ending (List Name) Name)
on_pass so_far next None = Answered (search.Went so_far)
on_pass so_far next (Some met) = on_step next met

-- one interface and what is above it
unfoldable pub passing :
    List Name → ℕ → List Name → List Name → Name → Question (search.Ending (List Name) Name)
passing sought left below so_far name =
    and_then (step sought below so_far name)
    (on_pass so_far (λ kin.
    above (among sought) left (name ∷ below) (so_far ++ name ∷ []) kin.interfaces))
