-- Serves private functions: the method whose shapes are sought.
use Rattle.je_least.specs.declared.plan.Plan.{Plan}
use Rattle.je_shape.specs.Least.{Method}
use Rattle.je_least.specs.Answer.{method_of}

abbrev pub plan_seen : Plan → Method
plan_seen plan =
    method_of plan.class_name.now plan.program.now plan.entry.now plan.frames.now plan.returned
