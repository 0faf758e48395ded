-- Small methods that laws compute.
use Rattle.std.specs.Prelude.{List, Option}
use Rattle.je_machine.specs.Value.{Kind}
use Rattle.je_machine.specs.Operation.{Operation}
use Rattle.je_shape.specs.Least.{Method}
use Rattle.je_shape.specs.Sample.{plain_method}

-- a static method without parameters and frames, with this result where that is given
abbrev pub method_of : Option (Option Kind) → List Operation → Method
method_of result operations = record (plain_method operations) { result = result }
