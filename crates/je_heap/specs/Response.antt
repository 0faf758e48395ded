-- The responses of the definitions, and the forms that the program has of them.
use Rattle.std.specs.Prelude.{Bool, true, false}
use Rattle.je_machine.specs.Value.{Value, Obj, Const}
use Rattle.je_machine.specs.Outside as machine
use Rattle.je_heap.specs.declared.outside.Response.{Response}
use Rattle.je_heap.specs.declared.outside.Response.TheVariants as responses

-- what an action came to, as the definition has it
abbrev pub response_of : Response → machine.Response
response_of (responses.Gave value after) = machine.Gave value after
response_of (responses.Threw reference after) = machine.Threw reference after
response_of (responses.Waits after) = machine.Waits after

-- an object or a constant, which is thrown as it is
abbrev pub is_thrown : Value → Bool
is_thrown (Obj number) = true
is_thrown (Const content) = true
is_thrown _ = false
