-- Programs as plain data.
use Rattle.std.specs.Prelude.{List, refl}
use Rattle.std.specs.Coded.{Coded, code_by, coded×, coded_list}
use Rattle.je_machine.specs.Operation.{Program, Operation, Handler}
use Rattle.je_machine.specs.Value.{Kind}
use Rattle.je_value.specs.OperationCode.{operation_code}
use Rattle.je_value.specs.contracts.kind.Kind as kind
use Rattle.je_value.specs.contracts.program.Handler as handler

-- a program is stored as its three lists
abbrev pub program_code : Coded Program
program_code =
    code_by (List Kind × (List Operation × List Handler))
    (coded× (coded_list kind.the_row.coded)
    (coded× (coded_list operation_code) (coded_list handler.the_row.coded)))
    (λ p. (p.parameters, (p.operations, p.handlers)))
    (λ q. record { parameters = q.0; operations = q.1.0; handlers = q.1.1 }) (λ _. refl)
