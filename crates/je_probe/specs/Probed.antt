-- What a probe answers.
use Rattle.std.specs.Prelude.{ℕ, List, map}
use Rattle.je_consts.specs.declared.place.Place.{Place}
use Rattle.je_instr.specs.declared.program.Program.{Program as Code}
use Rattle.je_machine.specs.Operation.{Program}
use Rattle.je_machine.specs.Step.{Outcome}
use Rattle.je_probe.specs.declared.answer.ProbeAnswer.{ProbeAnswer}
use Rattle.je_probe.specs.declared.heap.ProbeHeap.{ProbeHeap}
use Rattle.je_probe.specs.declared.outcome.ProbeEnd.{ProbeEnd}
use Rattle.je_probe.specs.declared.value.ProbeValue.{ProbeValue}
use Rattle.je_probe.specs.Given.{IsMethod, value_given, heap_given, answer_given}
use Rattle.je_probe.specs.Kept.{kept_run}
use Rattle.je_probe.specs.Shown.{IsEnd}

-- what a program comes to from what is given
abbrev pub run_given :
    List Place → Program → List ProbeValue → ProbeHeap → List ProbeAnswer → ℕ → Outcome
run_given consts program args heap answers limit =
    kept_run program (map (value_given consts) args)
    (heap_given consts heap.objects.items heap.statics.items)
    (map (answer_given consts) answers) limit

-- It shows what the run of a program comes to, which is that of the code.
abbrev pub IsProbe :
    List Place → Code → List ProbeValue → ProbeHeap → List ProbeAnswer → ℕ → ProbeEnd → Type 0
IsProbe consts code args heap answers limit end =
    (program : Program) × IsMethod consts code args program
    × IsEnd consts (run_given consts program args heap answers limit) end
