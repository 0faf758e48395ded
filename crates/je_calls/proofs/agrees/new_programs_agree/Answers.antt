use Rattle.std.proofs.Common.{◌≡◌, ◌<◌, ℕ, length, subst}
use Rattle.je_instr.specs.Resolves.{Resolves}
use Rattle.je_fit.specs.Sound.{IsSound, IsWellFormed}
use Rattle.je_calls.specs.Method.{method_with}
use Rattle.je_calls.proofs.CallLemmas.{Laws}
use Rattle.je_calls.proofs.AgreeLemmas.{Starts, zip_long, agrees}
use Rattle.je_calls.proofs.agrees.new_programs_agree.Goals as goal

pub returns : goal.returns
returns c = λ t program new x pool is_program some is faultless plain is_new.
    let laws : Laws = record { gives = c.actions_do.ensures.gives; nothing = c.calls_do.ensures.nothing } in
    let starts : Starts = record { of_static = c.parameters_fit.ensures.of_static; of_instance = c.parameters_fit.ensures.of_instance; begins = c.runs_fit.ensures.begins } in
    let sound : IsSound (method_with t program) x = c.least_shapes_are_sound.ensures.sound (method_with t program) x faultless.least faultless.whole in
    let formed : IsWellFormed program = c.programs_are_well_formed.ensures t.consts t.code program pool is_program is.operations is.handlers in
    let long : length t.code.instrs ≡ length program.operations = zip_long (Resolves t.consts) t.code.instrs program.operations is.operations in
    agrees laws starts t program new x sound (λ at o there. c.instructions_stay.ensures.stays (method_with t program) x at o sound formed there)
    (subst (λ (n : ℕ). 0 < n) long some) is plain is_new
