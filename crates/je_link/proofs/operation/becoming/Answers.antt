use Rattle.std.proofs.Common.{subst}
use Rattle.je_instr.specs.declared.instr.Instr.{Instr}
use Rattle.je_instr.specs.declared.instr.Instr.TheVariants as instr
use Rattle.je_instr.specs.Resolves.{Becomes}
use Rattle.je_link.proofs.operation.becoming.Goals as goal

pub returns-in-Invoke : goal.returns-in-Invoke
returns-in-Invoke c = λ o h.
    let k : Becomes c.args.consts.now (instr.Invoke c.in-Invoke.opcode c.in-Invoke.index) o = subst (λ (i : Instr). Becomes c.args.consts.now i o) c.in-Invoke.is h in
    c.invoke.ensures o k.0 k.1 k.2
