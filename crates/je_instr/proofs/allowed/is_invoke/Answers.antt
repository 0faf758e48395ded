use Rattle.std.proofs.Common.{arith}
use Rattle.je_instr.specs.Allowed.{AllowsCall}
use Rattle.je_instr.specs.Content.{Names}
use Rattle.je_instr.proofs.TestLemmas.{virtual_called, special_called, static_called, no_sort}
use Rattle.je_instr.proofs.allowed.is_invoke.Goals as goal

pub returns-then-opcode-eq-INVOKEVIRTUAL : goal.returns-then-opcode-eq-INVOKEVIRTUAL
returns-then-opcode-eq-INVOKEVIRTUAL c = virtual_called (λ s. Names c.args.consts.now c.args.index (AllowsCall s)) c.args.opcode c.is_call.result c.if-opcode-eq-INVOKEVIRTUAL.true c.is_call.ensures

pub returns-then-opcode-eq-INVOKESPECIAL : goal.returns-then-opcode-eq-INVOKESPECIAL
returns-then-opcode-eq-INVOKESPECIAL c = special_called (λ s. Names c.args.consts.now c.args.index (AllowsCall s)) c.args.opcode c.is_call-then-opcode-eq-INVOKESPECIAL.result c.if-opcode-eq-INVOKESPECIAL.true c.is_call-then-opcode-eq-INVOKESPECIAL.ensures

pub returns-then-opcode-eq-INVOKESTATIC : goal.returns-then-opcode-eq-INVOKESTATIC
returns-then-opcode-eq-INVOKESTATIC c = static_called (λ s. Names c.args.consts.now c.args.index (AllowsCall s)) c.args.opcode c.is_call-then-opcode-eq-INVOKESTATIC.result c.if-opcode-eq-INVOKESTATIC.true c.is_call-then-opcode-eq-INVOKESTATIC.ensures

pub returns : goal.returns
returns c = (
  λ h. absurd cc,
  λ k.
      let within = no_sort c.args.opcode k.0 (omega (arith, c.ranges.opcode.fits)) k.1 in
      absurd (omega (arith, within.0, within.1, c.if-opcode-eq-INVOKEVIRTUAL.false, c.if-opcode-eq-INVOKESPECIAL.false, c.if-opcode-eq-INVOKESTATIC.false)),
)
