use Rattle.std.proofs.Common.{inl, inr, refl, arith}
use Rattle.je_link.proofs.SimpleLemmas.{no_simple, neither}
use Rattle.je_link.proofs.simple.simple.Goals.{in_default-via-then-opcode-lt96+then-opcode-lt9, in_default-via-then-opcode-lt96+else-opcode-lt9+else-opcode-lt16+then-opcode-lt46, in_default-via-then-opcode-lt96+else-opcode-lt9+else-opcode-lt16+else-opcode-lt46+else-opcode-lt54+then-opcode-lt79, in_default-via-else-opcode-lt96+else-opcode-lt116+else-opcode-lt132+then-opcode-lt133, in_default-via-else-opcode-lt96+else-opcode-lt116+else-opcode-lt132+else-opcode-lt133+else-opcode-lt153+then-opcode-lt172, in_default-via-else-opcode-lt96+else-opcode-lt116+else-opcode-lt132+else-opcode-lt133+else-opcode-lt153+else-opcode-lt172+else-opcode-lt178}
use Rattle.je_link.proofs.simple.simple.Goals as goal

pub returns-in_default : goal.returns-in_default
returns-in_default c =
    let n = c.args.opcode in
    elim c.in_default.branch [
      | in_default-via-then-opcode-lt96+then-opcode-lt9 w ↦ no_simple n (inr (omega arith)) (inl (omega arith)) (inl (omega arith)) (inl (omega arith)) (inl (omega arith)) (inl (omega arith)) (inl (omega arith)) (inl (omega arith))
      | in_default-via-then-opcode-lt96+else-opcode-lt9+else-opcode-lt16+then-opcode-lt46 w ↦ no_simple n (inr (omega arith)) (inr (omega arith)) (inl (omega arith)) (inl (omega arith)) (inl (omega arith)) (inl (omega arith)) (inl (omega arith)) (inl (omega arith))
      | in_default-via-then-opcode-lt96+else-opcode-lt9+else-opcode-lt16+else-opcode-lt46+else-opcode-lt54+then-opcode-lt79 w ↦ no_simple n (inr (omega arith)) (inr (omega arith)) (inr (omega arith)) (inl (omega arith)) (inl (omega arith)) (inl (omega arith)) (inl (omega arith)) (inl (omega arith))
      | in_default-via-else-opcode-lt96+else-opcode-lt116+else-opcode-lt132+then-opcode-lt133 w ↦ no_simple n (inr (omega arith)) (inr (omega arith)) (inr (omega arith)) (inr (omega arith)) (inl (omega arith)) (inl (omega arith)) (inl (omega arith)) (inl (omega arith))
      | in_default-via-else-opcode-lt96+else-opcode-lt116+else-opcode-lt132+else-opcode-lt133+else-opcode-lt153+then-opcode-lt172 w ↦ no_simple n (inr (omega arith)) (inr (omega arith)) (inr (omega arith)) (inr (omega arith)) (inr (omega arith)) (inl (omega arith)) (inl (omega arith)) (inl (omega arith))
      | in_default-via-else-opcode-lt96+else-opcode-lt116+else-opcode-lt132+else-opcode-lt133+else-opcode-lt153+else-opcode-lt172+else-opcode-lt178 w ↦ no_simple n (inr (omega arith)) (inr (omega arith)) (inr (omega arith)) (inr (omega arith)) (inr (omega arith)) (inr (omega arith)) (neither 190 191 n refl (λ e. omega (arith, e)) (λ e. omega (arith, e))) (neither 194 195 n refl (λ e. omega (arith, e)) (λ e. omega (arith, e)))
    ]
