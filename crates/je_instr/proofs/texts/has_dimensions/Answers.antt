use Rattle.std.proofs.Common.{◌≤◌, arith}
use Rattle.std.proofs.lemmas.Bool.{leb-true, le-leb}
use Rattle.je_instr.specs.OpcodeTests.{brackets}
use Rattle.je_instr.proofs.TextLemmas.{dimensions_there, there_dimensions}
use Rattle.je_instr.proofs.texts.has_dimensions.Goals as goal

pub returns : goal.returns
returns c =
    let array = c.is_array_type.ensures.0 c.if-not-is_array_type.false in
    let some : 1 ≤ c.args.count = omega (arith, c.if-count-eq0.false) in
    rw c.brackets.ensures (
      λ h. dimensions_there c.args.count c.args.text.now some array.0 array.1 (leb-true c.args.count (brackets c.args.text.now) h),
      λ k. le-leb c.args.count (brackets c.args.text.now) (there_dimensions c.args.count c.args.text.now k.0 k.1).3,
    )
