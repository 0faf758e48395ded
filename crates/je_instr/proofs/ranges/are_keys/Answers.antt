use Rattle.std.proofs.lemmas.Int.{ints}
use Rattle.std.proofs.Common.{arith, ◌≤◌, pos, ◌+ℤ◌, ◌-ℤ◌}
use Rattle.je_instr.proofs.ranges.are_keys.Goals as goal

pub returns : goal.returns
returns c =
    let most : c.args.count ≤ 4294967296 = omega (arith, c.if-count-gt4294967296.false) in (
      λ h. record {
        some = omega (arith, c.if-count-eq0.false);
        last = (c.args.low +ℤ pos c.args.count -ℤ pos 1, omega (arith, ints, h, most), omega (arith, ints));
      },
      λ k.
          let last = k.last in
          grind (arith, ints, last.1, last.2, most),
    )
