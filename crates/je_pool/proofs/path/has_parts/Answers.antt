use Rattle.std.proofs.Common.{◌+◌, List, ℕ, drop, get_or, sym, ap, ◌∙◌, arith}
use Rattle.std.specs.Prelude.{slice_range}
use Rattle.std.proofs.lemmas.List.{drop_more}
use Rattle.je_pool.proofs.PathLemmas.{all_pass, other_byte, slash_byte, range_more, range_none}
use Rattle.je_pool.proofs.path.has_parts.Goals as goal
use Rattle.je_pool.proofs.path.has_parts.Goals.{then-name-i-eq-SLASH+else-not-is_part, else-name-i-eq-SLASH}

pub loop-i-preserved : goal.loop-i-preserved
loop-i-preserved c =
    let xs = c.args.name.now in
    let i = c.loop-i.i in
    let start = c.loop-i.start in
    let more = drop_more xs i 0 c.loop-i-test.true in
    let here = ap (λ (bytes : List ℕ). all_pass (slice_range xs start i) bytes) more in
    elim c.if-name-i-eq-SLASH.branch [
      | then-name-i-eq-SLASH+else-not-is_part w ↦ rw w.start-is record {
        start = omega arith;
        rest = rw (range_none xs (i + 1))
            (slash_byte (slice_range xs start i) (drop (i + 1) xs) (get_or xs i 0) w.if-name-i-eq-SLASH.true (sym w.is_part.ensures ∙ w.if-not-is_part.false)
            ∙ sym here ∙ c.loop-i.invariant.rest);
      }
      | else-name-i-eq-SLASH w ↦ rw w.start-is record {
        start = omega (arith, c.loop-i.invariant.start);
        rest = rw (range_more xs start i 0 c.loop-i.invariant.start c.loop-i-test.true)
            (other_byte (slice_range xs start i) (drop (i + 1) xs) (get_or xs i 0) w.if-name-i-eq-SLASH.false
            ∙ sym here ∙ c.loop-i.invariant.rest);
      }
    ]
