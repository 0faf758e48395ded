use Rattle.std.proofs.Common.{sym, subst, ◌∙◌}
use Rattle.std.proofs.lemmas.Str.{scalars-chars}
use Rattle.std.specs.Str.{chars}
use Rattle.je_base.specs.Text.{IsModifiedUtf8}
use Rattle.je_base.proofs.EncodingLemmas.{IsModifiedUtf8-encoding}
use Rattle.je_base.proofs.text.Text.of.Goals as goal

pub invariant_of-result : goal.invariant_of-result
invariant_of-result c =
    let text = IsModifiedUtf8-encoding (chars c.args.s.now) (scalars-chars c.args.s.now c.utf8.s) in
    subst IsModifiedUtf8 (sym (c.in_ok-run.ensures ∙ c.in_ok-bytes.ensures)) text
