use Rattle.std.proofs.Common.{sym, subst, ap, ◌∙◌, arith}
use Rattle.je_base.specs.Text.{IsModifiedUtf8}
use Rattle.je_tokens.specs.Characters.{text_of_units}
use Rattle.je_tokens.proofs.TextLemmas.{IsModifiedUtf8-units, some_unless, take_all}
use Rattle.je_tokens.proofs.characters.text_of_units.Goals as goal

pub unwrap-requires : goal.unwrap-requires
unwrap-requires c =
    let whole = c.deref.ensures.value ∙ c.loop-code.invariant ∙ ap text_of_units (take_all c.loop-code.code-index c.args.units.now (omega arith)) in
    some_unless c.in_ok-text.text c.in_ok-text.ensures.none (subst IsModifiedUtf8 (sym whole) (IsModifiedUtf8-units c.args.units.now (λ k. omega (arith, c.type_inv.units k))))
