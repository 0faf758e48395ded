use Rattle.std.proofs.Common.{Ok, sym, ap, refl, slice_range}
use Rattle.je_base.specs.Text.{IsModifiedUtf8}
use Rattle.je_consts.proofs.Texts.{is_text-true, is_text-false}
use Rattle.je_consts.proofs.entries.text_of.Goals as goal

pub returns-in-Some : goal.returns-in-Some
returns-in-Some c =
    let is = rw c.in-Some.is at c.in_ok-text.ensures.text in
    let form : IsModifiedUtf8 (slice_range c.args.bytes.now c.args.start c.args.end) = rw c.in-Some.is at c.in_ok-text.ensures.form in
    rw (is_text-true (slice_range c.args.bytes.now c.args.start c.args.end) form) (ap (λ text. Ok text) (sym is))

pub returns-in-None : goal.returns-in-None
returns-in-None c =
    let none = rw c.in-None.is at c.in_ok-text.ensures.none in
    rw (is_text-false (slice_range c.args.bytes.now c.args.start c.args.end) none) refl
