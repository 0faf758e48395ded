use Rattle.std.proofs.Common.{◌≡◌, true, ap, sym, ◌∙◌}
use Rattle.std.proofs.lemmas.Str.{encodes-chars, IsUtf8-string_bytes}
use Rattle.std.specs.String.{string_bytes}
use Rattle.std.specs.Str.{chars}
use Rattle.je_base.specs.Encoding.{IsDecoded}
use Rattle.je_base.specs.Shown.{is_plain}
use Rattle.je_base.proofs.ShownLemmas.{shown_plain}
use Rattle.je_base.proofs.shown.show.Goals as goal

pub returns-in-Some : goal.returns-in-Some
returns-in-Some c =
    let text = string_bytes c.in-Some.string in
    let found : IsDecoded c.args.bytes.now (chars text) = rw c.in-Some.is at c.in_ok-string.ensures.some in
    let plain : is_plain (chars text) ≡ true = ap (λ t. is_plain (chars t)) (sym c.deref.ensures) ∙ (sym c.has_no_control.ensures ∙ c.if-has_no_control.true) in
    sym (shown_plain c.args.bytes.now (chars text) found plain ∙ encodes-chars text (IsUtf8-string_bytes c.in-Some.string))
