use Rattle.std.proofs.Common.{◌∙◌, ap}
use Rattle.std.specs.List.{list_any}
use Rattle.je_base.specs.Text.{is_same_text}
use Rattle.je_tokens.specs.declared.words.TheConstants.{RESERVED}
use Rattle.je_tokens.specs.Words.{is_reserved}
use Rattle.je_tokens.proofs.NameLemmas.{reserved_is, any-behind}
use Rattle.je_tokens.proofs.words.is_reserved.Goals as goal

pub returns : goal.returns
unfolding is_reserved
returns c =
    c.contains.ensures.value ∙ any-behind (λ word. word.now) RESERVED c.args.word.now
    ∙ ap (list_any (λ word. is_same_text word c.args.word.now)) reserved_is
