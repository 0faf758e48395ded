use Rattle.std.proofs.Common.{Ok, ap, subst, refl, ◌∙◌}
use Rattle.je_tokens.specs.declared.token.Token.{Token}
use Rattle.je_tokens.specs.Pieces.{size}
use Rattle.je_tokens.specs.Reading.{IsWithin}
use Rattle.je_tokens.proofs.CutLemmas.{fault_steps, gap_steps, lexeme_steps}
use Rattle.je_tokens.proofs.cut.step.Goals as goal

pub returns-in-Err-clause-found : goal.returns-in-Err-clause-found
returns-in-Err-clause-found c =
    fault_steps c.args.rest.text.now c.in-Err.kind c.args.rest.place c.args.rest.negative c.requires.some c.in-Err.ensures.found

pub returns-in-Gap-clause-found : goal.returns-in-Gap-clause-found
returns-in-Gap-clause-found c =
    let within = subst (λ piece. IsWithin (size piece) c.args.rest.text.now) c.in-Gap.is c.in-Ok.ensures.within in
    gap_steps c.args.rest.text.now c.behind.result.text.now c.in-Gap.len c.args.rest.place c.behind.result.place c.args.rest.negative c.behind.result.negative within
    (c.in-Ok.ensures.found ∙ ap Ok c.in-Gap.is) c.behind.ensures.text c.behind.ensures.place c.behind.ensures.negative

pub returns-in-Lexeme-clause-found : goal.returns-in-Lexeme-clause-found
returns-in-Lexeme-clause-found c =
    let within = subst (λ piece. IsWithin (size piece) c.args.rest.text.now) c.in-Lexeme.is c.in-Ok.ensures.within in
    let behind = c.behind-behind in
    let token : Token = record { start = c.args.rest.place.offset; «end» = behind.result.place.offset; pos = c.args.rest.place.pos; kind = c.in-Lexeme.kind } in
    lexeme_steps c.args.rest.text.now behind.result.text.now c.in-Lexeme.len c.in-Lexeme.kind c.args.rest.place behind.result.place c.args.rest.negative behind.result.negative token within
    (c.in-Ok.ensures.found ∙ ap Ok c.in-Lexeme.is) behind.ensures.text behind.ensures.place (behind.ensures.negative ∙ c.is_minus.ensures) (rw behind.ensures.place refl)
