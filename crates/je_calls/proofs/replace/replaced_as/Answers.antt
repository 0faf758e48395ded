use Rattle.std.proofs.Common.{◌∙◌, map, ap, List}
use Rattle.je_instr.specs.declared.instr.Instr.{Instr}
use Rattle.je_splice.specs.Put.{replacements}
use Rattle.je_put.specs.Placing.{put_at}
use Rattle.je_calls.specs.Blocks.{blocks_of}
use Rattle.je_calls.proofs.ReplaceLemmas.{places_belong, program_is, places_are}
use Rattle.je_calls.proofs.replace.replaced_as.Goals as goal

pub splice-requires-clause-places : goal.splice-requires-clause-places
splice-requires-clause-places c = places_belong _ c.deref.result.now c.as_slice.result.now c.args.choices.now (ap (map put_at) c.deref.ensures.value ∙ c.in_ok-places.ensures)

pub returns-clause-program : goal.returns-clause-program
returns-clause-program c =
    c.in_ok-spliced.ensures.program
    ∙ program_is c.args.p.now c.deref.result.now c.args.choices.now
    (ap (map put_at) c.deref.ensures.value ∙ c.in_ok-places.ensures ∙ ap (λ (is : List Instr). replacements 0 (blocks_of is c.args.choices.now)) c.as_slice.ensures)

pub returns-clause-new_of : goal.returns-clause-new_of
returns-clause-new_of c =
    places_are c.args.p.now c.deref.result.now c.args.choices.now _ _
    (ap (map put_at) c.deref.ensures.value ∙ c.in_ok-places.ensures ∙ ap (λ (is : List Instr). replacements 0 (blocks_of is c.args.choices.now)) c.as_slice.ensures)
    c.in_ok-spliced.ensures.new_of
