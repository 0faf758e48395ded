use Rattle.std.proofs.Common.{[]}
use Rattle.je_code.proofs.OneAnswer as lemmas
use Rattle.je_code.proofs.OneAnswer.{OneDecoding}
use Rattle.je_code.proofs.SomeAnswer.{not_neither}
use Rattle.je_code.proofs.laws.one_code.Goals as goal

pub returns-clause-some : goal.returns-clause-some
returns-clause-some c = not_neither c.one_decoding.ensures.some

pub returns-clause-same : goal.returns-clause-same
returns-clause-same c consts info =
    let decode : OneDecoding = record { same = c.one_decoding.ensures.same; no_fault = c.one_decoding.ensures.no_fault; one_fault = c.one_decoding.ensures.one_fault } in
    lemmas.same c.one_code_way.ensures consts info decode

pub returns-clause-layout : goal.returns-clause-layout
returns-clause-layout c info = lemmas.one_bytes c.one_code_way.ensures [] info

pub returns-clause-decoded_no_fault : goal.returns-clause-decoded_no_fault
returns-clause-decoded_no_fault c consts info =
    let decode : OneDecoding = record { same = c.one_decoding.ensures.same; no_fault = c.one_decoding.ensures.no_fault; one_fault = c.one_decoding.ensures.one_fault } in
    lemmas.decoded_no_fault c.one_code_way.ensures consts info decode

pub returns-clause-no_fault : goal.returns-clause-no_fault
returns-clause-no_fault c consts info =
    let decode : OneDecoding = record { same = c.one_decoding.ensures.same; no_fault = c.one_decoding.ensures.no_fault; one_fault = c.one_decoding.ensures.one_fault } in
    lemmas.no_fault c.one_code_way.ensures consts info decode

pub returns-clause-one_fault : goal.returns-clause-one_fault
returns-clause-one_fault c consts info =
    let decode : OneDecoding = record { same = c.one_decoding.ensures.same; no_fault = c.one_decoding.ensures.no_fault; one_fault = c.one_decoding.ensures.one_fault } in
    lemmas.one_fault c.one_code_way.ensures consts info decode
