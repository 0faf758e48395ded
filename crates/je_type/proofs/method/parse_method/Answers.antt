use Rattle.std.proofs.Common.{◌≡◌, ◌∷◌, refl, rules}
use Rattle.je_desc.specs.Types.{method_types_of}
use Rattle.je_type.proofs.MethodLemmas.{form_found, none_found, only_found}
use Rattle.je_type.proofs.method.parse_method.Goals as goal

pub returns-in_default-clause-only : goal.returns-in_default-clause-only
returns-in_default-clause-only c = λ m spelled form.
    absurd (cc (c.units.ensures.only _ (method_types_of m, spelled, refl), c.in_default.is))

pub returns-in-Some-split_first-clause-form : goal.returns-in-Some-split_first-clause-form
returns-in-Some-split_first-clause-form c =
    let split : c.args.b.now ≡ c.in-Some-split_first.field-0-0.now ∷ c.in-Some-split_first.rest.now = search rules in
    form_found c.args.b.now _ _ split c.parameters.result _ c.in-Some.ensures.some c.parameters.ensures.reads c.parameters.ensures.form

pub returns-in-Some-split_first-clause-none : goal.returns-in-Some-split_first-clause-none
returns-in-Some-split_first-clause-none c =
    let split : c.args.b.now ≡ c.in-Some-split_first.field-0-0.now ∷ c.in-Some-split_first.rest.now = search rules in
    none_found c.args.b.now _ _ split c.parameters.result c.parameters.ensures.reads

pub returns-in-Some-split_first-clause-only : goal.returns-in-Some-split_first-clause-only
returns-in-Some-split_first-clause-only c =
    let split : c.args.b.now ≡ c.in-Some-split_first.field-0-0.now ∷ c.in-Some-split_first.rest.now = search rules in
    only_found c.args.b.now _ _ split c.parameters.result c.parameters.ensures.reads
