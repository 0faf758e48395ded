use Rattle.std.proofs.Common.{◌≡◌, ℕ, List, Option, Some, None, refl, subst, ◌∙◌}
use Rattle.std.specs.Prelude.{codes, IfSome, IfNone, All}
use Rattle.std.specs.Str.{chars}
use Rattle.je_base.specs.Encoding.{encoding}
use Rattle.je_class.specs.Class.{Class, IsNamed, IsMethodAt}
use Rattle.je_session.proofs.PlaceLemmas.{no_place}
use Rattle.je_session.proofs.edit.editable.place_of.Goals as goal

-- the descriptor is ASCII, so it is encoded as itself
encoded : encoding (chars (codes "()V")) ≡ codes "()V"
unfolding chars
encoded = refl

pub returns-clause-found : goal.returns-clause-found
returns-clause-found c =
    subst (λ (d : List ℕ). IfSome c.find_member.result (IsMethodAt c.args.class.now c.args.name.now d)) (c.in_ok-descriptor.ensures ∙ encoded) c.find_member.ensures.found

none_there : (c : Class) (name descriptor : List ℕ) (place : Option ℕ) → IfNone place (All (λ m. IsNamed c.consts name descriptor m → ⊥) c.methods)
    → IfNone place ((at : ℕ) → IsMethodAt c name descriptor at → ⊥)
none_there c name descriptor None none = λ at. no_place c name descriptor at none
none_there c name descriptor (Some at) none = tt

pub returns-clause-none : goal.returns-clause-none
returns-clause-none c =
    subst (λ (d : List ℕ). IfNone c.find_member.result ((at : ℕ) → IsMethodAt c.args.class.now c.args.name.now d at → ⊥)) (c.in_ok-descriptor.ensures ∙ encoded)
    (none_there c.args.class.now c.args.name.now c.in_ok-descriptor.descriptor c.find_member.result c.find_member.ensures.none)
