-- Lawful plans: what holds of a plan that a script has, and is asked of one that is made.
use Rattle.std.specs.Prelude.{◌≡◌, ◌≢◌, ℕ, ◌≤◌, List, [], ◌∷◌, ◌++◌, length, codes, true}
use Rattle.std.specs.Prelude.{None, IfSome, Contains}
use Rattle.std.specs.List.{AllByRecursion}
use Rattle.je_tree.specs.declared.plans.CatchPlan.{CatchPlan}
use Rattle.je_tree.specs.declared.plans.MethodPlan.{MethodPlan}
use Rattle.je_tree.specs.declared.plans.Place.{Place}
use Rattle.je_tree.specs.declared.plans.Place.TheVariants as at
use Rattle.je_tree.specs.declared.plans.Rule.{Rule}
use Rattle.je_tree.specs.declared.trees.Fragment.{Fragment}
use Rattle.je_tree.specs.Lawful.{most_bytes, IsIdentifier, IsLawful}
use Rattle.je_tree.specs.Trees.{fragment_of}

-- the name of constructors (JVMS 2.9)
abbrev pub constructor_name : List ℕ
constructor_name = codes "<init>"

abbrev pub IsLawfulFragment : Fragment → Type 0
IsLawfulFragment f = IsLawful (fragment_of f)

-- where a rule may stand: at the kinds of expressions of a method
abbrev pub rule_places : List Place
rule_places =
    at.Call ∷ at.NewObject ∷ at.InitCall ∷ at.FieldRead ∷ at.FieldWrite
    ∷ at.NewArray ∷ at.Cast ∷ at.InstanceOf ∷ at.Handler ∷ []

-- where a rule may name a member
abbrev pub member_places : List Place
member_places = at.Call ∷ at.FieldRead ∷ at.FieldWrite ∷ []

-- A member is one of a class that is named too, and parameters are those of a method that is.
pub record IsLawfulRule (r : Rule) : Type 0 where
  pub place : Contains rule_places r.place
  pub member : r.member ≢ None → Contains member_places r.place × (r.class_name ≢ None)
  pub params : r.params ≢ None → (r.place ≡ at.Call) × (r.member ≢ None)
  pub fragment : IsLawfulFragment r.fragment

-- identifiers with `/` between them
abbrev pub joined : List (List ℕ) → List ℕ
joined [] = []
joined (first ∷ []) = first
joined (first ∷ next ∷ more) = first ++ codes "/" ++ joined (next ∷ more)

-- the name of a class of which each part is an identifier
abbrev pub IsPath : List ℕ → Type 0
IsPath text =
    (parts : List (List ℕ)) × (parts ≢ []) × AllByRecursion IsIdentifier parts
    × (text ≡ joined parts) × (length text ≤ most_bytes)

abbrev pub IsLawfulCatch : CatchPlan → Type 0
IsLawfulCatch c = IsPath c.name × IsLawfulFragment c.fragment

-- A constructor has no new body, and nothing else has a part in front of its body.
pub record IsLawfulPlan (p : MethodPlan) : Type 0 where
  pub body : IfSome p.body IsLawfulFragment
  pub before : IfSome p.before IsLawfulFragment
  pub before_body : IfSome p.before_body IsLawfulFragment
  pub after : IfSome p.after IsLawfulFragment
  pub no_body : p.name ≡ constructor_name → p.body ≡ None
  pub no_before_body : p.name ≢ constructor_name → p.before_body ≡ None
  pub finally : p.finally ≡ true → p.after ≢ None
  pub catches : AllByRecursion IsLawfulCatch p.catches
  pub rules : AllByRecursion IsLawfulRule p.rules
