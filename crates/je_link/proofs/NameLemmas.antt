-- What a constant that an instruction names gives it.
use Rattle.std.proofs.Common.{◌≡◌, ℕ, List, Option, Some, None, refl, subst}
use Rattle.std.specs.Prelude.{option_and_then}
use Rattle.je_consts.specs.declared.place.Place.{Place}
use Rattle.je_desc.specs.FieldType.{FieldType}
use Rattle.je_desc.specs.Names.{IsClassName}
use Rattle.je_machine.specs.Action.{Action}
use Rattle.je_machine.specs.Content.{Content, Class}
use Rattle.je_machine.specs.Operation.{Operation, Act, Do}
use Rattle.je_instr.specs.Allowed.{NamesType}
use Rattle.je_instr.specs.Content.{content_at, Names}
use Rattle.je_instr.specs.CodeProgram.{Catches}
use Rattle.je_instr.specs.Resolves.{OfClass, OfType}
use Rattle.je_instr.specs.Views.{of_class}
use Rattle.je_link.specs.OfTypes.{IsOfType}

-- what is made of the content that is named
pub made_of : (o : Option Content) (f : Content → Option Operation) (x : Operation) → (c : Content) × (o ≡ Some c) × (f c ≡ Some x) → option_and_then f o ≡ Some x
made_of o f x (c, here, e) = rw here e

-- ---- classes

pub record HasText (consts : List Place) (index : ℕ) (P : List ℕ → Type 0) : Type 0 where
  pub text : List ℕ
  pub here : of_class (content_at consts index) ≡ Some text
  pub so : P text

class_of_names : (consts : List Place) (index : ℕ) (text : List ℕ) → content_at consts index ≡ Some (Class text) → of_class (content_at consts index) ≡ Some text
class_of_names consts index text e = rw e refl

pub class_named : (consts : List Place) (index : ℕ) (make : List ℕ → Action) (o : Operation) → Names consts index (OfClass make o) → HasText consts index (λ text. o ≡ Do (Act (make text)))
class_named consts index make o (Class text, here, is) = record { text = text; here = class_of_names consts index text here; so = is }
class_named consts index make o (_, here, is) = absurd is

pub type_named : (consts : List Place) (index : ℕ) (t : FieldType) → Names consts index (IsOfType t) → HasText consts index (λ text. NamesType text t)
type_named consts index t (Class text, here, is) = record { text = text; here = class_of_names consts index text here; so = is }
type_named consts index t (_, here, is) = absurd is

pub record HasType (consts : List Place) (index : ℕ) (P : FieldType → Type 0) : Type 0 where
  pub type : FieldType
  pub here : Names consts index (IsOfType type)
  pub so : P type

pub array_named : (consts : List Place) (index : ℕ) (make : FieldType → Action) (o : Operation) → Names consts index (OfType make o) → HasType consts index (λ t. o ≡ Do (Act (make t)))
array_named consts index make o (Class text, here, is) = record { type = is.0; here = (Class text, here, is.1); so = is.2 }
array_named consts index make o (_, here, is) = absurd is

-- the content is a class where it has the text of one
pub class_content : (o : Option Content) (text : List ℕ) → of_class o ≡ Some text → o ≡ Some (Class text)
class_content (Some (Class name)) text e = cc
class_content (Some _) text e = absurd cc
class_content None text e = absurd cc

-- ---- what a handler catches

pub catches_none : (consts : List Place) (index : ℕ) (class : Option (List ℕ)) → (index ≡ 0 → ⊥) → ((name : List ℕ) → of_class (content_at consts index) ≡ Some name → IsClassName name → ⊥) → Catches consts index class → ⊥
catches_none consts index None some none h = some h
catches_none consts index (Some name) some none h = none name (class_of_names consts index name h.0) h.1

-- what holds of the content that is named, holds of the content that is there
pub named_here : (consts : List Place) (index : ℕ) (P : Content → Type 0) (content : Content) → content_at consts index ≡ Some content → Names consts index P → P content
named_here consts index P content e (d, here, p) = let same : d ≡ content = cc (here, e) in subst P same p
