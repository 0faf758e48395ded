-- The methods that are called so far (JVMS 6.5, invokestatic), and what a constant has to be to
-- name one.
use Rattle.std.specs.Prelude.{◌≡◌, ◌≢◌, ℕ, List, codes, Some}
use Rattle.je_consts.specs.declared.place.Place.{Place}
use Rattle.je_desc.specs.Names.{IsClassName}
use Rattle.je_consts.specs.declared.constant.MemberTag.TheVariants.{Method}
use Rattle.je_machine.specs.Content.{Member}
use Rattle.je_instr.specs.Content.{content_at}

-- A method whose class is no array, that is neither a constructor nor a class initialiser (JVMS
-- 2.9), and that has neither parameters nor a result.
pub record IsCallable (class name descriptor : List ℕ) : Type 0 where
  pub class_name : IsClassName class
  pub no_constructor : name ≢ codes "<init>"
  pub no_initialiser : name ≢ codes "<clinit>"
  pub plain : descriptor ≡ codes "()V"

-- the constant is a method that may be called so far
abbrev pub IsCallee : List Place → ℕ → Type 0
IsCallee consts index =
    (class : List ℕ) × (name : List ℕ) × (descriptor : List ℕ)
    × (content_at consts index ≡ Some (Member Method class name descriptor))
    × IsCallable class name descriptor
