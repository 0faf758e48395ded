-- Serves private functions: a class by the type that it names.
use Rattle.je_desc.specs.FieldType.{FieldType}
use Rattle.je_instr.specs.Allowed.{NamesType}
use Rattle.je_machine.specs.Content.{Content, Class}

-- the constant is a class that names this type
abbrev pub IsOfType : FieldType → Content → Type 0
IsOfType type (Class text) = NamesType text type
IsOfType type _ = ⊥
