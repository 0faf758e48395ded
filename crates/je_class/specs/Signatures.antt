-- Serves private functions: what a field or a method has to have to be shown by its name and
-- descriptor.
use Rattle.std.specs.Prelude.{List}
use Rattle.je_consts.specs.declared.place.Place.{Place}
use Rattle.je_class.specs.declared.member.Member.{Member}
use Rattle.je_class.specs.Class.{IsTextIndex}

-- its name and its descriptor are texts
abbrev pub HasTexts : List Place → Member → Type 0
HasTexts consts m = IsTextIndex consts m.name × IsTextIndex consts m.descriptor
