-- What holds of each item of a class file whose parts are sound.
use Rattle.std.proofs.Common.{ℕ, List}
use Rattle.std.proofs.lemmas.List.Elements.{All-from_recursion}
use Rattle.std.specs.List.{AllByRecursion}
use Rattle.je_consts.specs.declared.place.Place.{Place}
use Rattle.je_class.specs.declared.member.Attribute.{Attribute}
use Rattle.je_class.specs.declared.member.Member.{Member}
use Rattle.je_class.specs.Class.{Class}
use Rattle.je_base.specs.Parts.{IsSoundPart, each}
use Rattle.je_class.specs.FileParts.{class_format, Part, interface_parts, attribute_parts, field_parts, method_parts, IsSound}
use Rattle.je_class.specs.Sound.{IsSoundAttribute, IsSoundInterface, IsSoundField, IsSoundMethod, HasSoundParts}
use Rattle.std.specs.Prelude.{All}
use Rattle.je_class.proofs.Alls.{all_each}
use Rattle.je_class.proofs.Sounds.{sound_tables}

module _ (consts : List Place) where
  abbrev Sound : List Part → Type 0
  Sound parts = AllByRecursion (IsSoundPart class_format) parts

  all_of : {A : Type 0} (parts : A → List Part) (Q : A → Type 0) → ((x : A) → Sound (parts x) → Q x) → (xs : List A) → Sound (each parts xs) → All Q xs
  all_of parts Q gives xs h = All-from_recursion Q xs (all_each (IsSoundPart class_format) parts Q gives xs h)

  sound_attribute : (a : Attribute) → Sound (attribute_parts consts a) → IsSoundAttribute consts a
  sound_attribute a s = record { name = s.0.1.0; name_fits = s.0.0; length_fits = s.1.0.0 }

  sound_interface : (i : ℕ) → Sound (interface_parts consts i) → IsSoundInterface consts i
  sound_interface i s = record { class = s.0.1.0; fits = s.0.0 }

  sound_field : (m : Member) → Sound (field_parts consts m) → IsSoundField consts m
  sound_field m s = record {
    name = s.1.0.1.0;
    descriptor = s.1.1.0.1.1.0;
    attributes = all_of (attribute_parts consts) (IsSoundAttribute consts) sound_attribute m.attributes s.1.1.1.1;
    access_fits = s.0.0;
    name_fits = s.1.0.0;
    descriptor_fits = s.1.1.0.0;
    attributes_fit = s.1.1.1.0.0;
  }

  sound_method : (m : Member) → Sound (method_parts consts m) → IsSoundMethod consts m
  sound_method m s = record {
    name = s.1.0.1.0;
    descriptor = s.1.1.0.1.1.0;
    attributes = all_of (attribute_parts consts) (IsSoundAttribute consts) sound_attribute m.attributes s.1.1.1.1;
    access_fits = s.0.0;
    name_fits = s.1.0.0;
    descriptor_fits = s.1.1.0.0;
    attributes_fit = s.1.1.1.0.0;
  }

pub HasSoundParts-sound : (c : Class) → IsSound c → HasSoundParts c
HasSoundParts-sound c sound =
    let h = sound.parts in
    let t = sound_tables c sound in
    let consts = c.consts in
    record {
      version = h.1.1.0.1.0;
      consts = h.1.1.1.0;
      this_class = h.1.1.1.1.1.0.1.0;
      super_class = h.1.1.1.1.1.1.0.1.0;
      interfaces = all_of consts (interface_parts consts) (IsSoundInterface consts) (sound_interface consts) c.interfaces t.interfaces.1;
      fields = all_of consts (field_parts consts) (IsSoundField consts) (sound_field consts) c.fields t.fields.1;
      methods = all_of consts (method_parts consts) (IsSoundMethod consts) (sound_method consts) c.methods t.methods.1;
      attributes = all_of consts (attribute_parts consts) (IsSoundAttribute consts) (sound_attribute consts) c.attributes t.attributes.1;
      minor_fits = h.1.0.0;
      access_fits = h.1.1.1.1.0.0;
      this_class_fits = h.1.1.1.1.1.0.0;
      super_class_fits = h.1.1.1.1.1.1.0.0;
      interfaces_fit = t.interfaces.0.0;
      fields_fit = t.fields.0.0;
      methods_fit = t.methods.0.0;
      attributes_fit = t.attributes.0.0;
    }
