-- What a class file whose numbers fit and whose indexes name what they have to has of each item.
use Rattle.std.proofs.Common.{List, ◌++◌}
use Rattle.std.specs.List.{AllByRecursion}
use Rattle.je_consts.specs.declared.place.Place.{Place}
use Rattle.je_class.specs.declared.member.Attribute.{Attribute}
use Rattle.je_class.specs.Class.{Class, IsClassIndex}
use Rattle.je_base.specs.Parts.{IsSoundPart, table_parts}
use Rattle.je_class.specs.FileParts.{class_format, Part, interface_parts, attribute_parts, field_parts, method_parts, IsSound}
use Rattle.je_class.specs.Sizes.{FitsTable, FitsAttribute, FitsMember, FitsClass}
use Rattle.je_class.specs.Signatures.{HasTexts}
use Rattle.je_class.proofs.Alls.{all_split, all_each}

abbrev Sound : List Part → Type 0
Sound parts = AllByRecursion (IsSoundPart class_format) parts

-- the four tables of a class file
pub record SoundTables (c : Class) : Type 0 where
  pub interfaces : Sound (table_parts (interface_parts c.consts) c.interfaces)
  pub fields : Sound (table_parts (field_parts c.consts) c.fields)
  pub methods : Sound (table_parts (method_parts c.consts) c.methods)
  pub attributes : Sound (table_parts (attribute_parts c.consts) c.attributes)

pub sound_tables : (c : Class) → IsSound c → SoundTables c
sound_tables c sound =
    let h = sound.parts in
    let P = IsSoundPart class_format in
    let interfaces = table_parts (interface_parts c.consts) c.interfaces in
    let fields = table_parts (field_parts c.consts) c.fields in
    let methods = table_parts (method_parts c.consts) c.methods in
    let attributes = table_parts (attribute_parts c.consts) c.attributes in
    let a = all_split P interfaces (fields ++ (methods ++ attributes)) h.1.1.1.1.1.1.1 in
    let b = all_split P fields (methods ++ attributes) a.1 in
    let d = all_split P methods attributes b.1 in
    record { interfaces = a.0; fields = b.0; methods = d.0; attributes = d.1 }

-- ---- lengths

fits_attributes : (consts : List Place) (xs : List Attribute) → Sound (table_parts (attribute_parts consts) xs) → FitsTable FitsAttribute xs
fits_attributes consts xs h = (h.0.0, all_each (IsSoundPart class_format) (attribute_parts consts) FitsAttribute (λ a s. s.1.0.0) xs h.1)

pub FitsClass-sound : (c : Class) → IsSound c → FitsClass c
FitsClass-sound c sound =
    let t = sound_tables c sound in
    let P = IsSoundPart class_format in
    record {
      interfaces = t.interfaces.0.0;
      fields = (t.fields.0.0, all_each P (field_parts c.consts) FitsMember (λ m s. fits_attributes c.consts m.attributes s.1.1.1) c.fields t.fields.1);
      methods = (t.methods.0.0, all_each P (method_parts c.consts) FitsMember (λ m s. fits_attributes c.consts m.attributes s.1.1.1) c.methods t.methods.1);
      attributes = fits_attributes c.consts c.attributes t.attributes;
    }

-- ---- names

pub interfaces-named : (c : Class) → IsSound c → AllByRecursion (IsClassIndex c.consts) c.interfaces
interfaces-named c sound = all_each (IsSoundPart class_format) (interface_parts c.consts) (IsClassIndex c.consts) (λ i s. s.0.1.0) c.interfaces (sound_tables c sound).interfaces.1

pub fields-named : (c : Class) → IsSound c → AllByRecursion (HasTexts c.consts) c.fields
fields-named c sound = all_each (IsSoundPart class_format) (field_parts c.consts) (HasTexts c.consts) (λ m s. (s.1.0.1.0, s.1.1.0.1.0)) c.fields (sound_tables c sound).fields.1

pub methods-named : (c : Class) → IsSound c → AllByRecursion (HasTexts c.consts) c.methods
methods-named c sound = all_each (IsSoundPart class_format) (method_parts c.consts) (HasTexts c.consts) (λ m s. (s.1.0.1.0, s.1.1.0.1.0)) c.methods (sound_tables c sound).methods.1
