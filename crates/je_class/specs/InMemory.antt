-- Serves private functions: the record that the parts of a class file in memory are, as the view of
-- `ClassFile` has it.
use Rattle.je_class.specs.declared.parts.Parts.{Parts}
use Rattle.je_class.specs.Class.{Class}

abbrev pub class_of_parts : Parts → Class
class_of_parts p = record {
  minor = p.minor;
  major = p.major;
  consts = p.consts;
  access = p.access;
  this_class = p.this_class;
  super_class = p.super_class;
  interfaces = p.interfaces.items;
  fields = p.fields.items;
  methods = p.methods.items;
  attributes = p.attributes.items;
}
