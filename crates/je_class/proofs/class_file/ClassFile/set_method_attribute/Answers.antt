use Rattle.std.proofs.Common.{◌≡◌, length, sym, ◌∙◌}
use Rattle.std.proofs.lemmas.List.{with_items_is}
use Rattle.je_class.specs.Class.{changed_at, with_attribute}
use Rattle.je_class.specs.InMemory.{class_of_parts}
use Rattle.je_class.proofs.Changes.{length-changed_at, IsSound-with_method_attribute}
use Rattle.je_class.proofs.class_file.ClassFile.set_method_attribute.Goals as goal

pub invariant_of-self : goal.invariant_of-self
invariant_of-self c =
    let methods = c.self.inside.parts.methods in
    let change = with_attribute c.args.attribute c.args.bytes in
    let changed : c.set_attribute.new.methods ≡ changed_at c.args.method change methods.items = rw (← c.deref_mut.ensures.value) c.set_attribute.ensures in
    let len : length c.set_attribute.new.methods ≡ methods.len = rw changed (length-changed_at c.args.method change methods.items ∙ sym methods.ok.0) in
    rw (with_items_is methods c.set_attribute.new.methods len, changed) (IsSound-with_method_attribute c.args.method c.args.attribute c.args.bytes (class_of_parts c.self.inside.parts) c.requires.fits c.self.invariant)
