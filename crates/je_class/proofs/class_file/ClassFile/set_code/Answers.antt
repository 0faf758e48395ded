use Rattle.std.proofs.Common.{◌≡◌, length, sym, subst, ◌∙◌}
use Rattle.std.proofs.lemmas.List.{with_items_is}
use Rattle.je_consts.specs.Adding.{Keeps}
use Rattle.je_class.specs.Class.{Class, changed_at, with_attribute}
use Rattle.je_class.specs.InMemory.{class_of_parts}
use Rattle.je_class.proofs.Changes.{length-changed_at}
use Rattle.je_class.proofs.Grown.{IsSound-with_code}
use Rattle.je_class.proofs.class_file.ClassFile.set_code.Goals as goal

pub invariant_of-self : goal.invariant_of-self
invariant_of-self c =
    let methods = c.self.inside.parts.methods in
    let change = with_attribute c.args.attribute c.args.bytes in
    let changed : c.set_attribute.new.methods ≡ changed_at c.args.method change methods.items = rw (← c.deref_mut.ensures.value) c.set_attribute.ensures in
    let len : length c.set_attribute.new.methods ≡ methods.len = rw changed (length-changed_at c.args.method change methods.items ∙ sym methods.ok.0) in
    let grown = subst (λ (k : Class). Keeps k.consts c.args.consts) (sym c.self.view_is) c.requires.grown in
    rw (with_items_is methods c.set_attribute.new.methods len, changed)
    (IsSound-with_code c.args.method c.args.attribute c.args.bytes c.args.consts (class_of_parts c.self.inside.parts) c.requires.fits c.count.ensures.pool grown c.self.invariant)
