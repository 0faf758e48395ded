use Rattle.std.proofs.Common.{◌≡◌, ◌<◌, Some, length, get_or, subst}
use Rattle.std.specs.Prelude.{slice_get}
use Rattle.std.proofs.lemmas.Option.{slice_get_within, slice_get-get_or}
use Rattle.je_class.specs.declared.member.Member.{Member}
use Rattle.je_class.proofs.Changes.{IsSomeAnd-value, slice_set-with_attribute}
use Rattle.je_class.proofs.class_file.set_attribute.Goals as goal

pub returns : goal.returns
returns c =
    let methods = c.args.methods.now in
    let m = get_or methods c.args.method c.index-methods-method.result in
    let other = c.index-as_slice-attribute.result in
    let there = IsSomeAnd-value (slice_get methods c.args.method) (λ m. c.args.attribute < length m.attributes) c.requires in
    let within : c.args.method < length methods = slice_get_within methods c.args.method there.0 there.1 in
    let at_method : slice_get methods c.args.method ≡ Some m = slice_get-get_or methods c.args.method c.index-methods-method.result within in
    let one : there.0 ≡ m = cc (there.1, at_method) in
    let lt : c.args.attribute < length m.attributes = subst (λ (m : Member). c.args.attribute < length m.attributes) one there.2 in
    let a = get_or c.as_slice.result.now c.args.attribute other in
    let at_attribute : slice_get m.attributes c.args.attribute ≡ Some a = rw c.as_slice.ensures (slice_get-get_or m.attributes c.args.attribute other lt) in
    slice_set-with_attribute methods c.args.method c.args.attribute c.args.bytes m a c.set.new.self at_method at_attribute c.set.ensures
