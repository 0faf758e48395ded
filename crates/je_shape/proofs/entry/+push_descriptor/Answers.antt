use Rattle.std.proofs.Common.{◌++◌, ◌∙◌, List, ℕ, ap}
use Rattle.je_desc.specs.FieldType as types
use Rattle.je_desc.specs.Types.{field_type_of}
use Rattle.je_shape.proofs.TypeLemmas.{is_Boolean, is_Byte, is_Char, is_Short, is_Int, is_Long, is_Float, is_Double, is_Class, is_Array}
use Rattle.je_shape.proofs.FormLemmas.{base_form, object_form, array_form, object_text, array_text}
use Rattle.je_shape.proofs.entry.+push_descriptor.Goals as goal

pub returns-in_ok-push-in-Boolean-clause-form : goal.returns-in_ok-push-in-Boolean-clause-form
returns-in_ok-push-in-Boolean-clause-form t c = rw c.in-Boolean.is (rw is_Boolean (base_form types.Boolean))

pub returns-in_ok-push-in-Byte-clause-form : goal.returns-in_ok-push-in-Byte-clause-form
returns-in_ok-push-in-Byte-clause-form t c = rw c.in-Byte.is (rw is_Byte (base_form types.Byte))

pub returns-in_ok-push-in-Char-clause-form : goal.returns-in_ok-push-in-Char-clause-form
returns-in_ok-push-in-Char-clause-form t c = rw c.in-Char.is (rw is_Char (base_form types.Char))

pub returns-in_ok-push-in-Short-clause-form : goal.returns-in_ok-push-in-Short-clause-form
returns-in_ok-push-in-Short-clause-form t c = rw c.in-Short.is (rw is_Short (base_form types.Short))

pub returns-in_ok-push-in-Int-clause-form : goal.returns-in_ok-push-in-Int-clause-form
returns-in_ok-push-in-Int-clause-form t c = rw c.in-Int.is (rw is_Int (base_form types.Int))

pub returns-in_ok-push-in-Long-clause-form : goal.returns-in_ok-push-in-Long-clause-form
returns-in_ok-push-in-Long-clause-form t c = rw c.in-Long.is (rw is_Long (base_form types.Long))

pub returns-in_ok-push-in-Float-clause-form : goal.returns-in_ok-push-in-Float-clause-form
returns-in_ok-push-in-Float-clause-form t c = rw c.in-Float.is (rw is_Float (base_form types.Float))

pub returns-in_ok-push-in-Double-clause-form : goal.returns-in_ok-push-in-Double-clause-form
returns-in_ok-push-in-Double-clause-form t c = rw c.in-Double.is (rw is_Double (base_form types.Double))

pub returns-in_ok-push-in-Class-2-clause-text : goal.returns-in_ok-push-in-Class-2-clause-text
returns-in_ok-push-in-Class-2-clause-text t c =
    rw c.in-Class.is
    (rw (is_Class c.in-Class.name)
    (object_text c.args.out.now.items c.push-in-Class.new.self.items c.in-Class.name c.extend_from_slice.new.self.items _
    c.in_ok-push-in-Class.ensures.items
    (c.in_ok-extend_from_slice-in-Class.ensures.items ∙ ap (λ (l : List ℕ). c.push-in-Class.new.self.items ++ l) c.bytes.ensures.bytes)
    c.in_ok-push-in-Class-2.ensures.items))

pub returns-in_ok-push-in-Class-2-clause-form : goal.returns-in_ok-push-in-Class-2-clause-form
returns-in_ok-push-in-Class-2-clause-form t c =
    rw c.in-Class.is
    (rw (is_Class c.in-Class.name) (object_form c.in-Class.name (rw (c.bytes.ensures.bytes) at c.bytes.ensures.form)))

pub returns-in_ok-push_descriptor-in-Array-clause-text : goal.returns-in_ok-push_descriptor-in-Array-clause-text
returns-in_ok-push_descriptor-in-Array-clause-text t c =
    rw c.in-Array.is
    (rw (is_Array c.in-Array.component)
    (array_text c.args.out.now.items c.push-in-Array.new.self.items _ (field_type_of c.in-Array.component)
    c.in_ok-push-in-Array.ensures.items
    (rw c.get.ensures at c.in_ok-push_descriptor-in-Array.ensures.text)))

pub returns-in_ok-push_descriptor-in-Array-clause-form : goal.returns-in_ok-push_descriptor-in-Array-clause-form
returns-in_ok-push_descriptor-in-Array-clause-form t c =
    rw c.in-Array.is
    (rw (is_Array c.in-Array.component)
    (array_form (field_type_of c.in-Array.component) (rw c.get.ensures at c.in_ok-push_descriptor-in-Array.ensures.form)))
