-- The contents of the definitions, and the forms that the program has of them.
use Rattle.je_machine.specs.Content as machine
use Rattle.je_value.specs.declared.content.ContentForm.{ContentForm}
use Rattle.je_value.specs.declared.content.ContentForm.TheVariants as forms

-- the content of a form
abbrev pub content_in : ContentForm → machine.Content
content_in (forms.Utf8Text text) = machine.Utf8Text text
content_in (forms.Integer n) = machine.Integer n
content_in (forms.Float bits) = machine.Float bits
content_in (forms.Long n) = machine.LongInteger n
content_in (forms.Double bits) = machine.Double bits
content_in (forms.Class name) = machine.Class name
content_in (forms.Str text) = machine.Str text
content_in (forms.Member tag class name descriptor) = machine.Member tag class name descriptor
content_in (forms.NameAndType name descriptor) = machine.NameAndType name descriptor
content_in (forms.MethodHandle kind tag class name descriptor) =
    machine.MethodHandle kind tag class name descriptor
content_in (forms.MethodType descriptor) = machine.MethodType descriptor
content_in (forms.InvokeDynamic bootstrap name descriptor) =
    machine.InvokeDynamic bootstrap name descriptor
