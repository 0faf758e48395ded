-- What a constant of the pool says, with each of its indexes replaced by what stands there (JVMS
-- 4.4).
use Rattle.std.specs.Prelude.{◌≡◌, ℕ, List, Option, Some, None, option_and_then}
use Rattle.je_consts.specs.declared.constant.Const.{Const}
use Rattle.je_consts.specs.declared.constant.Const.TheVariants as entry
use Rattle.je_consts.specs.declared.place.Place.{Place}
use Rattle.je_consts.specs.Pool.{const_at, text_at, class_at, name_and_type_at}
use Rattle.je_consts.specs.declared.constant.MemberTag.TheVariants.{Field, Method, InterfaceMethod}
use Rattle.je_machine.specs.Content.{Content, Utf8Text}
use Rattle.je_machine.specs.Content.{Integer, Float, LongInteger, Double, Class, Str, Member}
use Rattle.je_machine.specs.Content.{NameAndType, MethodHandle, MethodType, InvokeDynamic}

-- what is made of the text at an index
abbrev pub of_text : (List ℕ → Content) → List Place → ℕ → Option Content
of_text made consts i = option_and_then (λ t. Some (made t)) (text_at consts i)

-- what is made of a name and a descriptor
abbrev pub of_name_and_type : (List ℕ → List ℕ → Content) → List Place → ℕ → Option Content
of_name_and_type made consts i =
    option_and_then (λ m. Some (made m.0 m.1)) (name_and_type_at consts i)

-- what is made of a class, and of a name and a descriptor
abbrev pub of_member : (List ℕ → List ℕ → List ℕ → Content) → List Place → ℕ → ℕ → Option Content
of_member made consts class member =
    option_and_then (λ c. of_name_and_type (made c) consts member) (class_at consts class)

-- a method handle of this kind, by the field or method that it refers to (JVMS 4.4.8)
abbrev pub handle_of : ℕ → List Place → Const → Option Content
handle_of kind consts (entry.Field class member) =
    of_member (MethodHandle kind Field) consts class member
handle_of kind consts (entry.Method class member) =
    of_member (MethodHandle kind Method) consts class member
handle_of kind consts (entry.InterfaceMethod class member) =
    of_member (MethodHandle kind InterfaceMethod) consts class member
handle_of kind consts _ = None

abbrev pub content_of : List Place → Const → Option Content
content_of consts (entry.Utf8 text) = Some (Utf8Text text)
content_of consts (entry.Integer n) = Some (Integer n)
content_of consts (entry.Float bits) = Some (Float bits)
content_of consts (entry.Long n) = Some (LongInteger n)
content_of consts (entry.Double bits) = Some (Double bits)
content_of consts (entry.Class name) = of_text Class consts name
content_of consts (entry.Str text) = of_text Str consts text
content_of consts (entry.Field class member) = of_member (Member Field) consts class member
content_of consts (entry.Method class member) = of_member (Member Method) consts class member
content_of consts (entry.InterfaceMethod class member) =
    of_member (Member InterfaceMethod) consts class member
content_of consts (entry.NameAndType name descriptor) =
    option_and_then (λ n. of_text (NameAndType n) consts descriptor) (text_at consts name)
content_of consts (entry.MethodHandle kind member) =
    option_and_then (handle_of kind consts) (const_at consts member)
content_of consts (entry.MethodType descriptor) = of_text MethodType consts descriptor
content_of consts (entry.InvokeDynamic bootstrap member) =
    of_name_and_type (InvokeDynamic bootstrap) consts member

-- the content of the constant at an index
abbrev pub content_at : List Place → ℕ → Option Content
content_at consts i = option_and_then (content_of consts) (const_at consts i)

-- the index is that of a constant whose content is so
abbrev pub Names : List Place → ℕ → (Content → Type 0) → Type 0
Names consts index P = (content : Content) × (content_at consts index ≡ Some content) × P content
