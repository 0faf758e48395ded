-- Records whose fields are the same are the same.
use Rattle.std.proofs.Common.{◌≡◌, ℕ, List, ap, ◌∙◌}
use Rattle.je_consts.specs.declared.place.Place.{Place}
use Rattle.je_class.specs.declared.member.Attribute.{Attribute}
use Rattle.je_class.specs.declared.member.Member.{Member}
use Rattle.je_class.specs.Class.{Class}

abbrev attribute_of : ℕ → List ℕ → Attribute
attribute_of name bytes = record { name = name; bytes = bytes }

pub same_attribute : (y z : Attribute) → y.name ≡ z.name → y.bytes ≡ z.bytes → y ≡ z
same_attribute y z name bytes =
    ap (λ (v : ℕ). attribute_of v y.bytes) name
    ∙ ap (λ (v : List ℕ). attribute_of z.name v) bytes

abbrev member_of : ℕ → ℕ → ℕ → List Attribute → Member
member_of access name descriptor attributes = record { access = access; name = name; descriptor = descriptor; attributes = attributes }

pub same_member : (y z : Member) → y.access ≡ z.access → y.name ≡ z.name → y.descriptor ≡ z.descriptor → y.attributes ≡ z.attributes → y ≡ z
same_member y z access name descriptor attributes =
    ap (λ (v : ℕ). member_of v y.name y.descriptor y.attributes) access
    ∙ ap (λ (v : ℕ). member_of z.access v y.descriptor y.attributes) name
    ∙ ap (λ (v : ℕ). member_of z.access z.name v y.attributes) descriptor
    ∙ ap (λ (v : List Attribute). member_of z.access z.name z.descriptor v) attributes

abbrev pub class_of : ℕ → ℕ → List Place → ℕ → ℕ → ℕ → List ℕ → List Member → List Member → List Attribute → Class
class_of minor major consts access this_class super_class interfaces fields methods attributes = record { minor = minor; major = major; consts = consts; access = access; this_class = this_class; super_class = super_class; interfaces = interfaces; fields = fields; methods = methods; attributes = attributes }

pub same_class : (y z : Class) → y.minor ≡ z.minor → y.major ≡ z.major → y.consts ≡ z.consts → y.access ≡ z.access → y.this_class ≡ z.this_class → y.super_class ≡ z.super_class → y.interfaces ≡ z.interfaces → y.fields ≡ z.fields → y.methods ≡ z.methods → y.attributes ≡ z.attributes → y ≡ z
same_class y z minor major consts access this_class super_class interfaces fields methods attributes =
    ap (λ (v : ℕ). class_of v y.major y.consts y.access y.this_class y.super_class y.interfaces y.fields y.methods y.attributes) minor
    ∙ ap (λ (v : ℕ). class_of z.minor v y.consts y.access y.this_class y.super_class y.interfaces y.fields y.methods y.attributes) major
    ∙ ap (λ (v : List Place). class_of z.minor z.major v y.access y.this_class y.super_class y.interfaces y.fields y.methods y.attributes) consts
    ∙ ap (λ (v : ℕ). class_of z.minor z.major z.consts v y.this_class y.super_class y.interfaces y.fields y.methods y.attributes) access
    ∙ ap (λ (v : ℕ). class_of z.minor z.major z.consts z.access v y.super_class y.interfaces y.fields y.methods y.attributes) this_class
    ∙ ap (λ (v : ℕ). class_of z.minor z.major z.consts z.access z.this_class v y.interfaces y.fields y.methods y.attributes) super_class
    ∙ ap (λ (v : List ℕ). class_of z.minor z.major z.consts z.access z.this_class z.super_class v y.fields y.methods y.attributes) interfaces
    ∙ ap (λ (v : List Member). class_of z.minor z.major z.consts z.access z.this_class z.super_class z.interfaces v y.methods y.attributes) fields
    ∙ ap (λ (v : List Member). class_of z.minor z.major z.consts z.access z.this_class z.super_class z.interfaces z.fields v y.attributes) methods
    ∙ ap (λ (v : List Attribute). class_of z.minor z.major z.consts z.access z.this_class z.super_class z.interfaces z.fields z.methods v) attributes
