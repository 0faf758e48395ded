-- What a constant says, with each index of the constant pool replaced by what stands there (JVMS
-- 4.4).
use Rattle.std.specs.Prelude.{ℕ, ℤ, List, Bool, true, false, nat_eq, ◌&&◌}
use Rattle.je_base.specs.Text.{is_same_text}
use Rattle.je_consts.specs.declared.constant.MemberTag.{MemberTag}
use Rattle.je_consts.specs.declared.constant.MemberTag.TheVariants as tags

-- A member by its class, its name and its descriptor. Floats and doubles are kept as their bits.
pub data Content : Type 0 where
  Utf8Text : (text : List ℕ) → Content
  Integer : (value : ℤ) → Content
  Float : (bits : ℕ) → Content
  LongInteger : (value : ℤ) → Content
  Double : (bits : ℕ) → Content
  Class : (name : List ℕ) → Content
  Str : (text : List ℕ) → Content
  Member : (tag : MemberTag) (class name descriptor : List ℕ) → Content
  NameAndType : (name descriptor : List ℕ) → Content
  MethodHandle : (kind : ℕ) (tag : MemberTag) (class name descriptor : List ℕ) → Content
  MethodType : (descriptor : List ℕ) → Content
  InvokeDynamic : (bootstrap : ℕ) (name descriptor : List ℕ) → Content

-- a constant that ldc loads as a reference
abbrev pub is_loadable : Content → Bool
is_loadable (Class name) = true
is_loadable (Str text) = true
is_loadable (MethodHandle kind tag class name descriptor) = true
is_loadable (MethodType descriptor) = true
is_loadable _ = false

abbrev pub is_same_tag : MemberTag → MemberTag → Bool
is_same_tag tags.Field tags.Field = true
is_same_tag tags.Method tags.Method = true
is_same_tag tags.InterfaceMethod tags.InterfaceMethod = true
is_same_tag _ _ = false

-- two constants that ldc loads as one reference: those of equal content
abbrev pub is_same_loaded : Content → Content → Bool
is_same_loaded (Class a) (Class b) = is_same_text a b
is_same_loaded (Str a) (Str b) = is_same_text a b
is_same_loaded (MethodType a) (MethodType b) = is_same_text a b
is_same_loaded (MethodHandle k s c n d) (MethodHandle k' s' c' n' d') =
    nat_eq k k' && is_same_tag s s' && is_same_text c c' && is_same_text n n' && is_same_text d d'
is_same_loaded _ _ = false
