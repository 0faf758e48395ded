-- What constants say, and what instructions are, stays while the pool grows.
use Rattle.std.proofs.Common.{◌≡◌, ℕ, Bool, List, [], ◌∷◌, length, Option, Some, None, refl, ◌⊎◌}
use Rattle.std.proofs.Common.{inl, inr}
use Rattle.std.specs.Prelude.{option_and_then}
use Rattle.std.specs.List.{AllZip}
use Rattle.je_consts.specs.declared.constant.Const.{Const}
use Rattle.je_consts.specs.declared.constant.Const.TheVariants as entry
use Rattle.je_consts.specs.declared.place.Place.{Place}
use Rattle.je_consts.specs.Adding.{Keeps}
use Rattle.je_consts.specs.Pool.{const_at, text_of, text_at, class_of, class_at, name_and_type_of}
use Rattle.je_consts.specs.Pool.{name_and_type_at}
use Rattle.je_instr.specs.declared.instr.Instr.{Instr}
use Rattle.je_instr.specs.declared.instr.Instr.TheVariants as instr
use Rattle.je_consts.specs.declared.constant.MemberTag.TheVariants.{Field, Method, InterfaceMethod}
use Rattle.je_machine.specs.Content.{Content, Class, Str, Member, NameAndType, MethodHandle}
use Rattle.je_machine.specs.Content.{MethodType, InvokeDynamic}
use Rattle.je_instr.specs.Content.{of_text, of_name_and_type, of_member, handle_of, content_of}
use Rattle.je_instr.specs.Content.{content_at, Names}
use Rattle.je_machine.specs.Operation.{Operation, Handler, Program}
use Rattle.je_desc.specs.Names.{IsClassName}
use Rattle.je_instr.specs.declared.program.Decoded.{Decoded}
use Rattle.je_instr.specs.declared.program.Handler as entries
use Rattle.je_instr.specs.declared.program.RawHandler.{RawHandler}
use Rattle.je_instr.specs.CodeProgram.{CodeProgram, Catches, IsHandlerOf}
use Rattle.je_instr.specs.Allowed.{IsClass, IsAllowed}
use Rattle.je_instr.specs.Decoding.{Follow, IsEntry, Decodes}
use Rattle.je_instr.specs.Resolves.{Becomes, Resolves}
use Rattle.je_instr.proofs.ZipLemmas.{zip_each}

-- what the first is, the second is too
abbrev Stays : {A : Type 0} → Option A → Option A → Type 0
Stays {A = A} o p = (x : A) → o ≡ Some x → p ≡ Some x

stays_then : {A B : Type 0} (f g : A → Option B) (o p : Option A) → Stays o p → ((x : A) → Stays (f x) (g x)) → Stays (option_and_then f o) (option_and_then g p)
stays_then f g None p first next y e = absurd cc
stays_then f g (Some x) p first next y e = rw (first x refl) (next x y e)

-- what is made of both is made of it still
stays_made : {A B : Type 0} (f : A → Option B) (o p : Option A) → Stays o p → Stays (option_and_then f o) (option_and_then f p)
stays_made f o p stays = stays_then f f o p stays (λ x y e. e)

module _ (old new : List Place) (keeps : Keeps old new) where
  const_stays : (i : ℕ) → Stays (const_at old i) (const_at new i)
  const_stays i = keeps.content i

  text_stays : (i : ℕ) → Stays (text_at old i) (text_at new i)
  text_stays i = stays_made text_of (const_at old i) (const_at new i) (const_stays i)

  class_of_stays : (c : Const) → Stays (class_of old c) (class_of new c)
  class_of_stays (entry.Class n) t e = text_stays n t e
  class_of_stays _ t e = e

  class_stays : (i : ℕ) → Stays (class_at old i) (class_at new i)
  class_stays i = stays_then (class_of old) (class_of new) (const_at old i) (const_at new i) (const_stays i) class_of_stays

  pair_of_stays : (c : Const) → Stays (name_and_type_of old c) (name_and_type_of new c)
  pair_of_stays (entry.NameAndType n d) =
      stays_then (λ (s : List ℕ). option_and_then (λ (t : List ℕ). Some (s, t)) (text_at old d)) (λ (s : List ℕ). option_and_then (λ (t : List ℕ). Some (s, t)) (text_at new d)) (text_at old n) (text_at new n) (text_stays n)
      (λ s. stays_made (λ (t : List ℕ). Some (s, t)) (text_at old d) (text_at new d) (text_stays d))
  pair_of_stays _ = λ t e. e

  pair_stays : (i : ℕ) → Stays (name_and_type_at old i) (name_and_type_at new i)
  pair_stays i = stays_then (name_and_type_of old) (name_and_type_of new) (const_at old i) (const_at new i) (const_stays i) pair_of_stays

  of_text_stays : (made : List ℕ → Content) (i : ℕ) → Stays (of_text made old i) (of_text made new i)
  of_text_stays made i = stays_made (λ (t : List ℕ). Some (made t)) (text_at old i) (text_at new i) (text_stays i)

  of_pair_stays : (made : List ℕ → List ℕ → Content) (i : ℕ) → Stays (of_name_and_type made old i) (of_name_and_type made new i)
  of_pair_stays made i = stays_made (λ (m : List ℕ × List ℕ). Some (made m.0 m.1)) (name_and_type_at old i) (name_and_type_at new i) (pair_stays i)

  of_member_stays : (made : List ℕ → List ℕ → List ℕ → Content) (class member : ℕ) → Stays (of_member made old class member) (of_member made new class member)
  of_member_stays made class member =
      stays_then (λ (c : List ℕ). of_name_and_type (made c) old member) (λ (c : List ℕ). of_name_and_type (made c) new member) (class_at old class) (class_at new class) (class_stays class) (λ c. of_pair_stays (made c) member)

  handle_stays : (kind : ℕ) (c : Const) → Stays (handle_of kind old c) (handle_of kind new c)
  handle_stays kind (entry.Field class member) = of_member_stays (MethodHandle kind Field) class member
  handle_stays kind (entry.Method class member) = of_member_stays (MethodHandle kind Method) class member
  handle_stays kind (entry.InterfaceMethod class member) = of_member_stays (MethodHandle kind InterfaceMethod) class member
  handle_stays kind _ = λ t e. e

  content_of_stays : (c : Const) → Stays (content_of old c) (content_of new c)
  content_of_stays (entry.Utf8 text) = λ t e. e
  content_of_stays (entry.Integer n) = λ t e. e
  content_of_stays (entry.Float bits) = λ t e. e
  content_of_stays (entry.Long n) = λ t e. e
  content_of_stays (entry.Double bits) = λ t e. e
  content_of_stays (entry.Class name) = of_text_stays Class name
  content_of_stays (entry.Str text) = of_text_stays Str text
  content_of_stays (entry.Field class member) = of_member_stays (Member Field) class member
  content_of_stays (entry.Method class member) = of_member_stays (Member Method) class member
  content_of_stays (entry.InterfaceMethod class member) = of_member_stays (Member InterfaceMethod) class member
  content_of_stays (entry.NameAndType name descriptor) =
      stays_then (λ (n : List ℕ). of_text (NameAndType n) old descriptor) (λ (n : List ℕ). of_text (NameAndType n) new descriptor) (text_at old name) (text_at new name) (text_stays name)
      (λ n. of_text_stays (NameAndType n) descriptor)
  content_of_stays (entry.MethodHandle kind member) =
      stays_then (handle_of kind old) (handle_of kind new) (const_at old member) (const_at new member) (const_stays member) (handle_stays kind)
  content_of_stays (entry.MethodType descriptor) = of_text_stays MethodType descriptor
  content_of_stays (entry.InvokeDynamic bootstrap member) = of_pair_stays (InvokeDynamic bootstrap) member

pub content_stays : (old new : List Place) → Keeps old new → (i : ℕ) (content : Content) → content_at old i ≡ Some content → content_at new i ≡ Some content
content_stays old new keeps i =
    stays_then (content_of old) (content_of new) (const_at old i) (const_at new i) (keeps.content i) (content_of_stays old new keeps)

pub allowed_still : (old new : List Place) → Keeps old new → (i : Instr) → IsAllowed old i → IsAllowed new i
allowed_still old new keeps (instr.Simple opcode) h = h
allowed_still old new keeps (instr.IntPush n) h = h
allowed_still old new keeps (instr.Local opcode slot) h = h
allowed_still old new keeps (instr.Iinc slot by) h = h
allowed_still old new keeps (instr.Branch opcode target) h = h
allowed_still old new keeps (instr.Goto target) h = h
allowed_still old new keeps (instr.TableSwitch low targets fallback) h = h
allowed_still old new keeps (instr.LookupSwitch cases fallback) h = h
allowed_still old new keeps (instr.NewArray code) h = h
allowed_still old new keeps (instr.Ldc index) h = (h.0, content_stays old new keeps index h.0 h.1, h.2)
allowed_still old new keeps (instr.Ldc2 index) h = (h.0, content_stays old new keeps index h.0 h.1, h.2)
allowed_still old new keeps (instr.InvokeInterface index count) h = (h.0, content_stays old new keeps index h.0 h.1, h.2)
allowed_still old new keeps (instr.InvokeDynamic index) h = (h.0, content_stays old new keeps index h.0 h.1, h.2)
allowed_still old new keeps (instr.New index) h = (h.0, content_stays old new keeps index h.0 h.1, h.2)
allowed_still old new keeps (instr.ANewArray index) h = (h.0, content_stays old new keeps index h.0 h.1, h.2)
allowed_still old new keeps (instr.CheckCast index) h = (h.0, content_stays old new keeps index h.0 h.1, h.2)
allowed_still old new keeps (instr.InstanceOf index) h = (h.0, content_stays old new keeps index h.0 h.1, h.2)
allowed_still old new keeps (instr.MultiNew index count) h = (h.0, content_stays old new keeps index h.0 h.1, h.2)
allowed_still old new keeps (instr.Field opcode index) h = (h.0, (h.1.0, content_stays old new keeps index h.1.0 h.1.1, h.1.2))
allowed_still old new keeps (instr.Invoke opcode index) h = (h.0, h.1, (h.2.0, content_stays old new keeps index h.2.0 h.2.1, h.2.2))

becomes_still : (old new : List Place) → Keeps old new → (i : Instr) (operation : Operation) → Becomes old i operation → Becomes new i operation
becomes_still old new keeps (instr.Simple opcode) operation h = h
becomes_still old new keeps (instr.IntPush n) operation h = h
becomes_still old new keeps (instr.Local opcode slot) operation h = h
becomes_still old new keeps (instr.Iinc slot by) operation h = h
becomes_still old new keeps (instr.Branch opcode target) operation h = h
becomes_still old new keeps (instr.Goto target) operation h = h
becomes_still old new keeps (instr.TableSwitch low targets fallback) operation h = h
becomes_still old new keeps (instr.LookupSwitch cases fallback) operation h = h
becomes_still old new keeps (instr.NewArray code) operation h = h
becomes_still old new keeps (instr.Ldc index) operation h = (h.0, content_stays old new keeps index h.0 h.1, h.2)
becomes_still old new keeps (instr.Ldc2 index) operation h = (h.0, content_stays old new keeps index h.0 h.1, h.2)
becomes_still old new keeps (instr.InvokeInterface index count) operation h = (h.0, content_stays old new keeps index h.0 h.1, h.2)
becomes_still old new keeps (instr.InvokeDynamic index) operation h = (h.0, content_stays old new keeps index h.0 h.1, h.2)
becomes_still old new keeps (instr.New index) operation h = (h.0, content_stays old new keeps index h.0 h.1, h.2)
becomes_still old new keeps (instr.ANewArray index) operation h = (h.0, content_stays old new keeps index h.0 h.1, h.2)
becomes_still old new keeps (instr.CheckCast index) operation h = (h.0, content_stays old new keeps index h.0 h.1, h.2)
becomes_still old new keeps (instr.InstanceOf index) operation h = (h.0, content_stays old new keeps index h.0 h.1, h.2)
becomes_still old new keeps (instr.MultiNew index count) operation h = (h.0, content_stays old new keeps index h.0 h.1, h.2)
becomes_still old new keeps (instr.Field opcode index) operation h = (h.0, content_stays old new keeps index h.0 h.1, h.2)
becomes_still old new keeps (instr.Invoke opcode index) operation h = (h.0, h.1, (h.2.0, content_stays old new keeps index h.2.0 h.2.1, h.2.2))

pub resolves_still : (old new : List Place) → Keeps old new → (i : Instr) (operation : Operation) → Resolves old i operation → Resolves new i operation
resolves_still old new keeps i operation h = record { allowed = allowed_still old new keeps i h.allowed; becomes = becomes_still old new keeps i operation h.becomes }

pub all_resolve_still : (old new : List Place) → Keeps old new → (instrs : List Instr) (operations : List Operation) → AllZip (Resolves old) instrs operations → AllZip (Resolves new) instrs operations
all_resolve_still old new keeps [] [] h = tt
all_resolve_still old new keeps [] (o ∷ operations) h = absurd h
all_resolve_still old new keeps (i ∷ instrs) [] h = absurd h
all_resolve_still old new keeps (i ∷ instrs) (o ∷ operations) h =
    (resolves_still old new keeps i o h.0, all_resolve_still old new keeps instrs operations h.1)

catches_still : (old new : List Place) → Keeps old new → (index : ℕ) (class : Option (List ℕ)) → Catches old index class → Catches new index class
catches_still old new keeps index None h = h
catches_still old new keeps index (Some name) h = (content_stays old new keeps index (Class name) h.0, h.1)

handler_still : (old new : List Place) → Keeps old new → (e : entries.Handler) (h : Handler)
    → IsHandlerOf old e h → IsHandlerOf new e h
handler_still old new keeps e h is = record {
  start = is.start;
  end = is.end;
  target = is.target;
  catches = catches_still old new keeps e.catch_const h.catch_class is.catches;
}

-- ---- what is decoded

module _ (old new : List Place) (keeps : Keeps old new) where
  follow_still : (code : List ℕ) (at : ℕ) (is : List Instr) (os : List ℕ) (end : ℕ)
      → Follow old code at is os end → Follow new code at is os end
  follow_still code at [] [] end h = h
  follow_still code at (i ∷ is) (o ∷ os) end h = (
    h.0,
    h.1,
    record { form = h.2.form; allowed = allowed_still old new keeps i h.2.allowed },
    follow_still code h.1 is os end h.3,
  )
  follow_still code at [] (o ∷ os) end h = absurd h
  follow_still code at (i ∷ is) [] end h = absurd h

  class_still : (index : ℕ) → (index ≡ 0) ⊎ Names old index (IsClass IsClassName)
      → (index ≡ 0) ⊎ Names new index (IsClass IsClassName)
  class_still index (inl all) = inl all
  class_still index (inr (content, here, is)) =
      inr (content, content_stays old new keeps index content here, is)

  entry_still : (starts : List ℕ) (size : ℕ) (raw : RawHandler) (e : entries.Handler)
      → IsEntry old starts size raw e → IsEntry new starts size raw e
  entry_still starts size raw e is = record {
    start = is.start;
    end = is.end;
    target = is.target;
    some = is.some;
    catch_const = is.catch_const;
    class = class_still raw.catch_const is.class;
  }

  pub decodes_still : (code : List ℕ) (table : List RawHandler) (d : Decoded)
      → Decodes old code table d → Decodes new code table d
  decodes_still code table d is = record {
    located = is.located;
    starts = is.starts;
    follow = follow_still code 0 is.located is.starts (length code) is.follow;
    offsets = is.offsets;
    instrs = is.instrs;
    handlers =
        zip_each (IsEntry old is.starts (length code)) (IsEntry new is.starts (length code))
        (entry_still is.starts (length code)) table d.program.handlers is.handlers;
  }

  pub program_still : (is_static : Bool) (text code : List ℕ) (table : List RawHandler)
      (p : Program) → CodeProgram old is_static text code table p
      → CodeProgram new is_static text code table p
  program_still is_static text code table p is = record {
    types = is.types;
    descriptor = is.descriptor;
    parameters = is.parameters;
    decoded = is.decoded;
    decodes = decodes_still code table is.decoded is.decodes;
    resolved = all_resolve_still old new keeps is.decoded.program.instrs p.operations is.resolved;
    handlers =
        zip_each (IsHandlerOf old) (IsHandlerOf new) (handler_still old new keeps)
        is.decoded.program.handlers p.handlers is.handlers;
  }
