-- The form of a method that can be edited, from its instructions and from its program.
use Rattle.std.proofs.Common.{◌≡◌, ◌≢◌, ℕ, List, [], ◌∷◌, ◌++◌, length, get_or, Some, None, inl, inr, refl, sym, ap, subst, ◌∙◌, arith}
use Rattle.std.specs.Prelude.{◌↔◌, slice_get, codes}
use Rattle.std.specs.List.{AllByRecursion, AllZip}
use Rattle.std.proofs.lemmas.Option.{slice_get_within, slice_get_read, get_or_from_slice_get}
use Rattle.je_consts.specs.declared.place.Place.{Place}
use Rattle.je_class.specs.declared.member.Attribute.{Attribute}
use Rattle.je_class.specs.declared.member.Member.{Member}
use Rattle.je_class.specs.Class.{Class, IsNamed, IsMethodAt}
use Rattle.je_desc.specs.Descriptor.{MethodTypes, SpellsMethod}
use Rattle.je_consts.specs.declared.constant.MemberTag.TheVariants.{Method}
use Rattle.je_machine.specs.Content.{Content}
use Rattle.je_machine.specs.Content as content
use Rattle.je_machine.specs.Action.{Static, Invoke}
use Rattle.je_machine.specs.Operation.{Nop, Act, Operation, Do, Return}
use Rattle.je_instr.specs.declared.instr.Instr.{Instr}
use Rattle.je_instr.specs.declared.instr.Instr.TheVariants as instr
use Rattle.je_instr.specs.declared.opcodes.TheConstants as op
use Rattle.je_instr.specs.declared.fault.CodeFault.{CodeFault}
use Rattle.je_instr.specs.declared.program.Decoded.{Decoded}
use Rattle.je_instr.specs.declared.program.RawHandler.{RawHandler}
use Rattle.je_instr.specs.Callee.{IsCallable, IsCallee}
use Rattle.je_instr.specs.Content.{content_at}
use Rattle.je_instr.specs.Decoding.{Decodes, IsEntry}
use Rattle.je_instr.specs.Resolves.{Resolves}
use Rattle.je_code.specs.declared.attr.CodeAttr.{CodeAttr}
use Rattle.je_code.specs.Code.{Code, CodeBytes}
use Rattle.je_code.specs.CodeAttr.{IsCodeAttr}
use Rattle.je_code.specs.Faults.{FirstFault}
use Rattle.je_session.specs.Editable.{HasOneCode, IsDecodedTo, IsPlain, IsReturning, returning}
use Rattle.je_session.specs.Kept.{IsSoFar, MethodForm}
use Rattle.je_session.specs.ProgramOf.{IsCode, IsCodeAt}
use Rattle.je_session.proofs.PlaceLemmas.{one_element, one_place, some_from_some_and}

-- ---- the instructions that are edited so far

-- what they are
pub record OpcodeLaws : Type 0 where
  pub nop : (consts : List Place) (o : Operation) → Resolves consts (instr.Simple op.NOP) o ↔ (o ≡ Do Nop)
  pub leaves : (consts : List Place) (o : Operation) → Resolves consts (instr.Simple op.RETURN) o ↔ (o ≡ Return None)
  pub calls : (consts : List Place) (index : ℕ) (o : Operation) → Resolves consts (instr.Invoke op.INVOKESTATIC index) o
      → (method : Content) × (types : MethodTypes) × (content_at consts index ≡ Some method) × (o ≡ Do (Act (Invoke Static method types)))
  pub callee : (consts : List Place) (index : ℕ) (class name text : List ℕ) (o : Operation) → content_at consts index ≡ Some (content.Member Method class name text)
      → IsCallable class name text → Resolves consts (instr.Invoke op.INVOKESTATIC index) o
      ↔ (o ≡ Do (Act (Invoke Static (content.Member Method class name text) (record { params = []; result = None }))))

-- what holds of these holds of each that is edited so far
pub by_form : (consts : List Place) (P : Instr → Type 0) → P (instr.Simple op.NOP) → P returning → ((index : ℕ) → IsCallee consts index → P (instr.Invoke op.INVOKESTATIC index))
    → (i : Instr) → IsSoFar consts i → P i
by_form consts P nop leaves calls (instr.Simple opcode) (inl e) = subst (λ o. P (instr.Simple o)) (sym e) nop
by_form consts P nop leaves calls (instr.Simple opcode) (inr e) = subst (λ o. P (instr.Simple o)) (sym e) leaves
by_form consts P nop leaves calls (instr.Invoke opcode index) so_far = subst (λ o. P (instr.Invoke o index)) (sym so_far.0) (calls index so_far.1)
by_form consts P nop leaves calls _ so_far = absurd so_far

-- the descriptor of the methods that are edited
pub plain_descriptor : SpellsMethod (codes "()V") (record { params = []; result = None })
plain_descriptor = (record { params = tt; result = tt; within = omega arith }, refl)

module _ (laws : OpcodeLaws) (consts : List Place) where
  -- they are plain
  pub plain_one : (i : Instr) → IsSoFar consts i → (o : Operation) → Resolves consts i o → IsPlain o
  plain_one = by_form consts (λ i. (o : Operation) → Resolves consts i o → IsPlain o)
      (λ o resolves. subst IsPlain (sym ((laws.nop consts o).0 resolves)) tt)
      (λ o resolves. subst IsPlain (sym ((laws.leaves consts o).0 resolves)) tt)
      (λ index callee o resolves. subst IsPlain (sym ((laws.callee consts index callee.0 callee.1 callee.2 o callee.3 callee.4).0 resolves)) (refl, refl))

  pub all_plain : (instrs : List Instr) (operations : List Operation) → AllByRecursion (IsSoFar consts) instrs → AllZip (Resolves consts) instrs operations
      → AllByRecursion IsPlain operations
  all_plain [] [] so_far all = tt
  all_plain [] (o ∷ operations) so_far all = absurd all
  all_plain (i ∷ instrs) [] so_far all = absurd all
  all_plain (i ∷ instrs) (o ∷ operations) so_far all = (plain_one i so_far.0 o all.0, all_plain instrs operations so_far.1 all.1)

  -- what does not return resolves to what does not
  Resolves-no_return : (i : Instr) → IsSoFar consts i → (operation : Operation) → Resolves consts i operation → i ≢ returning → operation ≢ Return None
  Resolves-no_return = by_form consts (λ i. (operation : Operation) → Resolves consts i operation → i ≢ returning → operation ≢ Return None)
      (λ operation resolves other e. let is = (laws.nop consts operation).0 resolves in absurd cc)
      (λ operation resolves other e. other refl)
      (λ index callee operation resolves other e. let is = (laws.calls consts index operation resolves).3 in absurd cc)

  -- what resolves to a return returns
  Resolves-return : (i : Instr) → IsSoFar consts i → Resolves consts i (Return None) → i ≡ returning
  Resolves-return = by_form consts (λ i. Resolves consts i (Return None) → i ≡ returning)
      (λ resolves. let is = (laws.nop consts (Return None)).0 resolves in absurd cc)
      (λ resolves. refl)
      (λ index callee resolves. let is = (laws.calls consts index (Return None) resolves).3 in absurd cc)

-- any number of operations that do not return, and one that does
pub record EndsByReturn (operations : List Operation) : Type 0 where
  pub front : List Operation
  pub last : operations ≡ front ++ Return None ∷ []
  pub no_return : AllByRecursion (λ operation. operation ≢ Return None) front

module _ (laws : OpcodeLaws) (consts : List Place) where
  pub EndsByReturn-resolved : (front : List Instr) (operations : List Operation) → AllByRecursion (λ i. i ≢ returning) front → AllByRecursion (IsSoFar consts) (front ++ returning ∷ [])
      → AllZip (Resolves consts) (front ++ returning ∷ []) operations → EndsByReturn operations
  EndsByReturn-resolved [] [] no_return so_far all = absurd all
  EndsByReturn-resolved [] (o ∷ []) no_return so_far all = record { front = []; last = ap (λ x. x ∷ []) ((laws.leaves consts o).0 all.0); no_return = tt }
  EndsByReturn-resolved [] (o ∷ p ∷ operations) no_return so_far all = absurd all.1
  EndsByReturn-resolved (i ∷ front) [] no_return so_far all = absurd all
  EndsByReturn-resolved (i ∷ front) (o ∷ operations) no_return so_far all =
      let rest = EndsByReturn-resolved front operations no_return.1 so_far.1 all.1 in
      record {
        front = o ∷ rest.front;
        last = ap (λ l. o ∷ l) rest.last;
        no_return = (Resolves-no_return laws consts i so_far.0 o all.0 no_return.0, rest.no_return);
      }

  pub IsReturning-resolved : (instrs : List Instr) (front : List Operation) → AllByRecursion (λ operation. operation ≢ Return None) front → AllByRecursion (IsSoFar consts) instrs
      → AllZip (Resolves consts) instrs (front ++ Return None ∷ []) → IsReturning instrs
  IsReturning-resolved [] [] no_return so_far all = absurd all
  IsReturning-resolved [] (o ∷ front) no_return so_far all = absurd all
  IsReturning-resolved (i ∷ []) [] no_return so_far all = record { front = []; last = ap (λ x. x ∷ []) (Resolves-return laws consts i so_far.0 all.0); no_return = tt }
  IsReturning-resolved (i ∷ j ∷ instrs) [] no_return so_far all = absurd all.1
  IsReturning-resolved (i ∷ instrs) (o ∷ front) no_return so_far all =
      let rest = IsReturning-resolved instrs front no_return.1 so_far.1 all.1 in
      record {
        front = i ∷ rest.front;
        last = ap (λ l. i ∷ l) rest.last;
        no_return = ((λ e. no_return.0 ((laws.leaves consts o).0 (subst (λ x. Resolves consts x o) e all.0))), rest.no_return);
      }

-- a list of one Code
pub IsCodeAt-one : (consts : List Place) (attributes : List Attribute) (a : Attribute) → attributes ≡ a ∷ [] → IsCode consts a → IsCodeAt consts attributes 0 a
IsCodeAt-one consts attributes a one is_code = record {
  here = ap (λ l. slice_get l 0) one;
  is_code = is_code;
  only = λ i other e other_is. let within = slice_get_within attributes i other e in omega (arith, within, ap length one);
}

-- ---- the code of a method of the form

-- each entry of an exception table without entries
pub no_entries : {A B : Type 0} (R : A → B → Type 0) (xs : List A) (ys : List B) → AllZip R xs ys → xs ≡ [] → ys ≡ []
no_entries R [] [] all none = refl
no_entries R [] (y ∷ ys) all none = absurd all
no_entries R (x ∷ xs) ys all none = absurd cc

pub no_entries_back : {A B : Type 0} (R : A → B → Type 0) (xs : List A) (ys : List B) → AllZip R xs ys → ys ≡ [] → xs ≡ []
no_entries_back R [] ys all none = refl
no_entries_back R (x ∷ xs) [] all none = absurd all
no_entries_back R (x ∷ xs) (y ∷ ys) all none = absurd cc

-- a method has one attribute at most that is all of them
pub one_of : (consts : List Place) (m : Member) (a b : Attribute) → HasOneCode consts m a → HasOneCode consts m b → a ≡ b
one_of consts m a b ia ib = let same = sym ia.attributes ∙ ib.attributes in cc

pub IsDecodedTo-form : (c : Class) (name : List ℕ) (f : MethodForm c name) → IsDecodedTo c.consts f.method f.of.of_code.decoded
IsDecodedTo-form c name f = record {
  attribute = f.of.attribute;
  one = record {
    static = f.static;
    attributes = one_element f.method.attributes f.of.at f.of.attribute f.one_attribute f.of.is_code.here;
    is_code = f.of.is_code.is_code;
  };
  code = f.of.code;
  bytes = f.of.bytes;
  decodes = f.of.of_code.decodes;
  no_handlers = f.no_handlers;
}

-- the method at the place of its name is the one of the form
pub method_of_form : (c : Class) (name : List ℕ) (f : MethodForm c name) (at : ℕ) (m : Member) → IsMethodAt c name (codes "()V") at → m ≡ get_or c.methods at m → f.method ≡ m
method_of_form c name f at m is read =
    let here = subst (λ k. slice_get c.methods k ≡ Some f.method) (one_place c name (codes "()V") f.at at f.is_method is) f.here in
    sym (get_or_from_slice_get c.methods at f.method m here) ∙ sym read

-- so its code is read there
pub IsDecodedTo-there : (c : Class) (name : List ℕ) (f : MethodForm c name) (at : ℕ) (m : Member) (consts : List Place) (methods : List Member)
    → IsMethodAt c name (codes "()V") at → consts ≡ c.consts → methods ≡ c.methods → m ≡ get_or methods at m → IsDecodedTo consts m f.of.of_code.decoded
IsDecodedTo-there c name f at m consts methods is consts_are methods_are read =
    let read' : m ≡ get_or c.methods at m = read ∙ ap (λ ms. get_or ms at m) methods_are in
    rw (consts_are, ← method_of_form c name f at m is read') (IsDecodedTo-form c name f)

-- the method that is read at its place
pub method_there : (c : Class) (name descriptor : List ℕ) (at : ℕ) (m : Member) (methods : List Member)
    → IsMethodAt c name descriptor at → methods ≡ c.methods → m ≡ get_or methods at m → slice_get c.methods at ≡ Some m
method_there c name descriptor at m methods is methods_are read =
    let found = some_from_some_and (IsNamed c.consts name descriptor) (slice_get c.methods at) is.here in
    let within = slice_get_within c.methods at found.0 found.1 in
    slice_get_read c.methods (length c.methods) at m refl within (read ∙ ap (λ ms. get_or ms at m) methods_are)

-- the instructions of the form return as they are to
pub IsReturning-form : OpcodeLaws → (c : Class) (name : List ℕ) (f : MethodForm c name) → IsReturning f.of.of_code.decoded.program.instrs
IsReturning-form laws c name f =
    IsReturning-resolved laws c.consts f.of.of_code.decoded.program.instrs f.front f.no_return f.instrs
    (subst (AllZip (Resolves c.consts) f.of.of_code.decoded.program.instrs) f.operations f.of.of_code.resolved)

-- ---- the code that is read

-- what is decoded once and what bytes are
pub record CodeLaws : Type 0 where
  pub layout : (info : List ℕ) (a b : Code) → CodeBytes info a → CodeBytes info b → a ≡ b
  pub no_fault : (consts : List Place) (info : List ℕ) (c : Code) (d : Decoded) (f : CodeFault) → CodeBytes info c → Decodes consts c.code c.handlers d → FirstFault consts info f → ⊥
  pub decoded : (consts : List Place) (code : List ℕ) (table : List RawHandler) (d e : Decoded) → Decodes consts code table d → Decodes consts code table e → d ≡ e

-- bytes that are decoded have no fault
pub no_fault_there : CodeLaws → (consts : List Place) (m : Member) (decoded : Decoded) (attribute : Attribute) (fault : CodeFault) → HasOneCode consts m attribute
    → IsDecodedTo consts m decoded → FirstFault consts attribute.bytes fault → ⊥
no_fault_there laws consts m decoded attribute fault one is faulty =
    laws.no_fault consts attribute.bytes is.code decoded fault
    (subst (λ (a : Attribute). CodeBytes a.bytes is.code) (one_of consts m is.attribute attribute is.one one) is.bytes) is.decodes faulty

-- what is read is what the bytes are decoded to
pub decoded_there : CodeLaws → (consts : List Place) (m : Member) (decoded : Decoded) (attribute : Attribute) (code : CodeAttr) → HasOneCode consts m attribute
    → IsDecodedTo consts m decoded → IsCodeAttr consts attribute.bytes code → code.decoded ≡ decoded
decoded_there laws consts m decoded attribute code one is attr =
    let same : attr.code ≡ is.code = laws.layout attribute.bytes attr.code is.code attr.bytes (subst (λ (a : Attribute). CodeBytes a.bytes is.code) (one_of consts m is.attribute attribute is.one one) is.bytes) in
    laws.decoded consts is.code.code is.code.handlers code.decoded decoded (subst (λ (k : Code). Decodes consts k.code k.handlers code.decoded) same attr.decodes) is.decodes

-- and it has no handlers
pub no_handlers_there : (consts : List Place) (m : Member) (decoded : Decoded) → IsDecodedTo consts m decoded → decoded.program.handlers ≡ []
no_handlers_there consts m decoded is =
    no_entries (IsEntry consts is.decodes.starts (length is.code.code)) is.code.handlers decoded.program.handlers is.decodes.handlers is.no_handlers
