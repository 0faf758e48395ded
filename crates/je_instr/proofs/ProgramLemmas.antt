-- The code and the exception table of a method are one program, where they are decoded.
use Rattle.std.proofs.Common.{◌≡◌, ℕ, Bool, List, [], ◌∷◌, Option, Some, None, refl, sym, ap, subst}
use Rattle.std.proofs.Common.{◌∙◌, inl, inr}
use Rattle.std.specs.List.{AllByRecursion, AllZip}
use Rattle.je_consts.specs.declared.place.Place.{Place}
use Rattle.je_desc.specs.Descriptor.{MethodTypes, SpellsMethod}
use Rattle.je_desc.specs.Names.{IsClassName}
use Rattle.je_machine.specs.Content.{Content, Class}
use Rattle.je_machine.specs.Value.{Kind}
use Rattle.je_machine.specs.Operation.{Operation, Handler, Program}
use Rattle.je_instr.specs.declared.program.Decoded.{Decoded}
use Rattle.je_instr.specs.declared.program.Handler as entries
use Rattle.je_instr.specs.declared.program.RawHandler.{RawHandler}
use Rattle.je_instr.specs.Allowed.{IsClass}
use Rattle.je_instr.specs.Assembling.{IsCaught}
use Rattle.je_instr.specs.CodeProgram.{CodeProgram, IsHandlerOf, Catches, parameters_of}
use Rattle.je_instr.specs.Content.{content_at}
use Rattle.je_instr.specs.Decoding.{Decodes}
use Rattle.je_instr.specs.Resolves.{Resolves}
use Rattle.je_instr.proofs.AgainLemmas.{decoded_allows}
use Rattle.je_instr.proofs.DecodeLemmas.{same_decoded}
use Rattle.je_instr.proofs.DescriptorLemmas.{one_method}
use Rattle.je_instr.proofs.OperationLemmas.{some_is, all_resolve, all_resolve_once}
use Rattle.je_instr.proofs.ZipLemmas.{zip_once}

-- ---- handlers

same_name : (a b : List ℕ) → Class a ≡ Class b → a ≡ b
same_name a b e = cc

no_class : (consts : List Place) (index : ℕ) (name : List ℕ) → index ≡ 0
    → content_at consts index ≡ Some (Class name) → ⊥
no_class consts index name none here =
    let first : content_at consts 0 ≡ Some (Class name) =
    subst (λ (k : ℕ). content_at consts k ≡ Some (Class name)) none here in
    cc

one_catch : (consts : List Place) (index : ℕ) (a b : Option (List ℕ)) → Catches consts index a
    → Catches consts index b → a ≡ b
one_catch consts index None None ha hb = refl
one_catch consts index None (Some n) ha hb = absurd (no_class consts index n ha hb.0)
one_catch consts index (Some m) None ha hb = absurd (no_class consts index m hb ha.0)
one_catch consts index (Some m) (Some n) ha hb =
    ap Some (same_name m n (some_is (Class m) (Class n) (sym ha.0 ∙ hb.0)))

abbrev handler_made : ℕ → ℕ → ℕ → Option (List ℕ) → Handler
handler_made start end target class =
    record { start = start; end = end; target = target; catch_class = class }

one_handler : (consts : List Place) (e : entries.Handler) (g h : Handler)
    → IsHandlerOf consts e g → IsHandlerOf consts e h → g ≡ h
one_handler consts e g h ig ih =
    let class =
    one_catch consts e.catch_const g.catch_class h.catch_class ig.catches ih.catches in
    ap (λ (x : ℕ). handler_made x g.end g.target g.catch_class) (ig.start ∙ sym ih.start)
    ∙ ap (λ (x : ℕ). handler_made h.start x g.target g.catch_class) (ig.end ∙ sym ih.end)
    ∙ ap (λ (x : ℕ). handler_made h.start h.end x g.catch_class) (ig.target ∙ sym ih.target)
    ∙ ap (λ (x : Option (List ℕ)). handler_made h.start h.end h.target x) class

-- each class that may be caught is one
class_caught : (consts : List Place) (index : ℕ) (content : Content)
    → content_at consts index ≡ Some content → IsClass IsClassName content
    → (class : Option (List ℕ)) × Catches consts index class
class_caught consts index (Class name) here is = (Some name, (here, is))
class_caught consts index _ here is = absurd is

caught : (consts : List Place) (e : entries.Handler) → IsCaught consts e
    → (class : Option (List ℕ)) × Catches consts e.catch_const class
caught consts e (inl all) = (None, all)
caught consts e (inr (content, here, is)) =
    class_caught consts e.catch_const content here is

handlers_exist : (consts : List Place) (table : List entries.Handler)
    → AllByRecursion (IsCaught consts) table
    → (hs : List Handler) × AllZip (IsHandlerOf consts) table hs
handlers_exist consts [] h = ([], tt)
handlers_exist consts (e ∷ table) h =
    let class = caught consts e h.0 in
    let rest = handlers_exist consts table h.1 in (
      handler_made e.start e.end e.target class.0 ∷ rest.0,
      (record { start = refl; end = refl; target = refl; catches = class.1 }, rest.1),
    )

-- ---- the whole

abbrev pub program_made : List Kind → List Operation → List Handler → Program
program_made parameters operations handlers =
    record { parameters = parameters; operations = operations; handlers = handlers }

module _ (consts : List Place) (is_static : Bool) (text code : List ℕ) (table : List RawHandler)
  where
    abbrev Is : Program → Type 0
    Is p = CodeProgram consts is_static text code table p

    pub one_code_program : (p q : Program) → Is p → Is q → p ≡ q
    one_code_program p q ip iq =
        let types = one_method text ip.types iq.types ip.descriptor iq.descriptor in
        let parameters = ip.parameters ∙ ap (parameters_of is_static) types ∙ sym iq.parameters in
        let same = same_decoded consts code table ip.decoded iq.decoded ip.decodes iq.decodes in
        let d = iq.decoded.program in
        let resolved =
        subst (λ (d : Decoded). AllZip (Resolves consts) d.program.instrs p.operations)
        same ip.resolved in
        let caught =
        subst (λ (d : Decoded). AllZip (IsHandlerOf consts) d.program.handlers p.handlers)
        same ip.handlers in
        let operations =
        all_resolve_once consts d.instrs p.operations q.operations resolved iq.resolved in
        let handlers =
        zip_once (IsHandlerOf consts) d.handlers p.handlers q.handlers (one_handler consts)
        caught iq.handlers in
        ap (λ (x : List Kind). program_made x p.operations p.handlers) parameters
        ∙ ap (λ (x : List Operation). program_made q.parameters x p.handlers) operations
        ∙ ap (λ (x : List Handler). program_made q.parameters q.operations x) handlers

    pub some_program : (types : MethodTypes) (decoded : Decoded) → SpellsMethod text types
        → Decodes consts code table decoded → (p : Program) × (c : Is p) × (c.decoded ≡ decoded)
    some_program types decoded spells decodes =
        let allows = decoded_allows consts code table decoded decodes in
        let operations = all_resolve consts decoded.program.instrs allows.operands in
        let handlers = handlers_exist consts decoded.program.handlers allows.caught in (
          program_made (parameters_of is_static types) operations.0 handlers.0,
          record {
            types = types;
            descriptor = spells;
            parameters = refl;
            decoded = decoded;
            decodes = decodes;
            resolved = operations.1;
            handlers = handlers.1;
          },
          refl,
        )
