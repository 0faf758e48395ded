-- An edited class against its source.
use Rattle.std.proofs.Common.{◌≡◌, ◌≢◌, ℕ, zero, suc, ◌+◌, ◌<◌, List, [], ◌∷◌, length, Option, Some, None, refl, sym, ap, subst, ◌∙◌, ◌⊎◌, inl, inr, arith}
use Rattle.std.specs.Prelude.{slice_get, slice_index, codes, count_by, is_some, true, IsBitSet, option_and_then}
use Rattle.std.specs.List.{AllZip}
use Rattle.std.proofs.lemmas.List.{append-nil}
use Rattle.std.proofs.lemmas.Option.{slice_get_past}
use Rattle.je_consts.specs.declared.constant.Const.{Const}
use Rattle.je_consts.specs.declared.place.Place.{Place}
use Rattle.je_consts.specs.Pool.{entry_of, const_at, text_at}
use Rattle.je_class.specs.declared.member.Attribute.{Attribute}
use Rattle.je_class.specs.declared.member.Member.{Member}
use Rattle.je_class.specs.Class.{Class, changed_at, with_bytes, with_attribute, with_method_attribute}
use Rattle.je_machine.specs.Operation.{Program}
use Rattle.je_instr.specs.declared.program.Decoded.{Decoded}
use Rattle.je_instr.specs.Assembling.{placed}
use Rattle.je_instr.specs.CodeProgram.{IsHandlerOf}
use Rattle.je_instr.specs.Decoding.{Decodes}
use Rattle.je_instr.specs.Resolves.{Resolves}
use Rattle.je_code.specs.declared.attr.CodeAttr.{CodeAttr}
use Rattle.je_code.specs.declared.rows.Tables.{Tables}
use Rattle.je_code.specs.Code.{Code, CodeBytes}
use Rattle.je_code.specs.Moved.{moved}
use Rattle.je_code.specs.Named.{IsNamed, tables_of}
use Rattle.je_session.specs.declared.plan.Fragment.{Fragment}
use Rattle.je_session.specs.declared.plan.MethodPlan.{MethodPlan}
use Rattle.je_session.specs.Agrees.{Agrees}
use Rattle.je_session.specs.Chosen.{matched}
use Rattle.je_session.specs.ClassEdit.{IsPlanEdit, plan_edit}
use Rattle.je_session.specs.Editable.{IsEditable}
use Rattle.je_session.specs.EditedMethod.{EditedMethod}
use Rattle.je_session.specs.KeepsLines.{KeepsLines}
use Rattle.je_session.specs.Kept.{IsPlanOf, IsPlanned, KeepsConsts, KeepsAttribute, HasTablesAlone, KeepsMethod, Kept}
use Rattle.je_session.specs.ProgramOf.{ProgramOf}
use Rattle.je_session.specs.Splice.{AreChosen, IsNewCode, new_instrs, new_places}
use Rattle.je_session.proofs.AgreesLemmas.{Laws, plain_program, agrees}
use Rattle.je_session.proofs.EditableLemmas.{OpcodeLaws, IsCodeAt-one, plain_descriptor}
use Rattle.je_session.proofs.IndexMapLemmas.{new_index, index_map, all_pieces, place_is, new_instrs-long}
use Rattle.je_session.proofs.PlaceLemmas.{same_or_other, slice_get-changed_at, slice_get-changed_at_other, length-changed_at, one_place}
use Rattle.je_session.proofs.ProgramLemmas.{OneProgram, some_one}
use Rattle.je_session.proofs.RowLemmas.{moved-same}
use Rattle.je_session.proofs.SourceLemmas.{named, source_program, of_source, source_plain, count_is, counts_matched, operation_each}
use Rattle.je_session.proofs.SpliceLemmas.{new_instrs-unchosen, AllZip-new_instrs}

-- constants that stay
KeepsConsts-same : (old new : Class) (plans : List MethodPlan) → new.consts ≡ old.consts → KeepsConsts old plans new
KeepsConsts-same old new plans same = record {
  added = ([], same ∙ sym (append-nil old.consts));
  needed = λ k c past here. absurd (no_entry k past (subst (λ l. const_at l k ≡ Some c) same here));
  new_entry = λ k j c past here there. absurd (no_entry k past (subst (λ l. const_at l k ≡ Some c) same here));
}
  where
    none : (k : ℕ) → length old.consts < k → const_at old.consts k ≡ None
    none zero past = absurd (omega arith)
    none (suc i) past = ap (option_and_then entry_of) (slice_get_past old.consts i (omega arith))

    no_entry : (k : ℕ) → length old.consts < k → {c : Const} → const_at old.consts k ≡ Some c → ⊥
    no_entry k past here = let missing = none k past in absurd cc

-- The method at the place, once it is edited: its code is the old one's, spliced, and where something is chosen it has its tables alone.
pub record IsNewMethod (consts : List Place) (attribute : Attribute) (old_code : CodeAttr) (chosen : List (Option Fragment)) (old new : Member) : Type 0 where
  pub access : new.access ≡ old.access
  pub name : new.name ≡ old.name
  pub descriptor : new.descriptor ≡ old.descriptor
  pub bytes : List ℕ
  pub attributes : new.attributes ≡ with_bytes bytes attribute ∷ []
  pub code : Code
  pub is_code : CodeBytes bytes code
  pub decoded : Decoded
  pub decodes : Decodes consts code.code code.handlers decoded
  pub instrs : decoded.program.instrs ≡ new_instrs chosen old_code.decoded.program.instrs
  pub no_handlers : decoded.program.handlers ≡ []
  pub max_stack : code.max_stack ≡ old_code.max_stack
  pub max_locals : code.max_locals ≡ old_code.max_locals
  pub tables : count_by is_some chosen ≢ 0 → AllZip (IsNamed consts) (tables_of decoded.offsets (moved (slice_index (new_places 0 chosen old_code.decoded.program.instrs)) (length decoded.program.instrs) old_code)) code.attributes
  pub unchosen : count_by is_some chosen ≡ 0 → new ≡ old

-- The methods, of which the one at the place is another.
pub record AreNewMethods (at : ℕ) (new : Member) (olds news : List Member) : Type 0 where
  pub count : length news ≡ length olds
  pub here : slice_get news at ≡ Some new
  pub others : (k : ℕ) → k ≢ at → slice_get news k ≡ slice_get olds k

module _ (one : OneProgram) (opcodes : OpcodeLaws) (c : Class) (plan : MethodPlan) (at : ℕ) (code : CodeAttr) (chosen : List (Option Fragment)) (e : IsEditable c plan.name at code)
    (a : AreChosen c.consts plan.rules code.decoded.program.instrs chosen) (new : Member) (news : List Member) (is_new : IsNewMethod c.consts e.code_of.attribute code chosen e.method new)
    (are_new : AreNewMethods at new c.methods news) where
  abbrev edited : Class
  edited = record c { methods = news }

  abbrev new_program : Program
  new_program = plain_program (new_instrs chosen a.operations)

  of_edited : ProgramOf edited new new_program
  of_edited = record {
    is_static = true;
    flag = (λ _. subst (λ n. IsBitSet n 3) (sym is_new.access) e.code_of.one.static, λ _. refl);
    text = codes "()V";
    descriptor = ap (text_at c.consts) is_new.descriptor ∙ (named opcodes c plan at code chosen e a).descriptor_is;
    at = 0;
    attribute = with_bytes is_new.bytes e.code_of.attribute;
    is_code = IsCodeAt-one c.consts new.attributes (with_bytes is_new.bytes e.code_of.attribute) is_new.attributes e.code_of.one.is_code;
    code = is_new.code;
    bytes = is_new.is_code;
    of_code = record {
      types = record { params = []; result = None };
      descriptor = plain_descriptor;
      parameters = refl;
      decoded = is_new.decoded;
      decodes = is_new.decodes;
      resolved = subst (λ l. AllZip (Resolves c.consts) l (new_instrs chosen a.operations)) (sym is_new.instrs) (AllZip-new_instrs (Resolves c.consts) chosen code.decoded.program.instrs a.operations a.resolved);
      handlers = subst (λ l. AllZip (IsHandlerOf c.consts) l []) (sym is_new.no_handlers) tt;
    };
  }

  -- the method of the plan, before and after
  abbrev edited_method : EditedMethod c edited plan
  edited_method = record {
    at = at;
    is_planned = e.is_method;
    old_method = e.method;
    in_before = e.here;
    old_program = source_program opcodes c plan at code chosen e a;
    of_old = of_source opcodes c plan at code chosen e a;
    new_method = new;
    in_after = are_new.here;
    new_program = new_program;
    of_new = of_edited;
  }

  method_agrees : Laws → Agrees (source_program opcodes c plan at code chosen e a) plan new_program
  method_agrees laws =
      subst (λ l. Agrees (plain_program a.operations) plan (plain_program l)) (sym (ap (λ l. new_instrs l a.operations) a.chosen_is))
      (agrees laws plan a.operations (source_plain opcodes c plan at code chosen e a))

  -- the rows that are written are those where the operations went
  rows_are : moved (slice_index (new_places 0 chosen code.decoded.program.instrs)) (length is_new.decoded.program.instrs) code
      ≡ moved (λ i. new_index plan.rules i a.operations) (length (new_instrs chosen a.operations)) code
  rows_are =
      let each = operation_each opcodes c plan at code chosen e a in
      let count : length is_new.decoded.program.instrs ≡ length (new_instrs chosen a.operations) = ap length is_new.instrs ∙ new_instrs-long chosen code.decoded.program.instrs a.operations (sym each) in
      ap (λ n. moved (slice_index (new_places 0 chosen code.decoded.program.instrs)) n code) count
      ∙ moved-same (slice_index (new_places 0 chosen code.decoded.program.instrs)) (λ i. new_index plan.rules i a.operations) (length (new_instrs chosen a.operations)) code
      (λ i le. rw a.chosen_is (place_is plan.rules 0 i a.operations code.decoded.program.instrs each le ∙ omega arith)) e.code_of.rows

  keeps_lines : KeepsLines c edited plan edited_method
  unfolding of_edited
  keeps_lines =
      let new_is = ap (λ l. new_instrs l a.operations) a.chosen_is in
      let count = count_is opcodes c plan at code chosen e a in
      record {
        to = λ i. new_index plan.rules i a.operations;
        upto = λ i. new_index plan.rules (i + 1) a.operations;
        is_map = index_map (source_program opcodes c plan at code chosen e a) new_program plan.rules (source_plain opcodes c plan at code chosen e a) new_is;
        all_pieces = all_pieces (source_program opcodes c plan at code chosen e a) new_program plan.rules new_is;
        old_code = code;
        of_before = e.code_of.is_attr;
        of_after = λ some. subst (λ (t : Tables). AllZip (IsNamed c.consts) (tables_of is_new.decoded.offsets t) is_new.code.attributes) rows_are (is_new.tables (λ none. some (sym count ∙ none)));
        unchosen = λ none. is_new.unchosen (count ∙ none);
      }

  tables_alone : count_by is_some chosen ≢ 0 → HasTablesAlone c.consts new
  tables_alone some = record {
    at = 0;
    attribute = with_bytes is_new.bytes e.code_of.attribute;
    is_code = IsCodeAt-one c.consts new.attributes (with_bytes is_new.bytes e.code_of.attribute) is_new.attributes e.code_of.one.is_code;
    code = is_new.code;
    bytes = is_new.is_code;
    offsets = is_new.decoded.offsets;
    tables = moved (slice_index (new_places 0 chosen code.decoded.program.instrs)) (length is_new.decoded.program.instrs) code;
    alone = is_new.tables some;
  }

  keeps_attributes : AllZip (KeepsAttribute c.consts) e.method.attributes new.attributes
  keeps_attributes = rw (e.code_of.one.attributes, is_new.attributes) (inr (e.code_of.one.is_code, refl), tt)

  plan_is : (k : ℕ) (plan' : MethodPlan) → slice_get (plan ∷ []) k ≡ Some plan' → plan' ≡ plan
  plan_is zero plan' here = cc
  plan_is (suc k) plan' here = absurd cc

  place_is_one : (at' : ℕ) → IsPlanned c (plan ∷ []) at' → at' ≡ at
  place_is_one at' (plan', k, here, is_plan) =
      one_place c plan.name (codes "()V") at' at (subst (λ (p : MethodPlan). IsPlanOf c at' p) (plan_is k plan' here) is_plan) e.is_method

  -- the method at the place
  keeps_here : (m n : Member) → m ≡ e.method → n ≡ new → KeepsMethod c (plan ∷ []) edited at m n
  keeps_here m n m_is n_is =
      let counts = λ (k : ℕ) (plan' : MethodPlan) (program : Program) (here : slice_get (plan ∷ []) k ≡ Some plan') (of : ProgramOf c e.method program).
      counts_matched opcodes c plan at code chosen e a one at e.method program e.is_method e.here of ∙ ap (λ (p : MethodPlan). matched program p.rules) (sym (plan_is k plan' here)) in
      rw (m_is, n_is) (record {
        unplanned = λ no. absurd (no (plan, 0, refl, e.is_method));
        planned = λ is. record { access = is_new.access; name = is_new.name; descriptor = is_new.descriptor; attributes = keeps_attributes };
        unchosen = λ k plan' program here is_plan of none. is_new.unchosen (counts k plan' program here of ∙ none);
        chosen = λ k plan' program here is_plan of some. tables_alone (λ none. some (sym (counts k plan' program here of) ∙ none));
      })

  keeps_method : (at' : ℕ) (m n : Member) → slice_get c.methods at' ≡ Some m → slice_get news at' ≡ Some n → (at' ≡ at) ⊎ (at' ≢ at) → KeepsMethod c (plan ∷ []) edited at' m n
  keeps_method at' m n old_here new_here (inl same) =
      let m_is = some_one (slice_get c.methods at) m e.method (subst (λ k. slice_get c.methods k ≡ Some m) same old_here) e.here in
      let n_is = some_one (slice_get news at) n new (subst (λ k. slice_get news k ≡ Some n) same new_here) are_new.here in
      subst (λ k. KeepsMethod c (plan ∷ []) edited k m n) (sym same) (keeps_here m n (sym m_is) (sym n_is))
  keeps_method at' m n old_here new_here (inr other) =
      let same : n ≡ m = some_one (slice_get c.methods at') m n old_here (sym (are_new.others at' other) ∙ new_here) in
      record {
        unplanned = λ no. same;
        planned = λ is. absurd (other (place_is_one at' is));
        unchosen = λ k plan' program here is_plan of none. same;
        chosen = λ k plan' program here is_plan of some. absurd (other (place_is_one at' (plan', k, here, is_plan)));
      }

  kept : Kept c (plan ∷ []) edited
  kept = record {
    minor = refl;
    major = refl;
    consts = KeepsConsts-same c edited (plan ∷ []) refl;
    access = refl;
    this_class = refl;
    super_class = refl;
    interfaces = refl;
    fields = refl;
    count = are_new.count;
    methods = λ at' m n old_here new_here. keeps_method at' m n old_here new_here (same_or_other at' at);
    attributes = refl;
  }

  pub plan_edited : Laws → IsPlanEdit (plan_edit plan c edited (count_by is_some chosen))
  unfolding of_edited
  plan_edited laws = record {
    method = edited_method;
    agrees = method_agrees laws;
    lines = keeps_lines;
    kept = kept;
    count = count_is opcodes c plan at code chosen e a;
    max_stack = is_new.max_stack ∙ e.code_of.is_attr.max_stack;
    max_locals = is_new.max_locals ∙ e.code_of.is_attr.max_locals;
  }

-- a class that nothing is chosen in
pub unchosen_edited : (one : OneProgram) (laws : Laws) (opcodes : OpcodeLaws) (c : Class) (plan : MethodPlan) (at : ℕ) (code : CodeAttr) (chosen : List (Option Fragment))
    → IsEditable c plan.name at code → AreChosen c.consts plan.rules code.decoded.program.instrs chosen → count_by is_some chosen ≡ 0 → IsPlanEdit (plan_edit plan c c (count_by is_some chosen))
unchosen_edited one laws opcodes c plan at code chosen e a none =
    let attr = e.code_of.is_attr in
    let is_new : IsNewMethod c.consts e.code_of.attribute code chosen e.method e.method = record {
      access = refl;
      name = refl;
      descriptor = refl;
      bytes = e.code_of.attribute.bytes;
      attributes = e.code_of.one.attributes;
      code = attr.code;
      is_code = attr.bytes;
      decoded = code.decoded;
      decodes = attr.decodes;
      instrs = sym (new_instrs-unchosen chosen code.decoded.program.instrs none);
      no_handlers = e.code_of.no_handlers;
      max_stack = sym attr.max_stack;
      max_locals = sym attr.max_locals;
      tables = λ some. absurd (some none);
      unchosen = λ _. refl;
    } in
    let are_new : AreNewMethods at e.method c.methods c.methods = record { count = refl; here = e.here; others = λ k other. refl } in
    plan_edited one opcodes c plan at code chosen e a e.method c.methods is_new are_new laws

-- a class in which the code of the plan's method is spliced
pub spliced_edited : (one : OneProgram) (laws : Laws) (opcodes : OpcodeLaws) (c : Class) (plan : MethodPlan) (at : ℕ) (code : CodeAttr) (chosen : List (Option Fragment))
    → IsEditable c plan.name at code → AreChosen c.consts plan.rules code.decoded.program.instrs chosen → (count_by is_some chosen ≡ 0 → ⊥) → (bytes : List ℕ) → IsNewCode c.consts code chosen bytes
    → IsPlanEdit (plan_edit plan c (with_method_attribute at 0 bytes c) (count_by is_some chosen))
spliced_edited one laws opcodes c plan at code chosen e a some bytes made =
    let new = with_attribute 0 bytes e.method in
    let news = changed_at at (with_attribute 0 bytes) c.methods in
    let decoded = placed made.program made.assembled in
    let is_new : IsNewMethod c.consts e.code_of.attribute code chosen e.method new = record {
      access = refl;
      name = refl;
      descriptor = refl;
      bytes = bytes;
      attributes = ap (changed_at 0 (with_bytes bytes)) e.code_of.one.attributes;
      code = made.written.code;
      is_code = made.written.is_code;
      decoded = decoded;
      decodes = subst (λ l. Decodes c.consts l made.written.code.handlers decoded) (sym made.written.code_is)
          (subst (λ l. Decodes c.consts made.assembled.code l decoded) (sym made.written.handlers_are) made.decodes);
      instrs = made.instrs;
      no_handlers = made.no_handlers;
      max_stack = made.written.stack_is;
      max_locals = made.written.locals_are;
      tables = λ _. subst (λ l. AllZip (IsNamed c.consts) l made.written.code.attributes) (append-nil _) made.written.attributes;
      unchosen = λ none. absurd (some none);
    } in
    let are_new : AreNewMethods at new c.methods news = record {
      count = length-changed_at at (with_attribute 0 bytes) c.methods;
      here = slice_get-changed_at at (with_attribute 0 bytes) c.methods e.method e.here;
      others = λ k other. slice_get-changed_at_other at k (with_attribute 0 bytes) c.methods other;
    } in
    plan_edited one opcodes c plan at code chosen e a new news is_new are_new laws
