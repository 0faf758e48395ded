-- The method that a plan edits, before its edit.
use Rattle.std.proofs.Common.{◌≡◌, ℕ, ◌+◌, ◌<◌, List, [], ◌∷◌, ◌++◌, length, Option, Some, None, refl, sym, ap, subst, ◌∙◌, arith}
use Rattle.std.specs.Prelude.{slice_get, codes, if◌then◌else◌, map, count_by, is_some, true, IsSomeAnd}
use Rattle.std.specs.List.{AllByRecursion, AllZip}
use Rattle.std.specs.Option.{option_map}
use Rattle.std.proofs.lemmas.List.{length-map}
use Rattle.std.proofs.lemmas.Slice.Zip.{AllZip-long}
use Rattle.je_consts.specs.declared.place.Place.{Place}
use Rattle.je_class.specs.declared.member.Member.{Member}
use Rattle.je_class.specs.Class.{Class, IsNamed}
use Rattle.je_machine.specs.Operation.{Operation, Program}
use Rattle.je_instr.specs.declared.instr.Instr.{Instr}
use Rattle.je_instr.specs.Allowed.{IsAllowed}
use Rattle.je_instr.specs.CodeProgram.{IsHandlerOf}
use Rattle.je_instr.specs.Decoding.{IsEntry}
use Rattle.je_instr.specs.Resolves.{Resolves}
use Rattle.je_code.specs.declared.attr.CodeAttr.{CodeAttr}
use Rattle.je_session.specs.declared.plan.Fragment.{Fragment}
use Rattle.je_session.specs.declared.plan.Fragment.TheVariants.{Empty, Proceed}
use Rattle.je_session.specs.declared.plan.MethodPlan.{MethodPlan}
use Rattle.je_session.specs.declared.plan.Rule.{Rule}
use Rattle.je_session.specs.Chosen.{chosen_rule, matched}
use Rattle.je_session.specs.Editable.{IsEditable, IsPlain, returning}
use Rattle.je_session.specs.Kept.{IsPlanOf, IsSoFar, MethodForm}
use Rattle.je_session.specs.ProgramOf.{ProgramOf}
use Rattle.je_session.specs.Splice.{AreChosen, CanBeSpliced, new_instrs, chosen_fragment}
use Rattle.je_session.proofs.AgreesLemmas.{plain_program}
use Rattle.je_session.proofs.ChosenLemmas.{chosen_fragment-Return}
use Rattle.je_session.proofs.EditableLemmas.{OpcodeLaws, EndsByReturn-resolved, IsCodeAt-one, all_plain, no_entries_back, plain_descriptor}
use Rattle.je_session.proofs.PlaceLemmas.{one_place}
use Rattle.je_session.proofs.ProgramLemmas.{OneProgram, some_one}
use Rattle.je_session.proofs.SpliceLemmas.{count_by-cons}

-- ---- counting

is_some-option_map : {A B : Type 0} (f : A → B) (o : Option A) → is_some (option_map f o) ≡ is_some o
is_some-option_map f None = refl
is_some-option_map f (Some x) = refl

matched-chosen : (rules : List Rule) (operations : List Operation)
    → count_by is_some (map (chosen_fragment rules) operations) ≡ count_by (λ operation. is_some (chosen_rule rules operation)) operations
matched-chosen rules [] = refl
matched-chosen rules (o ∷ operations) =
    count_by-cons is_some (chosen_fragment rules o) (map (chosen_fragment rules) operations)
    ∙ ap (λ b. (if b then 1 else 0) + count_by is_some (map (chosen_fragment rules) operations)) (is_some-option_map (λ (rule : Rule). rule.fragment) (chosen_rule rules o))
    ∙ ap (λ n. (if is_some (chosen_rule rules o) then 1 else 0) + n) (matched-chosen rules operations)
    ∙ sym (count_by-cons (λ operation. is_some (chosen_rule rules operation)) o operations)

-- ---- an instruction is left

first_stays : (choice : Option Fragment) (chosen : List (Option Fragment)) (i : Instr) (instrs : List Instr)
    → 0 < length (new_instrs chosen instrs) → 0 < length (new_instrs (choice ∷ chosen) (i ∷ instrs))
first_stays None chosen i instrs rest = omega arith
first_stays (Some Empty) chosen i instrs rest = rest
first_stays (Some Proceed) chosen i instrs rest = omega arith

-- the return at the end is not chosen
return_stays : OpcodeLaws → (consts : List Place) (rules : List Rule) (front : List Instr) (operations : List Operation)
    → AllZip (Resolves consts) (front ++ returning ∷ []) operations
    → 0 < length (new_instrs (map (chosen_fragment rules) operations) (front ++ returning ∷ []))
return_stays laws consts rules [] [] all = absurd all
return_stays laws consts rules [] (o ∷ []) all = rw ((laws.leaves consts o).0 all.0, chosen_fragment-Return rules) (omega arith)
return_stays laws consts rules [] (o ∷ p ∷ operations) all = absurd all.1
return_stays laws consts rules (i ∷ front) [] all = absurd all
return_stays laws consts rules (i ∷ front) (o ∷ operations) all =
    first_stays (chosen_fragment rules o) (map (chosen_fragment rules) operations) i (front ++ returning ∷ []) (return_stays laws consts rules front operations all.1)

-- what is an operation is allowed
all_allowed : (consts : List Place) (instrs : List Instr) (operations : List Operation) → AllZip (Resolves consts) instrs operations → AllByRecursion (IsAllowed consts) instrs
all_allowed consts [] operations all = tt
all_allowed consts (i ∷ instrs) [] all = absurd all
all_allowed consts (i ∷ instrs) (o ∷ operations) all = (all.0.allowed, all_allowed consts instrs operations all.1)

-- choices of what is the same
pub same_choices : (consts consts' : List Place) (rules rules' : List Rule) (instrs instrs' : List Instr) (chosen : List (Option Fragment)) → consts ≡ consts' → rules ≡ rules' → instrs ≡ instrs'
    → AreChosen consts rules instrs chosen → AreChosen consts' rules' instrs' chosen
same_choices consts consts' rules rules' instrs instrs' chosen e f g are =
    subst (λ k. AreChosen k rules' instrs' chosen) e (subst (λ k. AreChosen consts k instrs' chosen) f (subst (λ k. AreChosen consts rules k chosen) g are))

module _ (opcodes : OpcodeLaws) (c : Class) (plan : MethodPlan) (at : ℕ) (code : CodeAttr) (chosen : List (Option Fragment)) (e : IsEditable c plan.name at code)
    (a : AreChosen c.consts plan.rules code.decoded.program.instrs chosen) where
  pub named : IsNamed c.consts plan.name (codes "()V") e.method
  named = subst (λ o. IsSomeAnd o (IsNamed c.consts plan.name (codes "()V"))) e.here e.is_method.here

  -- the program of the plan's method
  abbrev pub source_program : Program
  source_program = plain_program a.operations

  abbrev pub of_source : ProgramOf c e.method source_program
  of_source = record {
    is_static = true;
    flag = (λ _. e.code_of.one.static, λ _. refl);
    text = codes "()V";
    descriptor = named.descriptor_is;
    at = 0;
    attribute = e.code_of.attribute;
    is_code = IsCodeAt-one c.consts e.method.attributes e.code_of.attribute e.code_of.one.attributes e.code_of.one.is_code;
    code = e.code_of.is_attr.code;
    bytes = e.code_of.is_attr.bytes;
    of_code = record {
      types = record { params = []; result = None };
      descriptor = plain_descriptor;
      parameters = refl;
      decoded = code.decoded;
      decodes = e.code_of.is_attr.decodes;
      resolved = a.resolved;
      handlers = subst (λ l. AllZip (IsHandlerOf c.consts) l []) (sym e.code_of.no_handlers) tt;
    };
  }

  pub form_of_editable : MethodForm c plan.name
  form_of_editable =
      let ends = EndsByReturn-resolved opcodes c.consts e.returning.front a.operations e.returning.no_return
      (subst (AllByRecursion (IsSoFar c.consts)) e.returning.last a.so_far)
      (subst (λ l. AllZip (Resolves c.consts) l a.operations) e.returning.last a.resolved) in
      let attr = e.code_of.is_attr in
      record {
        at = at;
        is_method = e.is_method;
        method = e.method;
        here = e.here;
        static = e.code_of.one.static;
        one_attribute = ap length e.code_of.one.attributes;
        program = source_program;
        of = of_source;
        no_handlers = no_entries_back (IsEntry c.consts attr.decodes.starts (length attr.code.code)) attr.code.handlers code.decoded.program.handlers attr.decodes.handlers e.code_of.no_handlers;
        instrs = a.so_far;
        front = ends.front;
        operations = ends.last;
        no_return = ends.no_return;
      }

  pub source_plain : AllByRecursion IsPlain a.operations
  source_plain = all_plain opcodes c.consts code.decoded.program.instrs a.operations a.so_far a.resolved

  -- the number of the expressions that are chosen
  pub count_is : count_by is_some chosen ≡ matched source_program plan.rules
  count_is = ap (count_by is_some) a.chosen_is ∙ matched-chosen plan.rules a.operations

  pub counts_matched : OneProgram → (at' : ℕ) (m : Member) (program : Program) → IsPlanOf c at' plan → slice_get c.methods at' ≡ Some m
      → ProgramOf c m program → count_by is_some chosen ≡ matched program plan.rules
  counts_matched one at' m program is_plan here of =
      let same_place : at ≡ at' = one_place c plan.name (codes "()V") at at' e.is_method is_plan in
      let same_method : e.method ≡ m = some_one (slice_get c.methods at') m e.method here (subst (λ k. slice_get c.methods k ≡ Some e.method) same_place e.here) in
      let same_program : source_program ≡ program = one c m source_program program (subst (λ n. ProgramOf c n source_program) same_method of_source) of in
      count_is ∙ ap (λ p. matched p plan.rules) same_program

  -- there is an operation for each instruction
  pub operation_each : length a.operations ≡ length code.decoded.program.instrs
  operation_each = AllZip-long (Resolves c.consts) code.decoded.program.instrs a.operations a.resolved

  -- its new code can be made: each instruction has its choice, and the return at the end stays
  pub can_be_spliced : CanBeSpliced c.consts code chosen
  can_be_spliced =
      let stays = return_stays opcodes c.consts plan.rules e.returning.front a.operations
      (subst (λ l. AllZip (Resolves c.consts) l a.operations) e.returning.last a.resolved) in
      record {
        info = e.code_of.attribute.bytes;
        is_code = e.code_of.is_attr;
        rows = e.code_of.rows;
        no_handlers = e.code_of.no_handlers;
        so_far = a.so_far;
        allowed = all_allowed c.consts code.decoded.program.instrs a.operations a.resolved;
        each = ap length a.chosen_is ∙ length-map a.operations (chosen_fragment plan.rules) ∙ operation_each;
        some = rw (a.chosen_is, e.returning.last) stays;
      }
