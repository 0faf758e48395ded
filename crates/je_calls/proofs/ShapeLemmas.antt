-- What becomes of instructions, by the shapes that are found for them.
use Rattle.std.proofs.Common.{◌≡◌, ℕ, zero, suc, ◌+◌, List, [], ◌∷◌, length, Option, Some, None, Bool, inl, inr, option_map, refl, sym, ap, subst, ◌∙◌, arith}
use Rattle.std.specs.Prelude.{IsTrue, slice_get, is_some, IfSome, Result, Ok, Err, IfOk, IfErr, OnOk}
use Rattle.std.specs.List.{AllByRecursion, AllZip}
use Rattle.je_consts.specs.declared.place.Place.{Place}
use Rattle.je_desc.specs.declared.types.MethodType.{MethodType}
use Rattle.je_desc.specs.declared.types.JType.{JType}
use Rattle.je_desc.specs.Types.{field_type_of, method_types_of}
use Rattle.je_machine.specs.Value.{Kind, kind_of}
use Rattle.je_machine.specs.Operation.{Operation, Handler, Program}
use Rattle.je_instr.specs.declared.instr.Instr.{Instr}
use Rattle.je_instr.specs.declared.program.Handler as entries
use Rattle.je_instr.specs.declared.program.Program as code
use Rattle.je_instr.specs.Allowed.{IsAllowed}
use Rattle.je_instr.specs.Assembling.{IsCaught, AllowsProgram}
use Rattle.je_instr.specs.CodeProgram.{Catches, IsHandlerOf}
use Rattle.je_instr.specs.Resolves.{Resolves}
use Rattle.je_machine.specs.Content.{Class}
use Rattle.je_shape.specs.declared.slot.Shape as program
use Rattle.je_shape.specs.Shape.{Shape, Known, Nothing, Has, Broken, KnownBelow}
use Rattle.je_shape.specs.Least.{Method, Assignment, IsLeast, IsFault}
use Rattle.je_shape.specs.Views.{shape_seen, shapes_seen}
use Rattle.je_shape.specs.Entry.{entry_of}
use Rattle.je_shapes.specs.Code.{HasCode, result_of}
use Rattle.je_least.specs.Answer.{method_of, known_of, IsShapes, IsBadCode}
use Rattle.je_keep.specs.MethodCode.{AreFaultless}
use Rattle.je_calls.specs.declared.rule.Choice.{Choice}
use Rattle.je_calls.specs.declared.rule.Rule.{Rule}
use Rattle.je_calls.specs.Choices.{choices_by, AreReplaceable, AreChosen}
use Rattle.je_calls.specs.Chosen.{is_reached, choice_if, choice_of, choices_from, IsReplaceable}
use Rattle.je_calls.specs.Method.{Task, task, IsProgramOf, method_with, ArePlain}
use Rattle.je_calls.proofs.AgreeLemmas.{zip_long}

-- ---- an index is reached where there is a shape

reached_by : (k : Option program.Shape) → is_reached (known_of (Some (option_map shape_seen k))) ≡ is_some k
reached_by None = refl
reached_by (Some s) = refl

module _ (rules : List Rule) (x : Assignment) where
  abbrev pub Shows : ℕ → List (Option program.Shape) → Type 0
  Shows at list = (k : ℕ) → x (at + k) ≡ known_of (slice_get (shapes_seen list) k)

  shows_rest : (at : ℕ) (known : Option program.Shape) (list : List (Option program.Shape)) → Shows at (known ∷ list) → Shows (suc at) list
  shows_rest at known list shows = λ k. let next : suc at + k ≡ at + suc k = omega arith in ap x next ∙ shows (suc k)

  first_reached : (at : ℕ) (known : Option program.Shape) (list : List (Option program.Shape)) → Shows at (known ∷ list) → is_reached (x at) ≡ is_some known
  first_reached at known list shows =
      let none : at ≡ at + 0 = omega arith in
      ap is_reached (ap x none ∙ shows 0) ∙ reached_by known

  pub chosen_by : (at : ℕ) (list : List (Option program.Shape)) (os : List Operation) → length list ≡ length os → Shows at list → choices_by rules list os ≡ choices_from rules x at os
  chosen_by at [] [] long shows = refl
  chosen_by at [] (o ∷ os) long shows = absurd (omega (arith, long))
  chosen_by at (known ∷ list) [] long shows = absurd (omega (arith, long))
  chosen_by at (known ∷ list) (o ∷ os) long shows =
      ap (λ (b : Bool). choice_if b rules o ∷ choices_by rules list os) (sym (first_reached at known list shows))
      ∙ ap (λ (l : List Choice). choice_of rules (x at) o ∷ l) (chosen_by (suc at) list os (omega (arith, long)) (shows_rest at known list shows))

  pub plain_by : (at : ℕ) (list : List (Option program.Shape)) (os : List Operation) → length list ≡ length os → Shows at list → AreReplaceable rules list os
      → (k : ℕ) (o : Operation) → slice_get os k ≡ Some o → IsTrue (is_reached (x (at + k))) → IsReplaceable rules o
  plain_by at [] [] long shows all k o there reached = absurd cc
  plain_by at [] (p ∷ os) long shows all k o there reached = absurd (omega (arith, long))
  plain_by at (known ∷ list) [] long shows all k o there reached = absurd cc
  plain_by at (known ∷ list) (p ∷ os) long shows all zero o there reached =
      let none : at + 0 ≡ at = omega arith in
      let same : p ≡ o = cc in
      subst (IsReplaceable rules) same (all.0 (subst IsTrue (first_reached at known list shows) (subst (λ (n : ℕ). IsTrue (is_reached (x n))) none reached)))
  plain_by at (known ∷ list) (p ∷ os) long shows all (suc k) o there reached =
      let next : at + suc k ≡ suc at + k = omega arith in
      plain_by (suc at) list os (omega (arith, long)) (shows_rest at known list shows) all.1 k o there (subst (λ (n : ℕ). IsTrue (is_reached (x n))) next reached)

  pub replaceable_by : (at : ℕ) (list : List (Option program.Shape)) (os : List Operation) → Shows at list
      → ((k : ℕ) (o : Operation) → slice_get os k ≡ Some o → IsTrue (is_reached (x (at + k))) → IsReplaceable rules o) → AreReplaceable rules list os
  replaceable_by at [] os shows h = tt
  replaceable_by at (known ∷ list) [] shows h = tt
  replaceable_by at (known ∷ list) (o ∷ os) shows h = (
    (λ some. (let none : at ≡ at + 0 = omega arith in h 0 o refl (subst (λ (n : ℕ). IsTrue (is_reached (x n))) none (subst IsTrue (sym (first_reached at known list shows)) some)))),
    replaceable_by (suc at) list os (shows_rest at known list shows)
        (λ k p there reached. (let next : suc at + k ≡ at + suc k = omega arith in h (suc k) p there (subst (λ (n : ℕ). IsTrue (is_reached (x n))) next reached))),
  )

-- ---- two least assignments

reached_below : (a b : Known) → KnownBelow a b → IsTrue (is_reached a) → IsTrue (is_reached b)
reached_below Nothing b h reached = absurd cc
reached_below (Has s) Nothing h reached = absurd h
reached_below (Has s) (Has t) h reached = refl
reached_below (Has s) Broken h reached = refl
reached_below Broken Nothing h reached = absurd h
reached_below Broken (Has s) h reached = refl
reached_below Broken Broken h reached = refl

from_zero : (x : Assignment) (list : List (Option program.Shape)) → ((at : ℕ) → x at ≡ known_of (slice_get (shapes_seen list) at)) → (rules : List Rule) → Shows rules x 0 list
from_zero x list shown rules = λ k. let none : 0 + k ≡ k = omega arith in ap x none ∙ shown k

module _ (below : (m : Method) (x y : Assignment) → IsLeast m x → IsLeast m y → (at : ℕ) → KnownBelow (x at) (y at))
    (t : Task) (p : Program) (list : List (Option program.Shape)) (found : IsShapes (method_with t p) (shapes_seen list)) where
  many : length list ≡ length p.operations
  many = sym (length_map list) ∙ found.count where
    length_map : (l : List (Option program.Shape)) → length (shapes_seen l) ≡ length l
    length_map [] = refl
    length_map (k ∷ l) = ap suc (length_map l)

  pub are_chosen : AreReplaceable t.rules list p.operations → (choices : List Choice) → choices ≡ choices_by t.rules list p.operations → AreChosen t p choices
  are_chosen all choices is =
      let shows = from_zero found.assignment list found.shown t.rules in
      record {
        x = found.assignment;
        faultless = record { least = found.least; whole = found.whole };
        plain = λ at o there reached. (let none : at ≡ 0 + at = omega arith in
            plain_by t.rules found.assignment 0 list p.operations many shows all at o there (subst (λ (n : ℕ). IsTrue (is_reached (found.assignment n))) none reached));
        choices_are = is ∙ chosen_by t.rules found.assignment 0 list p.operations many shows;
      }

  pub are_replaceable : (y : Assignment) → AreFaultless (method_with t p) y → ArePlain t.rules y p → AreReplaceable t.rules list p.operations
  are_replaceable y faultless plain =
      replaceable_by t.rules found.assignment 0 list p.operations (from_zero found.assignment list found.shown t.rules)
      (λ k o there reached. (let none : 0 + k ≡ k = omega arith in
      plain k o there (reached_below (found.assignment k) (y k) (below (method_with t p) found.assignment y found.least faultless.least k) (subst (λ (n : ℕ). IsTrue (is_reached (found.assignment n))) none reached))))

-- ---- programs and what allows them

catches_exist : (consts : List Place) (e : entries.Handler) → IsCaught consts e → (class : Option (List ℕ)) × Catches consts e.catch_const class
catches_exist consts e (inl none) = (None, none)
catches_exist consts e (inr (Class name, there, is)) = (Some name, (there, is))
catches_exist consts e (inr (_, there, is)) = absurd is

pub handlers_exist : (consts : List Place) (es : List entries.Handler) → AllByRecursion (IsCaught consts) es → (hs : List Handler) × AllZip (IsHandlerOf consts) es hs
handlers_exist consts [] caught = ([], tt)
handlers_exist consts (e ∷ es) caught =
    let first = catches_exist consts e caught.0 in
    let rest = handlers_exist consts es caught.1 in
    (record { start = e.start; end = e.end; target = e.target; catch_class = first.0 } ∷ rest.0, (record { start = refl; end = refl; target = refl; catches = first.1 }, rest.1))

caught_by : (consts : List Place) (e : entries.Handler) (class : Option (List ℕ)) → Catches consts e.catch_const class → IsCaught consts e
caught_by consts e None h = inl h
caught_by consts e (Some name) h = inr (Class name, h.0, h.1)

all_caught : (consts : List Place) (es : List entries.Handler) (hs : List Handler) → AllZip (IsHandlerOf consts) es hs → AllByRecursion (IsCaught consts) es
all_caught consts [] [] h = tt
all_caught consts [] (g ∷ hs) h = absurd h
all_caught consts (e ∷ es) [] h = absurd h
all_caught consts (e ∷ es) (g ∷ hs) h = (caught_by consts e g.catch_class h.0.catches, all_caught consts es hs h.1)

all_allowed : (consts : List Place) (is : List Instr) (os : List Operation) → ((i : Instr) (o : Operation) → Resolves consts i o → IsAllowed consts i) → AllZip (Resolves consts) is os
    → AllByRecursion (IsAllowed consts) is
all_allowed consts [] [] only h = tt
all_allowed consts [] (o ∷ os) only h = absurd h
all_allowed consts (i ∷ is) [] only h = absurd h
all_allowed consts (i ∷ is) (o ∷ os) only h = (only i o h.0, all_allowed consts is os only h.1)

pub allows : (t : Task) (p : Program) → ((i : Instr) (o : Operation) → Resolves t.consts i o → IsAllowed t.consts i) → IsProgramOf t p → AllowsProgram t.consts t.code
allows t p only is = record { operands = all_allowed t.consts t.code.instrs p.operations only is.operations; caught = all_caught t.consts t.code.handlers p.handlers is.handlers }

-- ---- the method as shapes are found of it

same_kinds : (r : Option JType) → option_map (λ (j : JType). kind_of (field_type_of j)) r ≡ option_map kind_of (option_map field_type_of r)
same_kinds None = refl
same_kinds (Some j) = refl

pub same_method : (class_name : List ℕ) (consts : List Place) (p : code.Program) (is_static is_init : Bool) (types : MethodType) (rules : List Rule) (machine : Program) (entry : program.Shape)
    → shape_seen entry ≡ entry_of class_name is_static is_init (method_types_of types)
    → method_of class_name machine entry [] (result_of (Some types)) ≡ method_with (task class_name consts p is_static is_init types rules) machine
same_method class_name consts p is_static is_init types rules machine entry e =
    ap (λ (s : Shape). record { class = class_name; program = machine; entry = s; frames = []; result = result_of (Some types) }) e
    ∙ ap (λ (k : Option Kind). record { class = class_name; program = machine; entry = entry_of class_name is_static is_init (method_types_of types); frames = []; result = Some k }) (same_kinds types.result)

pub no_fault : ((m : Method) (x y : Assignment) → IsLeast m x → IsLeast m y → (at : ℕ) → IsFault m x at → IsFault m y at) → (m n : Method) → m ≡ n → (at : ℕ) → IsBadCode m at → (x : Assignment) → AreFaultless n x → ⊥
no_fault faults m n same at bad x faultless =
    faultless.whole at
    (faults n bad.assignment x (subst (λ (k : Method). IsLeast k bad.assignment) same bad.least) faultless.least at (subst (λ (k : Method). IsFault k bad.assignment at) same bad.first.fault))

length_seen : (l : List (Option program.Shape)) → length (shapes_seen l) ≡ length l
length_seen [] = refl
length_seen (k ∷ l) = ap suc (length_seen l)

-- the operations that are found are as many as the shapes
pub found_long : (t : Task) (list : List (Option program.Shape)) → ((machine : Program) → HasCode t.consts t.code machine → IsShapes (method_with t machine) (shapes_seen list)) → AllByRecursion (IsCaught t.consts) t.code.handlers
    → (os : List Operation) → AllZip (Resolves t.consts) t.code.instrs os → length list ≡ length os
found_long t list shapes caught os resolves =
    let handlers = handlers_exist t.consts t.code.handlers caught in
    let machine : Program = record { parameters = []; operations = os; handlers = handlers.0 } in
    sym (length_seen list) ∙ (shapes machine (record { operations = resolves; handlers = handlers.1 })).count

-- ---- what a call answers

pub ok_both : {A E : Type 0} {P R : A → Type 0} {Q : Type 0} (r : Result A E) → IfOk r P → OnOk r Q → ((a : A) → P a → Q → R a) → IfOk r R
ok_both (Ok a) p q f = f a p q
ok_both (Err e) p q f = tt

pub err_as : {A E : Type 0} {P Q : E → Type 0} (r : Result A E) → IfErr r P → ((e : E) → P e → Q e) → IfErr r Q
err_as (Ok a) p f = tt
err_as (Err e) p f = f e p

pub some_found : {A : Type 0} (P : A → Type 0) (o : Option A) (a b : A) → o ≡ Some a → b ≡ a → IfSome o P → P b
some_found P None a b e same h = absurd cc
some_found P (Some k) a b e same h = let one : k ≡ b = cc in subst P one h

-- ---- what becomes of each instruction, by what was found

-- of a method: the operations of its instructions, and its shapes
pub record IsFound (t : Task) (list : List (Option program.Shape)) (os : List Operation) : Type 0 where
  pub resolves : AllZip (Resolves t.consts) t.code.instrs os
  pub shapes : (machine : Program) → HasCode t.consts t.code machine → IsShapes (method_with t machine) (shapes_seen list)

pub record Laws : Type 0 where
  pub below : (m : Method) (x y : Assignment) → IsLeast m x → IsLeast m y → (at : ℕ) → KnownBelow (x at) (y at)
  pub one : (consts : List Place) (is : List Instr) (a b : List Operation) → AllZip (Resolves consts) is a → AllZip (Resolves consts) is b → a ≡ b

pub chosen_found : Laws → (t : Task) (list : List (Option program.Shape)) (os : List Operation) → IsFound t list os → AreReplaceable t.rules list os → (choices : List Choice) → choices ≡ choices_by t.rules list os
    → (machine : Program) → IsProgramOf t machine → AreChosen t machine choices
chosen_found laws t list os found all choices is machine of =
    let same : os ≡ machine.operations = laws.one t.consts t.code.instrs os machine.operations found.resolves of.operations in
    are_chosen laws.below t machine list (found.shapes machine (record { operations = of.operations; handlers = of.handlers })) (subst (λ (l : List Operation). AreReplaceable t.rules list l) same all) choices
    (is ∙ ap (choices_by t.rules list) same)

pub replaceable_found : Laws → (t : Task) (list : List (Option program.Shape)) (os : List Operation) → IsFound t list os → (machine : Program) (x : Assignment) → IsProgramOf t machine
    → AreFaultless (method_with t machine) x → ArePlain t.rules x machine → AreReplaceable t.rules list os
replaceable_found laws t list os found machine x of faultless plain =
    let same : os ≡ machine.operations = laws.one t.consts t.code.instrs os machine.operations found.resolves of.operations in
    subst (λ (l : List Operation). AreReplaceable t.rules list l) (sym same)
    (are_replaceable laws.below t machine list (found.shapes machine (record { operations = of.operations; handlers = of.handlers })) x faultless plain)

choices_long : (rules : List Rule) (list : List (Option program.Shape)) (os : List Operation) → length list ≡ length os → length (choices_by rules list os) ≡ length os
choices_long rules [] [] long = refl
choices_long rules [] (o ∷ os) long = absurd (omega (arith, long))
choices_long rules (known ∷ list) [] long = absurd (omega (arith, long))
choices_long rules (known ∷ list) (o ∷ os) long = ap suc (choices_long rules list os (omega (arith, long)))

pub chosen_long : (t : Task) (list : List (Option program.Shape)) (os : List Operation) → IsFound t list os → length list ≡ length os → (choices : List Choice) → choices ≡ choices_by t.rules list os
    → length choices ≡ length t.code.instrs
chosen_long t list os found long choices is =
    ap length is ∙ choices_long t.rules list os long ∙ sym (zip_long (Resolves t.consts) t.code.instrs os found.resolves)
