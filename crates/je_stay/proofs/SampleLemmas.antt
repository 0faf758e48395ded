-- A method with a loop and two handlers meets all premises.
use Rattle.std.proofs.Common.{◌≡◌, ℕ, zero, suc, ◌+◌, List, [], ◌∷◌, Some, None, Bool, true, false, inl, inr, refl, subst, arith}
use Rattle.std.specs.Prelude.{negsuc, IsTrue, slice_get}
use Rattle.std.specs.List.{AllByRecursion}
use Rattle.je_desc.specs.FieldType.{Base}
use Rattle.je_desc.specs.FieldType as types
use Rattle.je_machine.specs.Value.{Value, IntKind}
use Rattle.je_machine.specs.Condition.{Zero, Equals}
use Rattle.je_machine.specs.Operation.{Nop, Drop, Act, Operation, Do, Load, Increment, Branch, Goto, Return, Handler}
use Rattle.je_machine.specs.Frame.{frame_of}
use Rattle.je_machine.specs.Machine.{covers, catcher, enter}
use Rattle.je_machine.specs.Slots.{UsesBelow}
use Rattle.je_shape.specs.Shape.{Shape, Known, Nothing, Has, Broken, KnownBelow}
use Rattle.je_shape.specs.Flow.{flow}
use Rattle.je_shape.specs.Least.{Assignment, successors, caught, Reaches, Serves, Passes, IsClosed, IsLeast, IsFault}
use Rattle.je_shape.proofs.OrderLemmas.{shape_self}
use Rattle.je_shape.proofs.LeastLemmas.{passes_below}
use Rattle.je_fit.specs.Fits.{fits_known}
use Rattle.je_fit.specs.Sound.{IsWellFormed, IsSound}
use Rattle.je_fit.proofs.SoundLemmas.{least_sound}
use Rattle.je_fit.proofs.EntryLemmas.{static_entered}
use Rattle.je_splice.specs.Reference.{Means}
use Rattle.je_splice.specs.Laid.{Fragment, blocks_of}
use Rattle.je_splice.specs.Put.{PutAt, PutBefore}
use Rattle.je_splice.specs.Sample.{one_instruction, nothing, proceeding, empty_fragment, proceed_fragment}
use Rattle.je_splice.specs.Loop.{call, put_at, put_before}
use Rattle.je_splice.proofs.BlockLemmas.{nothing_means, proceed_means}
use Rattle.je_stay.specs.Marked.{thrown_from, KeepsAt, KeepsMarked, FitsPiece, FitsMarked}
use Rattle.je_stay.specs.Listed.{ListsKeep}
use Rattle.je_stay.specs.Sample.{turning_places, turning_inner, turning, turning_shapes, turning_marks, counted, tested, thrown}
use Rattle.je_stay.specs.Keeping.{DoingKeeps, IsShaped}
use Rattle.je_stay.specs.Inner.{BlockKeeps, LaidKeeps, two_known}
use Rattle.je_stay.proofs.MarkedLemmas.{marked_shaped}
use Rattle.je_stay.proofs.ProgramLemmas.{items_laid}
use Rattle.je_splice.specs.Layout.{operation_codes, Item, Puts}
use Rattle.je_splice.specs.Marks.{marked_items, marked_handlers, marked}
use Rattle.je_stay.proofs.StayLemmas.{instruction_stays}
use Rattle.je_stay.proofs.PieceLemmas.{proceeding_keeps, nothing_keeps_all, alone_keeps}
use Rattle.je_stay.proofs.PieceLemmas as pieces
use Rattle.je_stay.proofs.ListedLemmas.{lists_keep, lists_fit}

op_same : (a b : Operation) → Some a ≡ Some b → a ≡ b
op_same a b e = cc

-- ---- each shape serves its instruction

serves_0 : Serves turning 0 (Load IntKind 0) counted
serves_0 = record { shape = tt; returns = tt; inside = (omega arith, tt) }

serves_1 : Serves turning 1 (Branch (Zero Equals) 6) tested
serves_1 = record { shape = (tt, tt); returns = tt; inside = (omega arith, (omega arith, tt)) }

serves_2 : Serves turning 2 (Do (Act call)) counted
serves_2 = record { shape = (tt, tt); returns = tt; inside = (omega arith, tt) }

serves_3 : Serves turning 3 (Do (Act call)) counted
serves_3 = record { shape = (tt, tt); returns = tt; inside = (omega arith, tt) }

serves_4 : Serves turning 4 (Increment 0 (negsuc 0)) counted
serves_4 = record { shape = tt; returns = tt; inside = (omega arith, tt) }

serves_5 : Serves turning 5 (Goto 0) counted
serves_5 = record { shape = tt; returns = tt; inside = (omega arith, tt) }

serves_6 : Serves turning 6 (Return None) counted
serves_6 = record { shape = tt; returns = refl; inside = tt }

serves_7 : Serves turning 7 (Do (Drop 1)) thrown
serves_7 = record { shape = (tt, omega arith, tt); returns = tt; inside = (omega arith, tt) }

serves_8 : Serves turning 8 (Return None) counted
serves_8 = record { shape = tt; returns = refl; inside = tt }

-- ---- the shapes are closed

turns : (at : ℕ) (op : Operation) → slice_get turning.program.operations at ≡ Some op → Passes turning turning_shapes at op (turning_shapes at)
turns zero op is =
    subst (λ o. Passes turning turning_shapes 0 o (Has counted)) (op_same (Load IntKind 0) op is)
    (inl (serves_0, record { successors = (λ i. shape_self tested, tt); handlers = (λ c i. shape_self thrown, (λ c i. shape_self thrown, tt)) }))
turns (suc zero) op is =
    subst (λ o. Passes turning turning_shapes 1 o (Has tested)) (op_same (Branch (Zero Equals) 6) op is)
    (inl (serves_1, record { successors = (λ i. shape_self counted, (λ i. shape_self counted, tt)); handlers = (λ c i. shape_self thrown, (λ c i. shape_self thrown, tt)) }))
turns (suc (suc zero)) op is =
    subst (λ o. Passes turning turning_shapes 2 o (Has counted)) (op_same (Do (Act call)) op is)
    (inl (serves_2, record { successors = (λ i. shape_self counted, tt); handlers = (λ c i. shape_self thrown, (λ c i. shape_self thrown, tt)) }))
turns (suc (suc (suc zero))) op is =
    subst (λ o. Passes turning turning_shapes 3 o (Has counted)) (op_same (Do (Act call)) op is)
    (inl (serves_3, record { successors = (λ i. shape_self counted, tt); handlers = (λ c i. shape_self thrown, (λ c i. shape_self thrown, tt)) }))
turns (suc (suc (suc (suc zero)))) op is =
    subst (λ o. Passes turning turning_shapes 4 o (Has counted)) (op_same (Increment 0 (negsuc 0)) op is)
    (inl (serves_4, record { successors = (λ i. shape_self counted, tt); handlers = (λ c i. shape_self thrown, (λ c i. shape_self thrown, tt)) }))
turns (suc (suc (suc (suc (suc zero))))) op is =
    subst (λ o. Passes turning turning_shapes 5 o (Has counted)) (op_same (Goto 0) op is)
    (inl (serves_5, record { successors = (λ i. shape_self counted, tt); handlers = (λ c i. shape_self thrown, (λ c i. shape_self thrown, tt)) }))
turns (suc (suc (suc (suc (suc (suc zero)))))) op is =
    subst (λ o. Passes turning turning_shapes 6 o (Has counted)) (op_same (Return None) op is)
    (inl (serves_6, record { successors = tt; handlers = (λ c i. shape_self thrown, (λ c i. shape_self thrown, tt)) }))
turns (suc (suc (suc (suc (suc (suc (suc zero))))))) op is =
    subst (λ o. Passes turning turning_shapes 7 o (Has thrown)) (op_same (Do (Drop 1)) op is)
    (inl (serves_7, record { successors = (λ i. shape_self counted, tt); handlers = (λ c i. shape_self thrown, (λ c i. shape_self thrown, tt)) }))
turns (suc (suc (suc (suc (suc (suc (suc (suc zero)))))))) op is =
    subst (λ o. Passes turning turning_shapes 8 o (Has counted)) (op_same (Return None) op is)
    (inl (serves_8, record { successors = tt; handlers = (λ c i. shape_self thrown, (λ c i. shape_self thrown, tt)) }))
turns (suc (suc (suc (suc (suc (suc (suc (suc (suc at))))))))) op is = absurd cc

closed : IsClosed turning turning_shapes
closed = record { starts = λ i. shape_self counted; passes = turns }

-- ---- and below all that are

below_broken : (s : Shape) (k : Known) → KnownBelow Broken k → KnownBelow (Has s) k
below_broken s Nothing h = absurd h
below_broken s (Has t) h = absurd h
below_broken s Broken h = tt

all_of : {A : Type 0} (P Q : A → Type 0) (xs : List A) → ((x : A) → P x → Q x) → AllByRecursion P xs → AllByRecursion Q xs
all_of P Q [] f h = tt
all_of P Q (x ∷ xs) f h = (f x h.0, all_of P Q xs f h.1)

-- what a shape sends on, whatever closed shapes are above it
record Sent (y : Assignment) (at : ℕ) (op : Operation) (s : Shape) : Type 0 where
  successors : AllByRecursion (λ to. Reaches turning y to (Has (flow turning.class at op s))) (successors at op)
  handlers : AllByRecursion (λ (h : Handler). IsTrue (covers at h) → Reaches turning y h.target (Has (caught h s))) turning.program.handlers

sent_by : (y : Assignment) (at : ℕ) (op : Operation) (s : Shape) → Passes turning y at op (Has s) → Sent y at op s
sent_by y at op s (inl p) = record { successors = p.1.successors; handlers = p.1.handlers }
sent_by y at op s (inr b) = record {
  successors =
      all_of (λ to. Reaches turning y to Broken) (λ to. Reaches turning y to (Has (flow turning.class at op s))) (successors at op)
      (λ to r i. below_broken (flow turning.class at op s) (y to) (r i)) b.successors;
  handlers =
      all_of (λ (h : Handler). IsTrue (covers at h) → Reaches turning y h.target Broken) (λ (h : Handler). IsTrue (covers at h) → Reaches turning y h.target (Has (caught h s)))
      turning.program.handlers (λ h r c i. below_broken (caught h s) (y h.target) (r c i)) b.handlers;
}

module _ (y : Assignment) (above : IsClosed turning y) where
  sent : (at : ℕ) (op : Operation) (s : Shape) → slice_get turning.program.operations at ≡ Some op → KnownBelow (Has s) (y at) → Sent y at op s
  sent at op s is h = sent_by y at op s (passes_below turning y at op (Has s) (y at) h (above.passes at op is))

  below_0 : KnownBelow (Has counted) (y 0)
  below_0 = above.starts (omega arith)

  below_1 : KnownBelow (Has tested) (y 1)
  below_1 = (sent 0 (Load IntKind 0) counted refl below_0).successors.0 (omega arith)

  below_2 : KnownBelow (Has counted) (y 2)
  below_2 = (sent 1 (Branch (Zero Equals) 6) tested refl below_1).successors.0 (omega arith)

  below_3 : KnownBelow (Has counted) (y 3)
  below_3 = (sent 2 (Do (Act call)) counted refl below_2).successors.0 (omega arith)

  below_4 : KnownBelow (Has counted) (y 4)
  below_4 = (sent 3 (Do (Act call)) counted refl below_3).successors.0 (omega arith)

  below_5 : KnownBelow (Has counted) (y 5)
  below_5 = (sent 4 (Increment 0 (negsuc 0)) counted refl below_4).successors.0 (omega arith)

  below_6 : KnownBelow (Has counted) (y 6)
  below_6 = (sent 1 (Branch (Zero Equals) 6) tested refl below_1).successors.1.0 (omega arith)

  below_7 : KnownBelow (Has thrown) (y 7)
  below_7 = (sent 2 (Do (Act call)) counted refl below_2).handlers.0 refl (omega arith)

  below_8 : KnownBelow (Has counted) (y 8)
  below_8 = (sent 7 (Do (Drop 1)) thrown refl below_7).successors.0 (omega arith)

  below_all : (at : ℕ) → KnownBelow (turning_shapes at) (y at)
  below_all zero = below_0
  below_all (suc zero) = below_1
  below_all (suc (suc zero)) = below_2
  below_all (suc (suc (suc zero))) = below_3
  below_all (suc (suc (suc (suc zero)))) = below_4
  below_all (suc (suc (suc (suc (suc zero))))) = below_5
  below_all (suc (suc (suc (suc (suc (suc zero)))))) = below_6
  below_all (suc (suc (suc (suc (suc (suc (suc zero))))))) = below_7
  below_all (suc (suc (suc (suc (suc (suc (suc (suc zero)))))))) = below_8
  below_all (suc (suc (suc (suc (suc (suc (suc (suc (suc at))))))))) = tt

pub turning_least : IsLeast turning turning_shapes
turning_least = record { closed = closed; least = below_all }

-- ---- no fault

served_there : (at : ℕ) (o : Operation) (s : Shape) (found : Operation) → Some o ≡ Some found → Serves turning at o s → (Serves turning at found s → ⊥) → ⊥
served_there at o s found e serves refuted = refuted (subst (λ p. Serves turning at p s) (op_same o found e) serves)

no_fault : (at : ℕ) → IsFault turning turning_shapes at → ⊥
no_fault zero f = served_there 0 (Load IntKind 0) counted f.operation f.there serves_0 f.fault
no_fault (suc zero) f = served_there 1 (Branch (Zero Equals) 6) tested f.operation f.there serves_1 f.fault
no_fault (suc (suc zero)) f = served_there 2 (Do (Act call)) counted f.operation f.there serves_2 f.fault
no_fault (suc (suc (suc zero))) f = served_there 3 (Do (Act call)) counted f.operation f.there serves_3 f.fault
no_fault (suc (suc (suc (suc zero)))) f = served_there 4 (Increment 0 (negsuc 0)) counted f.operation f.there serves_4 f.fault
no_fault (suc (suc (suc (suc (suc zero))))) f = served_there 5 (Goto 0) counted f.operation f.there serves_5 f.fault
no_fault (suc (suc (suc (suc (suc (suc zero)))))) f = served_there 6 (Return None) counted f.operation f.there serves_6 f.fault
no_fault (suc (suc (suc (suc (suc (suc (suc zero))))))) f = served_there 7 (Do (Drop 1)) thrown f.operation f.there serves_7 f.fault
no_fault (suc (suc (suc (suc (suc (suc (suc (suc zero)))))))) f = served_there 8 (Return None) counted f.operation f.there serves_8 f.fault
no_fault (suc (suc (suc (suc (suc (suc (suc (suc (suc at))))))))) f = f.fault

pub turning_sound : IsSound turning turning_shapes
turning_sound = least_sound turning turning_shapes turning_least no_fault

pub turning_formed : IsWellFormed turning.program
turning_formed = record {
  operands = (refl, (refl, (refl, (refl, (refl, (refl, (refl, (refl, (refl, tt)))))))));
  handlers = (omega arith, (omega arith, tt));
}

-- ---- its pieces

nop_keeps : (at : ℕ) → KeepsAt turning turning_shapes at (turning_shapes at) (Means (proceeding Nop))
nop_keeps at =
    proceeding_keeps turning.result turning_shapes (turning_shapes at) (turning_shapes at) (thrown_from turning at) Nop (λ classes frame outside fit. fit)

call_keeps : KeepsAt turning turning_shapes 2 (turning_shapes 3) (Means (proceeding (Act call)))
call_keeps =
    proceeding_keeps turning.result turning_shapes (turning_shapes 2) (turning_shapes 3) (thrown_from turning 2) (Act call)
    (instruction_stays turning turning_shapes turning_sound turning_formed 2 (Do (Act call)) refl)

empty_keeps : KeepsAt turning turning_shapes 3 (turning_shapes 4) (Means nothing)
empty_keeps = nothing_keeps_all turning.result turning_shapes (turning_shapes 3) (turning_shapes 4) (thrown_from turning 3) (λ frame fit. fit)

abbrev all : Fragment → Bool
all fragment = true

abbrev puts : List (PutAt Fragment)
puts =
    put_at 0 false true (proceed_fragment Nop) ∷ put_at 2 true true (proceed_fragment (Act call)) ∷ put_at 3 true true empty_fragment
    ∷ put_at 4 false false (proceed_fragment Nop) ∷ []

abbrev befores : List (PutBefore Fragment Handler)
befores = put_before 7 (proceed_fragment Nop) ∷ []

listed : ListsKeep turning turning_shapes all puts befores
listed = record {
  places = (
    record { instead = λ h. absurd cc; before = λ h. nop_keeps 0 },
    (
      record { instead = λ h. call_keeps; before = λ h. absurd cc },
      (record { instead = λ h. empty_keeps; before = λ h. absurd cc }, (record { instead = λ h. absurd cc; before = λ h. nop_keeps 4 }, tt)),
    ),
  );
  entries = (nop_keeps 7, tt);
}

pub turning_keeps : KeepsMarked turning turning_shapes turning_marks
turning_keeps = record {
  pieces = lists_keep all puts befores turning turning_shapes listed;
  stays = λ at op stays. instruction_stays turning turning_shapes turning_sound turning_formed at op stays.stands;
  behind = turning_sound.behind;
}

nop_fits : (k : Known) → FitsPiece 1 k (proceed_fragment Nop)
nop_fits k = record { means = proceed_means 1 (fits_known k) Nop; within = tt }

at_each : {A : Type 0} (P : A → Type 0) (xs : List A) → AllByRecursion P xs → (i : ℕ) (x : A) → slice_get xs i ≡ Some x → P x
at_each P [] each i x is = absurd cc
at_each P (y ∷ xs) each zero x is = let same : y ≡ x = cc in subst P same each.0
at_each P (y ∷ xs) each (suc i) x is = at_each P xs each.1 i x is

uses : AllByRecursion (UsesBelow 1) turning.program.operations
uses = (omega arith, (tt, (tt, (tt, (omega arith, (tt, (tt, (tt, (tt, tt)))))))))

pub turning_fits : FitsMarked 1 turning turning_shapes turning_marks
turning_fits = lists_fit all puts befores 1 turning turning_shapes (record {
  places = (
    nop_fits (turning_shapes 0),
    (
      record { means = proceed_means 1 (fits_known (turning_shapes 2)) (Act call); within = tt },
      (record { means = nothing_means 1 (fits_known (turning_shapes 3)); within = tt }, (nop_fits (turning_shapes 4), tt)),
    ),
  );
  entries = (nop_fits (turning_shapes 7), tt);
}) (λ at op stays. at_each (UsesBelow 1) turning.program.operations uses at op stays.stands)

pub turning_begins : (arguments : List Value) → IsTrue (fits_known (turning_shapes 0) (frame_of [] (enter turning.program.parameters arguments)))
turning_begins arguments = static_entered turning.class false (record { params = Base types.Int ∷ []; result = None }) arguments

-- ---- its code, inside blocks too

abbrev items : List (Item Operation Fragment)
items = marked_items operation_codes turning_marks turning.program.operations

abbrev table : List Handler
table = marked_handlers operation_codes turning_marks turning.program.handlers

shaped : IsShaped turning.result turning_places (marked turning.program turning_marks)
shaped = marked_shaped turning turning_shapes turning_marks turning_keeps

abbrev Kept : ℕ → ℕ → Fragment → Type 0
Kept place over fragment = BlockKeeps turning.result turning_places (turning_inner place) place (suc place + over) (λ classes. catcher table classes place) fragment.block

abbrev put : ℕ → Fragment → Item Operation Fragment
put over fragment = Puts over fragment

over_same : (a b : ℕ) (f g : Fragment) → Some (put a f) ≡ Some (put b g) → a ≡ b
over_same a b f g e = cc

piece_same : (a b : ℕ) (f g : Fragment) → Some (put a f) ≡ Some (put b g) → f ≡ g
piece_same a b f g e = cc

kept_at : (place a over : ℕ) (f fragment : Fragment) → Some (put a f) ≡ Some (Puts over fragment) → Kept place a f → Kept place over fragment
kept_at place a over f fragment e h =
    subst (λ (g : Fragment). Kept place over g) (piece_same a over f fragment e) (subst (λ (n : ℕ). Kept place n f) (over_same a over f fragment e) h)

nop_block : (place : ℕ) → DoingKeeps turning.result turning_places (turning_places place) (turning_places (suc place)) (λ classes. catcher table classes place) (Means (proceeding Nop))
    → BlockKeeps turning.result turning_places (two_known (turning_places place) (turning_places (suc place))) place (suc place) (λ classes. catcher table classes place) (one_instruction Nop)
nop_block place h = alone_keeps turning.result turning_places place (suc place) (λ classes. catcher table classes place) Nop h

blocks : (place over : ℕ) (fragment : Fragment) → slice_get items place ≡ Some (Puts over fragment) → Kept place over fragment
blocks zero over fragment is = kept_at 0 0 over (proceed_fragment Nop) fragment is (nop_block 0 (shaped.each 0 (Means (proceeding Nop)) refl))
blocks (suc zero) over fragment is = absurd cc
blocks (suc (suc zero)) over fragment is = absurd cc
blocks (suc (suc (suc zero))) over fragment is = kept_at 3 0 over (proceed_fragment (Act call)) fragment is (alone_keeps turning.result turning_places 3 4 (λ classes. catcher table classes 3) (Act call) (shaped.each 3 (Means (proceeding (Act call))) refl))
blocks (suc (suc (suc (suc zero)))) over fragment is = kept_at 4 0 over (empty_fragment) fragment is (pieces.empty_keeps turning.result turning_places 4 5 (λ classes. catcher table classes 4) (λ frame fit. fit))
blocks (suc (suc (suc (suc (suc zero))))) over fragment is = kept_at 5 0 over (proceed_fragment Nop) fragment is (nop_block 5 (shaped.each 5 (Means (proceeding Nop)) refl))
blocks (suc (suc (suc (suc (suc (suc zero)))))) over fragment is = absurd cc
blocks (suc (suc (suc (suc (suc (suc (suc zero))))))) over fragment is = absurd cc
blocks (suc (suc (suc (suc (suc (suc (suc (suc zero)))))))) over fragment is = absurd cc
blocks (suc (suc (suc (suc (suc (suc (suc (suc (suc zero))))))))) over fragment is = kept_at 9 0 over (proceed_fragment Nop) fragment is (nop_block 9 (shaped.each 9 (Means (proceeding Nop)) refl))
blocks (suc (suc (suc (suc (suc (suc (suc (suc (suc (suc zero)))))))))) over fragment is = absurd cc
blocks (suc (suc (suc (suc (suc (suc (suc (suc (suc (suc (suc zero))))))))))) over fragment is = absurd cc
blocks (suc (suc (suc (suc (suc (suc (suc (suc (suc (suc (suc (suc place)))))))))))) over fragment is = absurd cc

pub turning_laid : LaidKeeps turning.result turning_places turning_inner (blocks_of items) table
turning_laid = items_laid turning.result turning_places turning_inner turning.program.parameters items table shaped blocks
