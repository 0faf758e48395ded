-- The arguments of a method have the shape with which it begins.
use Rattle.std.proofs.Common.{ℕ, List, [], ◌∷◌, ◌++◌, map, Bool, true, false, refl}
use Rattle.std.specs.Prelude.{IsTrue, if◌then◌else◌, codes}
use Rattle.std.specs.List.{flat_map}
use Rattle.je_base.specs.Text.{is_same_text}
use Rattle.je_desc.specs.FieldType.{FieldType}
use Rattle.je_desc.specs.Descriptor.{MethodTypes}
use Rattle.je_machine.specs.Value.{Kind, IntKind, LongKind, FloatKind, DoubleKind, ReferenceKind, Value, is_of_kind, kind_of, zero_of, admit}
use Rattle.je_machine.specs.Frame.{frame_of}
use Rattle.je_machine.specs.Machine.{places, enter}
use Rattle.je_machine.proofs.OutsideLemmas.{admit_is_of_kind, zero_is_of_kind}
use Rattle.je_shape.specs.Slot.{Slot, Is, Reference, UninitThis}
use Rattle.je_shape.specs.Flow.{slot_of_kind, slot_of_type}
use Rattle.je_shape.specs.Entry.{places_of, this_of_constructor, this_of, entry_of}
use Rattle.je_fit.specs.Fits.{fits, fits_locals, fits_shape}
use Rattle.je_fit.proofs.FrameLemmas.{both}

-- a value of a kind in its places
placed_fits : (k : Kind) (names : List (List ℕ)) (v : Value) (l : List Slot) (vs : List Value) → IsTrue (is_of_kind k v) → IsTrue (fits_locals l vs)
    → IsTrue (fits_locals (places_of (slot_of_kind k names) ++ l) (places k v ++ vs))
placed_fits IntKind names v l vs h r = both (is_of_kind IntKind v) (fits_locals l vs) h r
placed_fits LongKind names v l vs h r = both (is_of_kind LongKind v) (fits_locals l vs) h r
placed_fits FloatKind names v l vs h r = both (is_of_kind FloatKind v) (fits_locals l vs) h r
placed_fits DoubleKind names v l vs h r = both (is_of_kind DoubleKind v) (fits_locals l vs) h r
placed_fits ReferenceKind names v l vs h r = both (is_of_kind ReferenceKind v) (fits_locals l vs) h r

abbrev slots_of : List FieldType → List Slot
slots_of params = flat_map (λ t. places_of (slot_of_type t)) params

entered_fits : (params : List FieldType) (arguments : List Value) → IsTrue (fits_locals (slots_of params) (enter (map kind_of params) arguments))
entered_fits [] arguments = refl
entered_fits (t ∷ params) [] =
    placed_fits (kind_of t) _ (zero_of (kind_of t)) (slots_of params) (enter (map kind_of params) []) (zero_is_of_kind (kind_of t)) (entered_fits params [])
entered_fits (t ∷ params) (v ∷ arguments) =
    placed_fits (kind_of t) _ (admit (kind_of t) v) (slots_of params) (enter (map kind_of params) arguments) (admit_is_of_kind (kind_of t) v) (entered_fits params arguments)

-- `this` is a reference
either_this : (b : Bool) (names : List (List ℕ)) (v : Value) → IsTrue (is_of_kind ReferenceKind v) → IsTrue (fits (if b then Reference names else Is UninitThis) v)
either_this true names v h = h
either_this false names v h = h

this_entered : (own : List ℕ) (is_init : Bool) (l : List Slot) (v : Value) (vs : List Value) → IsTrue (is_of_kind ReferenceKind v) → IsTrue (fits_locals l vs)
    → IsTrue (fits_locals (this_of own false is_init ++ l) (v ∷ vs))
this_entered own true l v vs h r =
    both (fits (this_of_constructor own) v) (fits_locals l vs) (either_this (is_same_text own (codes "java/lang/Object")) (own ∷ []) v h) r
this_entered own false l v vs h r = both (is_of_kind ReferenceKind v) (fits_locals l vs) h r

pub static_entered : (own : List ℕ) (is_init : Bool) (types : MethodTypes) (arguments : List Value)
    → IsTrue (fits_shape (entry_of own true is_init types) (frame_of [] (enter (map kind_of types.params) arguments)))
static_entered own is_init types arguments = entered_fits types.params arguments

pub instance_entered : (own : List ℕ) (is_init : Bool) (types : MethodTypes) (arguments : List Value)
    → IsTrue (fits_shape (entry_of own false is_init types) (frame_of [] (enter (ReferenceKind ∷ map kind_of types.params) arguments)))
instance_entered own is_init types [] =
    this_entered own is_init (slots_of types.params) (zero_of ReferenceKind) (enter (map kind_of types.params) []) (zero_is_of_kind ReferenceKind) (entered_fits types.params [])
instance_entered own is_init types (v ∷ arguments) =
    this_entered own is_init (slots_of types.params) (admit ReferenceKind v) (enter (map kind_of types.params) arguments) (admit_is_of_kind ReferenceKind v)
    (entered_fits types.params arguments)
