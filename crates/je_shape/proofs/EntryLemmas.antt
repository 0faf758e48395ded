-- The shape with which a method begins, from its parts.
use Rattle.std.proofs.Common.{◌≡◌, ◌∙◌, ◌++◌, ℕ, List, [], Bool, map, ap, sym}
use Rattle.std.specs.List.{flat_map}
use Rattle.std.proofs.lemmas.List.Folds.{flat_map-map}
use Rattle.je_desc.specs.declared.types.JType.{JType}
use Rattle.je_desc.specs.FieldType.{FieldType}
use Rattle.je_desc.specs.Types.{field_type_of}
use Rattle.je_shape.specs.declared.slot.Slot.{Slot}
use Rattle.je_shape.specs.Slot as known
use Rattle.je_shape.specs.Flow.{shape_of, slot_of_type}
use Rattle.je_shape.specs.Entry.{this_of, places_of}
use Rattle.je_shape.specs.Views.{slot_seen}

pub entered : (own : List ℕ) (is_static is_init : Bool) (stack before locals : List Slot) (given params : List JType)
    → stack ≡ [] → given ≡ params
    → map slot_seen before ≡ this_of own is_static is_init
    → map slot_seen locals ≡ map slot_seen before ++ flat_map (λ t. places_of (slot_of_type (field_type_of t))) given
    → shape_of (map slot_seen stack) (map slot_seen locals)
    ≡ shape_of [] (this_of own is_static is_init ++ flat_map (λ t. places_of (slot_of_type t)) (map field_type_of params))
entered own is_static is_init stack before locals given params empty same this all =
    let f : FieldType → List known.Slot = λ t. places_of (slot_of_type t) in
    ap (λ (s : List Slot). shape_of (map slot_seen s) (map slot_seen locals)) empty
    ∙ ap (λ (l : List known.Slot). shape_of [] l)
    (all ∙ ap (λ (l : List known.Slot). l ++ flat_map (λ t. f (field_type_of t)) given) this
    ∙ ap (λ (p : List JType). this_of own is_static is_init ++ flat_map (λ t. f (field_type_of t)) p) same
    ∙ ap (λ (l : List known.Slot). this_of own is_static is_init ++ l) (sym (flat_map-map f field_type_of params)))
