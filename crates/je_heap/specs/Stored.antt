-- Serves private functions: fields as they are stored, a list of pairs.
use Rattle.std.specs.Prelude.{ℕ, zero, suc, List, [], ◌∷◌, Option, Some, None, option_map}
use Rattle.std.specs.Prelude.{if◌then◌else◌}
use Rattle.je_machine.specs.Value.{Value}
use Rattle.je_machine.specs.Heap.{FieldKey}
use Rattle.je_machine.specs.Classes.{is_same_key}

-- the first entry of a key
abbrev pub place_of : FieldKey → List (FieldKey × Value) → Option ℕ
place_of key [] = None
place_of key (e ∷ es) =
    if is_same_key key e.0 then Some 0 else option_map (λ i. suc i) (place_of key es)

-- the entries once a value is written behind the key at an index
abbrev pub put_at : List (FieldKey × Value) → ℕ → Value → List (FieldKey × Value)
put_at [] i value = []
put_at (e ∷ es) zero value = (e.0, value) ∷ es
put_at (e ∷ es) (suc i) value = e ∷ put_at es i value
