use Rattle.std.proofs.Common.{◌∙◌, List, map, ap}
use Rattle.je_shape.specs.Slot as known
use Rattle.je_shape.specs.Flow.{component_name, names_of, top_item}
use Rattle.je_flow.proofs.AlikeLemmas.{loaded_alike}
use Rattle.je_flow.proofs.through.loaded.Goals as goal

pub returns : goal.returns
returns c =
    loaded_alike _ _ _ c.in_ok-names.names.items (map component_name c.top_names.result.now) _
    (rw c.kind_of_element.ensures at c.slot_of_kind.ensures) c.in_ok-of.ensures c.in_ok-names.ensures.names
    (ap (map component_name) (c.top_names.ensures ∙ ap (λ (l : List known.Slot). names_of (top_item l)) c.below_top.ensures))
