-- Serves private functions: what is put at each index, found in a table.
use Rattle.std.specs.Prelude.{◌≡◌, ℕ, ◌<◌, List, [], ◌∷◌, ◌++◌, length, map, filter, find, cond}
use Rattle.std.specs.Prelude.{Option, Some, None, option_map, slice_get, not, ◌&&◌}
use Rattle.std.specs.Option.{option_or}
use Rattle.je_instr.specs.declared.program.Handler.{Handler}
use Rattle.je_splice.specs.Put.{PutBefore, is_passed, is_met, is_instead, leads_to}
use Rattle.je_put.specs.declared.block.Block.{Block}
use Rattle.je_put.specs.declared.block.EntryBlock.{EntryBlock}
use Rattle.je_put.specs.declared.block.PlaceBlock.{PlaceBlock}
use Rattle.je_put.specs.declared.parts.Parts.{Parts}
use Rattle.je_put.specs.Placing.{put_at, put_before}

pub record Here : Type 0 where
  pub entries : List (PutBefore Block Handler)
  pub passed : List Block
  pub met : List Block
  pub instead : Option Block

abbrev pub here_of : Parts → Here
here_of parts = record {
  entries = map (λ e. put_before e.now) parts.entries.items;
  passed = map (λ b. b.now) parts.passed.items;
  met = map (λ b. b.now) parts.met.items;
  instead = option_map (λ b. b.now) parts.instead;
}

abbrev pub nothing_here : Here
nothing_here = record { entries = []; passed = []; met = []; instead = None }

-- with one more block at the index
abbrev pub with_place : PlaceBlock → Here → Here
with_place p h = record {
  entries = h.entries;
  passed = h.passed ++ cond (not p.jumps) (p.block ∷ []) [];
  met = h.met ++ cond (p.jumps && not p.removed) (p.block ∷ []) [];
  instead = option_or h.instead (cond p.removed (Some p.block) None);
}

abbrev pub with_entry : EntryBlock → Here → Here
with_entry e h = record {
  entries = h.entries ++ put_before e ∷ [];
  passed = h.passed;
  met = h.met;
  instead = h.instead;
}

-- with those of the list that stand at an index
abbrev pub with_places : ℕ → List PlaceBlock → Here → Here
with_places i places h = record {
  entries = h.entries;
  passed = h.passed ++ map (λ put. put.piece) (filter (is_passed i) (map put_at places));
  met = h.met ++ map (λ put. put.piece) (filter (is_met i) (map put_at places));
  instead =
      option_or h.instead
      (option_map (λ put. put.piece) (find (is_instead i) (map put_at places)));
}

abbrev pub with_entries : ℕ → List EntryBlock → Here → Here
with_entries i entries h = record {
  entries = h.entries ++ filter (leads_to i) (map put_before entries);
  passed = h.passed;
  met = h.met;
  instead = h.instead;
}

abbrev pub here_at : List PlaceBlock → List EntryBlock → ℕ → Here
here_at places entries i = with_entries i entries (with_places i places nothing_here)

-- the table has what is put at each index below a number
pub record HasParts (places : List PlaceBlock) (entries : List EntryBlock) (count : ℕ)
    (table : List Parts) : Type 0 where
  pub each : (i : ℕ) → i < count
      → option_map here_of (slice_get table i) ≡ Some (here_at places entries i)
  pub long : length table ≡ count

-- each row of the one is that of the other under a function of the index
abbrev pub RowsBecome : (ℕ → Here → Here) → (ℕ → Here → Here) → List Parts → List Parts → Type 0
RowsBecome f g old new = (i : ℕ) →
    option_map (λ parts. f i (here_of parts)) (slice_get new i)
    ≡ option_map (λ parts. g i (here_of parts)) (slice_get old i)
