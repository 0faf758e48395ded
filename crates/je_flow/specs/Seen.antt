-- Serves private functions: how they see slots, words and wants.
use Rattle.std.specs.Prelude.{Option, Some, None, Bool, false}
use Rattle.je_shape.specs.declared.slot.Slot.{Slot}
use Rattle.je_shape.specs.Slot as known
use Rattle.je_shape.specs.Views.{slot_seen}
use Rattle.je_shape.specs.Serves as serves
use Rattle.je_flow.specs.declared.wants.Want.{Want}
use Rattle.je_flow.specs.declared.wants.Want.TheVariants as wants

-- a slot that may not be there, which then is Top
abbrev pub seen_or_top : Option Slot → known.Slot
seen_or_top None = known.Top
seen_or_top (Some s) = slot_seen s

-- the slot is this word
abbrev pub holds_word : known.Word → known.Slot → Bool
holds_word word (known.Is other) = known.is_same_word word other
holds_word word s = false

-- what the program wants of a slot
abbrev pub want_in : Want → serves.Want
want_in (wants.Of kind) = serves.Wants kind
want_in wants.Any = serves.WantsAny
want_in wants.This = serves.WantsThis
