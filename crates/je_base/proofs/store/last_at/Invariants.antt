use Rattle.std.proofs.Common.{◌≡◌, length, take, IfSome}
use Rattle.std.specs.Option.{option_map}
use Rattle.std.specs.FinMap.{empty, get}
use Rattle.je_base.specs.Store.{content_at, contents_after, IsWithin}
use Rattle.je_base.proofs.store.last_at.Given as goal

abbrev pub invariant-loop-span : goal.invariant-loop-span
invariant-loop-span l =
    record {
      within : IfSome l.found (IsWithin (length l.bytes));
      found : option_map (content_at l.bytes) l.found ≡ get (contents_after l.bytes empty (take l.span-index l.spans)) l.path;
    }
