use Rattle.std.proofs.Common.{length}
use Rattle.std.specs.Prelude.{◌↔◌, IsTrue, map}
use Rattle.je_fit.specs.Fits.{fits_locals}
use Rattle.je_shape.specs.Views.{slot_seen}
use Rattle.je_watch.proofs.frames.fits_locals.Given as goal

abbrev pub invariant-loop-slot : goal.invariant-loop-slot
invariant-loop-slot l =
    IsTrue (fits_locals (map slot_seen l.left) l.right) ↔ IsTrue (fits_locals (map slot_seen l.shape) l.locals)

abbrev pub decreases-loop-slot : goal.decreases-loop-slot
decreases-loop-slot l = length l.left
