-- Runs keep to the shapes to their ends.
use Rattle.std.proofs.Common.{◌≡◌, ℕ, zero, suc, ◌<◌, ◌≤◌, length, Option, None, refl, sym, subst, arith}
use Rattle.std.specs.Prelude.{IsTrue, slice_get}
use Rattle.std.proofs.lemmas.Option.{slice_get_past}
use Rattle.je_machine.specs.Classes.{Classes}
use Rattle.je_machine.specs.Outside.{Outside}
use Rattle.je_machine.specs.Operation.{Operation}
use Rattle.je_machine.specs.Frame.{Frame}
use Rattle.je_machine.specs.Step.{Outcome, Progress, Goes, Stops, Chain, advance, iterate, iterate_all}
use Rattle.je_machine.specs.Machine.{State, state_at, catcher, perform_at, take_step, machine_step}
use Rattle.je_shape.specs.Shape.{Shape, Known, Has}
use Rattle.je_shape.specs.Least.{Method, Assignment}
use Rattle.je_fit.specs.Fits.{fits_shape, fits_known}
use Rattle.je_fit.specs.Sound.{IsWellFormed, IsSound, OutcomeFits, StepFits}
use Rattle.je_fit.proofs.FrameLemmas.{to_frame, depth_fits, FrameFits}
use Rattle.je_fit.proofs.StepLemmas.{reached_fits, step_fits}

pub begun_fits : (m : Method) (x : Assignment) → IsSound m x → 0 < length m.program.operations → (f : Frame) → IsTrue (fits_shape m.entry f) → IsTrue (fits_known (x 0) f)
begun_fits m x sound inside f h = reached_fits m x sound 0 m.entry f (to_frame m.entry f h) inside sound.closed.starts

-- ---- places at which a frame has its shape

pub known_depth : (k : Known) (s : Shape) (f : Frame) → k ≡ Has s → IsTrue (fits_known k f) → length f.stack ≡ length s.stack
known_depth k s f e h =
    let fit : FrameFits s f = to_frame s f (subst (λ k. IsTrue (fits_known k f)) e h) in
    depth_fits s.stack f.stack fit.stack

-- ---- runs

pub chain_fits : (m : Method) (x : Assignment) → IsSound m x → IsWellFormed m.program → (classes : Classes) (count : ℕ) (s t : State) → IsTrue (fits_known (x s.place) s.frame)
    → Chain (machine_step m.program classes) count s t → IsTrue (fits_known (x t.place) t.frame)
chain_fits m x sound formed classes zero s t h e = subst (λ (u : State). IsTrue (fits_known (x u.place) u.frame)) e h
chain_fits m x sound formed classes (suc count) s t h c =
    let P : Progress State → Type 0 = StepFits m x in
    let next : P (Goes 0 c.0) = subst P (c.1 0) (step_fits m x sound formed classes 0 s h) in
    chain_fits m x sound formed classes count c.0 t next c.2

advance_fits : (m : Method) (x : Assignment) (next : ℕ → State → Outcome) (p : Progress State)
    → ((left : ℕ) (s : State) → IsTrue (fits_known (x s.place) s.frame) → OutcomeFits m (next left s)) → StepFits m x p → OutcomeFits m (advance next p)
advance_fits m x next (Goes left s) on h = on left s h
advance_fits m x next (Stops o) on h = h

pub run_fits : (m : Method) (x : Assignment) → IsSound m x → IsWellFormed m.program → (classes : Classes) (turns bound : ℕ) (s : State) → IsTrue (fits_known (x s.place) s.frame)
    → OutcomeFits m (iterate (machine_step m.program classes) turns bound s)
run_fits m x sound formed classes zero bound s h = tt
run_fits m x sound formed classes (suc turns) zero s h = tt
run_fits m x sound formed classes (suc turns) (suc bound) s h =
    advance_fits m x (iterate (machine_step m.program classes) turns) (take_step m.program classes (suc bound) s)
    (λ left t k. run_fits m x sound formed classes turns left t k) (step_fits m x sound formed classes bound s h)

-- a run of a program without instructions has no end
none_there : (m : Method) (classes : Classes) → length m.program.operations ≤ 0 → (turns bound : ℕ) (s : State)
    → OutcomeFits m (iterate (machine_step m.program classes) turns bound s)
none_there m classes h zero bound s = tt
none_there m classes h (suc turns) zero s = tt
none_there m classes h (suc turns) (suc bound) s =
    let e : slice_get m.program.operations s.place ≡ None = slice_get_past m.program.operations s.place (omega (arith, h)) in
    let next = iterate (machine_step m.program classes) turns in
    let P : Option Operation → Type 0 = λ o.
    OutcomeFits m (advance next (perform_at classes (suc s.place) (catcher m.program.handlers classes s.place) bound o s))
    in
    subst P (sym e) tt

by_length : (m : Method) (x : Assignment) → IsSound m x → IsWellFormed m.program → (classes : Classes) (bound : ℕ) (f : Frame) (o : Outside) → IsTrue (fits_shape m.entry f)
    → (n : ℕ) → length m.program.operations ≡ n → OutcomeFits m (iterate_all (machine_step m.program classes) bound (state_at 0 f o))
by_length m x sound formed classes bound f o h zero e = none_there m classes (omega (arith, e)) bound bound (state_at 0 f o)
by_length m x sound formed classes bound f o h (suc n) e =
    run_fits m x sound formed classes bound bound (state_at 0 f o) (begun_fits m x sound (omega (arith, e)) f h)

pub whole_run : (m : Method) (x : Assignment) → IsSound m x → IsWellFormed m.program → (classes : Classes) (bound : ℕ) (f : Frame) (o : Outside) → IsTrue (fits_shape m.entry f)
    → OutcomeFits m (iterate_all (machine_step m.program classes) bound (state_at 0 f o))
whole_run m x sound formed classes bound f o h = by_length m x sound formed classes bound f o h (length m.program.operations) refl
