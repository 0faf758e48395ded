-- How runs of decoded code begin.
use Rattle.std.proofs.Common.{◌≡◌, ℕ, ◌<◌, List, [], ◌∷◌, length, Bool, true, false, refl, sym, ap, subst, arith}
use Rattle.std.specs.Prelude.{IsTrue, map}
use Rattle.je_consts.specs.declared.place.Place.{Place}
use Rattle.je_desc.specs.Descriptor.{MethodTypes}
use Rattle.je_machine.specs.Value.{Kind, ReferenceKind, Value, kind_of}
use Rattle.je_machine.specs.Frame.{frame_of}
use Rattle.je_machine.specs.Machine.{enter}
use Rattle.je_machine.specs.Operation.{Program}
use Rattle.je_instr.specs.declared.instr.Instr.{Instr}
use Rattle.je_instr.specs.declared.program.RawHandler.{RawHandler}
use Rattle.je_instr.specs.CodeProgram.{CodeProgram, parameters_of}
use Rattle.je_instr.specs.Decoding.{Follow, Leads}
use Rattle.je_instr.specs.Resolves.{Resolves}
use Rattle.je_shape.specs.Entry.{entry_of}
use Rattle.je_shape.specs.Least.{Method}
use Rattle.je_shape.specs.Shape.{Shape}
use Rattle.je_fit.specs.Fits.{fits_shape}
use Rattle.je_keep.specs.MethodCode.{MethodCode, IsMethodOf}
use Rattle.je_keep.proofs.FormedLemmas.{zip_long}

-- ---- the first instruction

some_located : (consts : List Place) (code : List ℕ) (is : List Instr) (starts : List ℕ) (end : ℕ) → Follow consts code 0 is starts end → 0 < end → 0 < length is
some_located consts code [] [] end h some = absurd (omega (arith, h, some))
some_located consts code [] (start ∷ starts) end h some = absurd h
some_located consts code (i ∷ is) starts end h some = omega arith

pub some_operation : (f : MethodCode) (m : Method) → IsMethodOf f m → 0 < length f.code → 0 < length m.program.operations
some_operation f m h some =
    let d = h.program.decodes in
    let first = some_located f.consts f.code d.located d.starts (length f.code) d.follow some in
    let led = zip_long (Leads d.starts) d.located h.program.decoded.program.instrs d.instrs in
    let resolved = zip_long (Resolves f.consts) h.program.decoded.program.instrs m.program.operations h.program.resolved in
    omega (arith, first, led, resolved)

-- ---- the arguments

module _ (one : (consts : List Place) (is_static : Bool) (text code : List ℕ) (table : List RawHandler) (p q : Program)
    → CodeProgram consts is_static text code table p → CodeProgram consts is_static text code table q → p ≡ q)
    (of_static : (own : List ℕ) (is_init : Bool) (types : MethodTypes) (arguments : List Value)
    → IsTrue (fits_shape (entry_of own true is_init types) (frame_of [] (enter (map kind_of types.params) arguments))))
    (of_instance : (own : List ℕ) (is_init : Bool) (types : MethodTypes) (arguments : List Value)
    → IsTrue (fits_shape (entry_of own false is_init types) (frame_of [] (enter (ReferenceKind ∷ map kind_of types.params) arguments)))) where
  entered : (is_static is_init : Bool) (own : List ℕ) (types : MethodTypes) (arguments : List Value)
      → IsTrue (fits_shape (entry_of own is_static is_init types) (frame_of [] (enter (parameters_of is_static types) arguments)))
  entered true is_init own types arguments = of_static own is_init types arguments
  entered false is_init own types arguments = of_instance own is_init types arguments

  -- a text is the descriptor of one method's types, so that the parameters are those of any
  parameters_are : (f : MethodCode) (m : Method) (h : IsMethodOf f m) → m.program.parameters ≡ parameters_of f.is_static h.types
  parameters_are f m h =
      let q : Program = record m.program { parameters = parameters_of f.is_static h.types } in
      let is : CodeProgram f.consts f.is_static f.text f.code f.table q =
      record {
        types = h.types;
        descriptor = h.descriptor;
        parameters = refl;
        decoded = h.program.decoded;
        decodes = h.program.decodes;
        resolved = h.program.resolved;
        handlers = h.program.handlers;
      } in
      ap (λ (p : Program). p.parameters) (one f.consts f.is_static f.text f.code f.table m.program q h.program is)

  pub start_fits : (f : MethodCode) (m : Method) (arguments : List Value) → IsMethodOf f m → IsTrue (fits_shape m.entry (frame_of [] (enter m.program.parameters arguments)))
  start_fits f m arguments h =
      subst (λ (s : Shape). IsTrue (fits_shape s (frame_of [] (enter m.program.parameters arguments)))) (sym h.entry)
      (subst (λ (ks : List Kind). IsTrue (fits_shape (entry_of m.class f.is_static f.is_init h.types) (frame_of [] (enter ks arguments)))) (sym (parameters_are f m h))
      (entered f.is_static f.is_init m.class h.types arguments))
