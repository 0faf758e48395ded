-- When a decoded method is no program.
use Rattle.std.proofs.Common.{◌≡◌, ℕ, List, Bool, subst}
use Rattle.std.specs.List.{AllByRecursion, AllZip}
use Rattle.je_consts.specs.declared.place.Place.{Place}
use Rattle.je_machine.specs.Operation.{Handler}
use Rattle.je_instr.specs.declared.program.Decoded.{Decoded}
use Rattle.je_instr.specs.declared.program.RawHandler.{RawHandler}
use Rattle.je_instr.specs.Allowed.{IsAllowed}
use Rattle.je_instr.specs.CodeProgram.{IsHandlerOf}
use Rattle.je_instr.specs.Decoding.{Decodes}
use Rattle.je_instr.specs.Resolves.{Resolves}
use Rattle.je_link.specs.Linked.{HasNoProgram}
use Rattle.je_link.proofs.ListLemmas.{all_allowed}

-- code is decoded to one thing at most
abbrev pub AreOneDecoding : List Place → Type 0
AreOneDecoding consts = (code : List ℕ) (table : List RawHandler) (d e : Decoded) → Decodes consts code table d → Decodes consts code table e → d ≡ e

module _ (consts : List Place) (is_static : Bool) (text : List ℕ) (decoded : Decoded) where
  pub no_operations : AreOneDecoding consts → (AllByRecursion (IsAllowed consts) decoded.program.instrs → ⊥) → HasNoProgram consts is_static text decoded
  no_operations one none code table program decodes c =
      let same = one code table c.decoded decoded c.decodes decodes in
      none (all_allowed consts decoded.program.instrs program.operations (subst (λ (d : Decoded). AllZip (Resolves consts) d.program.instrs program.operations) same c.resolved))

  pub no_handlers : AreOneDecoding consts → ((handlers : List Handler) → AllZip (IsHandlerOf consts) decoded.program.handlers handlers → ⊥) → HasNoProgram consts is_static text decoded
  no_handlers one none code table program decodes c =
      let same = one code table c.decoded decoded c.decodes decodes in
      none program.handlers (subst (λ (d : Decoded). AllZip (IsHandlerOf consts) d.program.handlers program.handlers) same c.handlers)
