-- What code of two instructions is decoded to, with entries of an exception table.
use Rattle.std.proofs.Common.{◌≡◌, ℕ, zero, suc, pos, List, [], ◌∷◌, true, None, codes, refl, ◌⊎◌}
use Rattle.std.proofs.Common.{inl, inr, arith}
use Rattle.std.proofs.lemmas.Int.{ints}
use Rattle.je_consts.specs.declared.place.Place.{Place}
use Rattle.je_instr.specs.declared.fault.CodeFault.TheVariants.{BadRange}
use Rattle.je_instr.specs.declared.instr.Instr.{Instr}
use Rattle.je_instr.specs.declared.instr.Instr.TheVariants as instr
use Rattle.je_instr.specs.declared.opcodes.TheConstants as op
use Rattle.je_instr.specs.declared.program.Handler.{Handler}
use Rattle.je_instr.specs.declared.program.RawHandler.{RawHandler}
use Rattle.je_instr.specs.CodeProgram.{CodeProgram}
use Rattle.je_instr.specs.Decoding.{Stands, Follow, Begins, IsEntry, Decodes, FirstFault, no_entry}
use Rattle.je_instr.specs.Forms.{u2_at, size_of, push_form, member_form, fixed_form, form_at}
use Rattle.je_instr.specs.Opcodes.{simple_operations}
use Rattle.je_instr.specs.Sample.{push_and_return, pushed_with, push_program}

abbrev pushed : List Instr
pushed = instr.IntPush (pos 256) ∷ instr.Simple op.RETURN ∷ []

abbrev starts : List ℕ
starts = 0 ∷ 3 ∷ []

-- an offset at which no instruction begins is neither of the two
begins : (offset k : ℕ) → Begins starts offset k → (offset ≡ 0) ⊎ (offset ≡ 3)
begins offset zero b = inl cc
begins offset (suc zero) b = inr cc
begins offset (suc (suc k)) b = absurd cc

module _ (consts : List Place) where
  first : Stands consts push_and_return 0 (instr.IntPush (pos 256)) 3
  unfolding form_at size_of fixed_form push_form u2_at
  first = record { form = refl; allowed = omega (arith, ints) }

  second : Stands consts push_and_return 3 (instr.Simple op.RETURN) 4
  unfolding form_at size_of fixed_form member_form simple_operations
  second = record { form = refl; allowed = refl }

  follow : Follow consts push_and_return 0 pushed starts 4
  follow = (refl, 3, first, (refl, 4, second, refl))

  decodes : (raw : RawHandler) (handler : Handler) → IsEntry consts starts 4 raw handler
      → Decodes consts push_and_return (raw ∷ []) (pushed_with handler)
  decodes raw handler is = record {
    located = pushed;
    starts = starts;
    follow = follow;
    offsets = refl;
    instrs = (refl, (refl, tt));
    handlers = (is, tt);
  }

  refused : (raw : RawHandler) → ((handler : Handler) → IsEntry consts starts 4 raw handler → ⊥)
      → FirstFault consts push_and_return (raw ∷ []) (BadRange 0)
  refused raw none = no_entry pushed pushed starts 0 follow (refl, (refl, tt)) (inl (none, refl))

  pub handler_is : Decodes consts push_and_return
      (record { start = 0; end = 3; target = 3; catch_const = 0 } ∷ [])
      (pushed_with (record { start = 0; end = 1; target = 1; catch_const = 0 }))
  handler_is = decodes _ _ (record {
    start = refl;
    end = refl;
    target = refl;
    some = omega arith;
    catch_const = refl;
    class = inl refl;
  })

  pub to_end_is : Decodes consts push_and_return
      (record { start = 3; end = 4; target = 0; catch_const = 0 } ∷ [])
      (pushed_with (record { start = 1; end = 2; target = 0; catch_const = 0 }))
  to_end_is = decodes _ _ (record {
    start = refl;
    end = refl;
    target = refl;
    some = omega arith;
    catch_const = refl;
    class = inl refl;
  })

  no_begin : (offset : ℕ) → (offset ≡ 0) ⊎ (offset ≡ 3) → offset ≡ 1 ⊎ offset ≡ 4 → ⊥
  no_begin offset (inl a) (inl b) = omega (arith, a, b)
  no_begin offset (inl a) (inr b) = omega (arith, a, b)
  no_begin offset (inr a) (inl b) = omega (arith, a, b)
  no_begin offset (inr a) (inr b) = omega (arith, a, b)

  pub no_target_is : FirstFault consts push_and_return
      (record { start = 0; end = 3; target = 4; catch_const = 0 } ∷ []) (BadRange 0)
  no_target_is = refused _ (λ h is. no_begin 4 (begins 4 h.target is.target) (inr refl))

  pub no_range_is : FirstFault consts push_and_return
      (record { start = 3; end = 3; target = 0; catch_const = 0 } ∷ []) (BadRange 0)
  no_range_is = refused _ (λ h is. let some = is.some in omega (arith, some))

  pub within_is : FirstFault consts push_and_return
      (record { start = 1; end = 3; target = 3; catch_const = 0 } ∷ []) (BadRange 0)
  within_is = refused _ (λ h is. no_begin 1 (begins 1 h.start is.start) (inl refl))

  pub whole_is : CodeProgram consts true (codes "()V") push_and_return [] push_program
  unfolding simple_operations
  whole_is = record {
    types = record { params = []; result = None };
    descriptor = (record { params = tt; result = tt; within = omega arith }, refl);
    parameters = refl;
    decoded = record {
      program = record { instrs = pushed; handlers = [] };
      offsets = 0 ∷ 3 ∷ 4 ∷ [];
    };
    decodes = record {
      located = pushed;
      starts = starts;
      follow = follow;
      offsets = refl;
      instrs = (refl, (refl, tt));
      handlers = tt;
    };
    resolved = (
      record { allowed = first.allowed; becomes = refl },
      (record { allowed = second.allowed; becomes = refl }, tt),
    );
    handlers = tt;
  }
