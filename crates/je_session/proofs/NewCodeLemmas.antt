-- The program of a method's new code can be assembled and written.
use Rattle.std.proofs.Common.{◌≡◌, ℕ, ◌+◌, ◌<◌, ◌≤◌, ◌⊎◌, List, [], ◌∷◌, length, get_or, Option, None, inl, inr, refl, sym, ap, subst, ◌∙◌, arith}
use Rattle.std.specs.Prelude.{Ok, IsSome}
use Rattle.std.specs.List.{AllByRecursion}
use Rattle.je_consts.specs.declared.place.Place.{Place}
use Rattle.je_instr.specs.declared.assembled.Assembled.{Assembled}
use Rattle.je_instr.specs.declared.assembled.SizeFault.{SizeFault}
use Rattle.je_instr.specs.declared.assembled.SizeFault.TheVariants as size
use Rattle.je_instr.specs.declared.instr.Instr.{Instr}
use Rattle.je_instr.specs.declared.instr.Instr.TheVariants as instr
use Rattle.je_instr.specs.declared.program.Program.{Program}
use Rattle.je_instr.specs.Allowed.{IsAllowed}
use Rattle.je_instr.specs.Assembling.{IsInRange, IsProgram, AllowsProgram, IsAssembled, IsSizeFault, too_long, too_far, placed}
use Rattle.je_instr.specs.CodeProgram.{HasTargets}
use Rattle.je_instr.specs.Decoding.{Decodes}
use Rattle.je_instr.specs.Forms.{form_at}
use Rattle.je_instr.specs.Shortest.{short_size, short_end, short_offsets}
use Rattle.je_code.specs.declared.attr.CodeAttr.{CodeAttr}
use Rattle.je_code.specs.declared.rows.Tables.{Tables}
use Rattle.je_code.specs.Moved.{HaveCounts, moved}
use Rattle.je_code.specs.Written.{CanBeWritten, IsWritten}
use Rattle.je_session.specs.declared.edit.stop.EditStop.TheVariants as edit
use Rattle.je_session.specs.declared.plan.Fragment.{Fragment}
use Rattle.je_session.specs.Kept.{IsSoFar}
use Rattle.je_session.specs.Splice.{new_instrs, new_places, CanBeSpliced, IsNewCode}
use Rattle.je_session.specs.Stops.{size_stop}
use Rattle.je_session.proofs.SizeLemmas.{spliced_end, end_behind, length_code, none_far, read_end}
use Rattle.je_session.proofs.SpliceLemmas.{AllByRecursion-new_instrs}

-- some instructions that are edited so far, which the constants allow, of at most 65,535 bytes, and
-- no handlers
pub record IsShortProgram (consts : List Place) (p : Program) : Type 0 where
  pub so_far : AllByRecursion (IsSoFar consts) p.instrs
  pub allowed : AllByRecursion (IsAllowed consts) p.instrs
  pub no_handlers : p.handlers ≡ []
  pub some : 0 < length p.instrs
  pub short : short_end 0 p.instrs ≤ 65535

module _ (consts : List Place) where
  no_targets : (count : ℕ) (instrs : List Instr) → AllByRecursion (IsSoFar consts) instrs → AllByRecursion (HasTargets count) instrs
  no_targets count [] so_far = tt
  no_targets count (instr.Simple opcode ∷ instrs) so_far = (tt, no_targets count instrs so_far.1)
  no_targets count (instr.Invoke opcode index ∷ instrs) so_far = (tt, no_targets count instrs so_far.1)
  no_targets count (_ ∷ instrs) so_far = absurd so_far.0

  in_range : (instrs : List Instr) → AllByRecursion (IsSoFar consts) instrs → AllByRecursion (IsAllowed consts) instrs → AllByRecursion IsInRange instrs
  in_range [] so_far allowed = tt
  in_range (instr.Simple opcode ∷ instrs) so_far allowed = (allowed.0, in_range instrs so_far.1 allowed.1)
  in_range (instr.Invoke opcode index ∷ instrs) so_far allowed = (subst IsSome (sym allowed.0.1) refl, in_range instrs so_far.1 allowed.1)
  in_range (_ ∷ instrs) so_far allowed = absurd so_far.0

  pub is_program : (p : Program) → IsShortProgram consts p → IsProgram p
  is_program p is = record {
    targets = no_targets (length p.instrs) p.instrs is.so_far;
    operands = in_range p.instrs is.so_far is.allowed;
    handlers = rw is.no_handlers tt;
  }

  pub allows_program : (p : Program) → IsShortProgram consts p → AllowsProgram consts p
  allows_program p is = record { operands = is.allowed; caught = rw is.no_handlers tt }

  pub no_size_fault : (p : Program) (e : SizeFault) → IsShortProgram consts p → IsSizeFault p e → ⊥
  no_size_fault p _ is (too_long long) = let short = is.short in omega (arith, short, long)
  no_size_fault p _ is (too_far index short far) = none_far consts (short_offsets 0 p.instrs) 0 p.instrs 0 index is.so_far far

  -- so it is not assembled for want of memory alone
  pub size_stops : (p : Program) (e : SizeFault) → IsShortProgram consts p → (e ≡ size.Memory) ⊎ IsSizeFault p e → size_stop e ≡ edit.Memory
  size_stops p e is (inl memory) = ap size_stop memory
  size_stops p e is (inr fault) = absurd (no_size_fault p e is fault)

  pub can_be_written : (p : Program) (a : Assembled) (tables : Tables) → IsShortProgram consts p → IsAssembled p a → HaveCounts tables → CanBeWritten a tables
  can_be_written p a tables is assembled counts =
      let size = ap length assembled.code in
      let code = length_code consts (short_offsets 0 p.instrs) 0 p.instrs is.so_far in
      let behind = end_behind consts 0 p.instrs is.so_far in
      record {
        program = p;
        is_program = is_program p is;
        assembled = assembled;
        some = omega (arith, is.some, size, code, behind);
        short = omega (arith, is.short, size, code);
        handlers = let none = ap length assembled.table in rw (none, is.no_handlers) (omega arith);
        lines = counts.lines;
        vars = counts.vars;
        var_types = counts.var_types;
      }

length_offsets : (at : ℕ) (instrs : List Instr) → length (short_offsets at instrs) ≡ length instrs + 1
length_offsets at [] = refl
length_offsets at (i ∷ instrs) = omega (arith, length_offsets (at + short_size at i) instrs)

-- there is an offset for each instruction, and one for the end
pub count_offsets : (p : Program) (a : Assembled) → IsAssembled p a → length a.offsets ≡ length p.instrs + 1
count_offsets p a assembled = ap length assembled.offsets ∙ length_offsets 0 p.instrs

module _ (simple : (code : List ℕ) (at opcode end : ℕ) → form_at code at ≡ Ok (instr.Simple opcode, end) → end ≡ at + 1)
    (invoke : (code : List ℕ) (at opcode index end : ℕ) → form_at code at ≡ Ok (instr.Invoke opcode index, end) → end ≡ at + 3) where
  -- the old instructions have at most 65,535 bytes
  pub old_end : (consts : List Place) (old : CodeAttr) (chosen : List (Option Fragment)) → CanBeSpliced consts old chosen → short_end 0 old.decoded.program.instrs ≤ 65535
  old_end consts old chosen can =
      let decodes = can.is_code.decodes in
      let code = can.is_code.code.code in
      let end = read_end consts simple invoke code 0 decodes.located decodes.starts (length code) decodes.starts old.decoded.program.instrs decodes.follow decodes.instrs can.so_far in
      omega (arith, end, can.is_code.bytes.sound.1.1.0.1.0.1)

  -- and so there are at most so many
  pub old_few : (consts : List Place) (old : CodeAttr) (chosen : List (Option Fragment)) → CanBeSpliced consts old chosen → length old.decoded.program.instrs ≤ 65535
  old_few consts old chosen can =
      let most = old_end consts old chosen can in
      let behind = end_behind consts 0 old.decoded.program.instrs can.so_far in
      omega (arith, most, behind)

  pub is_short : (consts : List Place) (old : CodeAttr) (chosen : List (Option Fragment)) (p : Program) → CanBeSpliced consts old chosen
      → p.instrs ≡ new_instrs chosen old.decoded.program.instrs → p.handlers ≡ [] → IsShortProgram consts p
  is_short consts old chosen p can instrs_are none =
      let old_instrs = old.decoded.program.instrs in
      let most = old_end consts old chosen can in
      let less = spliced_end consts 0 0 chosen old_instrs can.so_far (omega arith) in
      let some = can.some in
      record {
        so_far = rw instrs_are (AllByRecursion-new_instrs (IsSoFar consts) chosen old_instrs can.so_far);
        allowed = rw instrs_are (AllByRecursion-new_instrs (IsAllowed consts) chosen old_instrs can.allowed);
        no_handlers = none;
        some = rw instrs_are some;
        short = rw instrs_are (omega (arith, most, less));
      }

  -- there are at most 65,535 new ones
  pub new_few : (consts : List Place) (old : CodeAttr) (chosen : List (Option Fragment)) → CanBeSpliced consts old chosen
      → length (new_instrs chosen old.decoded.program.instrs) ≤ 65535
  new_few consts old chosen can =
      let instrs = new_instrs chosen old.decoded.program.instrs in
      let is = is_short consts old chosen (record { instrs = instrs; handlers = [] }) can refl refl in
      omega (arith, end_behind consts 0 instrs is.so_far, is.short)

-- what is written is the new code
pub is_new_code : (consts : List Place) (old : CodeAttr) (chosen : List (Option Fragment)) (p : Program) (a : Assembled) (new_of : List ℕ) (count : ℕ) (tables : Tables) (bytes : List ℕ)
    → p.instrs ≡ new_instrs chosen old.decoded.program.instrs → p.handlers ≡ [] → Decodes consts a.code a.table (placed p a)
    → new_of ≡ new_places 0 chosen old.decoded.program.instrs → count ≡ length p.instrs → tables ≡ moved (λ i. get_or new_of i 0) count old
    → IsWritten consts a old.max_stack old.max_locals tables None bytes → IsNewCode consts old chosen bytes
is_new_code consts old chosen p a new_of count tables bytes instrs_are none decodes new_of_is count_is tables_are written =
    let places = new_places 0 chosen old.decoded.program.instrs in
    let these = tables_are ∙ ap (λ (l : List ℕ). moved (λ i. get_or l i 0) count old) new_of_is ∙ ap (λ (n : ℕ). moved (λ i. get_or places i 0) n old) count_is in
    record {
      program = p;
      instrs = instrs_are;
      no_handlers = none;
      assembled = a;
      decodes = decodes;
      written = subst (λ (t : Tables). IsWritten consts a old.max_stack old.max_locals t None bytes) these written;
    }
