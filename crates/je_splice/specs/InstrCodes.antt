-- Instructions as code has them, and entries of its exception table, laid out (JVMS 4.7.3 and 6.5).
use Rattle.std.specs.Prelude.{ℕ, ◌+◌, ◌||◌, ◌&&◌, map, Bool, false, true, not, nat_eq, nat_le}
use Rattle.std.specs.Prelude.{nat_lt}
use Rattle.je_instr.specs.declared.instr.Case.{Case}
use Rattle.je_instr.specs.declared.instr.Instr.{Instr}
use Rattle.je_instr.specs.declared.instr.Instr.TheVariants.{Simple, Branch, Goto, TableSwitch}
use Rattle.je_instr.specs.declared.instr.Instr.TheVariants.{LookupSwitch}
use Rattle.je_instr.specs.declared.opcodes.TheConstants as op
use Rattle.je_instr.specs.declared.program.Handler.{Handler}
use Rattle.je_splice.specs.Layout.{Codes}

abbrev pub redirected_case : (ℕ → ℕ) → Case → Case
redirected_case to c = record { key = c.key; target = to c.target }

-- the instruction with its targets under a map
abbrev pub redirected : (ℕ → ℕ) → Instr → Instr
redirected to (Branch opcode target) = Branch opcode (to target)
redirected to (Goto target) = Goto (to target)
redirected to (TableSwitch low targets fallback) =
    TableSwitch low (map to targets) (to fallback)
redirected to (LookupSwitch cases fallback) =
    LookupSwitch (map (redirected_case to) cases) (to fallback)
redirected to instr = instr

-- an opcode without operands that leaves the instructions: the returns, and athrow
abbrev pub leaves : ℕ → Bool
leaves opcode = (nat_le op.IRETURN opcode && nat_le opcode op.RETURN) || nat_eq opcode op.ATHROW

-- it may lead to the next one
abbrev pub leads_on : Instr → Bool
leads_on (Simple opcode) = not (leaves opcode)
leads_on (Goto target) = false
leads_on (TableSwitch low targets fallback) = false
leads_on (LookupSwitch cases fallback) = false
leads_on instr = true

-- the entry with its range under two maps and its target under a third
abbrev pub moved_entry_of : (ℕ → ℕ) → (ℕ → ℕ) → (ℕ → ℕ) → Handler → Handler
moved_entry_of start end target h =
    record {
      start = start h.start;
      end = end h.end;
      target = target h.target;
      catch_const = h.catch_const;
    }

abbrev pub covers_some : Handler → Bool
covers_some h = nat_lt h.start h.end

-- those of code
abbrev pub instr_codes : Codes Instr Handler
instr_codes =
    record {
      keep = redirected;
      put = λ at length. redirected (λ target. at + target);
      jump = λ place target. Goto target;
      falls = leads_on;
      move = moved_entry_of;
      ranges = covers_some;
    }
