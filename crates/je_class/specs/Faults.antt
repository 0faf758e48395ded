-- The first test that fails where bytes are no class file.
use Rattle.std.specs.Prelude.{◌≡◌, ◌≢◌, ℕ, ◌<◌, ◌≤◌, List, [], ◌++◌, length}
use Rattle.je_base.specs.Parts.{Breaks}
use Rattle.je_class.specs.declared.fault.ClassFault.{ClassFault}
use Rattle.je_class.specs.declared.fault.TheConstants.{MOST_BYTES}
use Rattle.je_class.specs.declared.fault.ClassFault.TheVariants.{TooLong, Trailing}
use Rattle.je_class.specs.Class.{Class}
use Rattle.je_class.specs.ClassBytes.{ClassBytes}
use Rattle.je_class.specs.FileParts.{class_format, parts}

-- The first test that fails: of the length, of the parts in order, of the end.
pub data FirstFault (bytes : List ℕ) : ClassFault → Type 0 where
  too_long : MOST_BYTES < length bytes → FirstFault bytes TooLong
  -- the bytes follow some class file up to a part that does not stand
  breaks : (magic : ℕ) (c : Class) (fault : ClassFault) → length bytes ≤ MOST_BYTES
      → Breaks class_format bytes 0 (parts magic c) fault → FirstFault bytes fault
  -- a class file, and something behind it
  trailing : (c : Class) (front rest : List ℕ) → length bytes ≤ MOST_BYTES → bytes ≡ front ++ rest
      → rest ≢ [] → ClassBytes front c → FirstFault bytes (Trailing (length front))
