-- Faults in words, as a printed line has them.
use Rattle.std.specs.Prelude.{ℕ, List, ◌++◌, codes}
use Rattle.std.specs.Fmt.{decimal}
use Rattle.je_class.specs.declared.fault.ClassFault.{ClassFault}
use Rattle.je_class.specs.declared.fault.ClassFault.TheVariants.{TooLong, Truncated, BadMagic}
use Rattle.je_class.specs.declared.fault.ClassFault.TheVariants.{Version, BadConst, BadIndex}
use Rattle.je_class.specs.declared.fault.ClassFault.TheVariants.{BadDescriptor, BadAttribute}
use Rattle.je_class.specs.declared.fault.ClassFault.TheVariants.{Trailing, Memory}

abbrev pub fault_words : ClassFault → List ℕ
fault_words TooLong = codes "too long"
fault_words (Truncated at) = codes "truncated " ++ decimal at
fault_words BadMagic = codes "bad magic"
fault_words (Version major) = codes "version " ++ decimal major
fault_words (BadConst index) = codes "bad constant " ++ decimal index
fault_words (BadIndex at) = codes "bad index " ++ decimal at
fault_words (BadDescriptor at) = codes "bad descriptor " ++ decimal at
fault_words (BadAttribute at) = codes "bad attribute " ++ decimal at
fault_words (Trailing at) = codes "trailing " ++ decimal at
fault_words Memory = codes "out of memory"
