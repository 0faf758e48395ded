-- Bytes are one class file or have one first fault.
use Rattle.std.proofs.Common.{◌≡◌, ℕ, ◌<◌, ◌≤◌, List, length, refl, arith}
use Rattle.je_base.specs.Parts.{OneWay}
use Rattle.je_class.specs.declared.fault.TheConstants.{MOST_BYTES}
use Rattle.je_class.specs.declared.fault.ClassFault.{ClassFault}
use Rattle.je_class.specs.declared.fault.ClassFault.TheVariants.{TooLong}
use Rattle.je_class.specs.Class.{Class}
use Rattle.je_class.specs.ClassBytes.{ClassBytes}
use Rattle.je_class.specs.FileParts.{class_format}
use Rattle.je_class.specs.Faults.{FirstFault, too_long, breaks, trailing}
use Rattle.je_class.proofs.ReadLemmas.{stands_front, stands_all, stands_only, stands_fault, breaks_fault}

module _ (way : OneWay class_format) (bytes : List ℕ) where
  pub same_class : (c d : Class) → ClassBytes bytes c → ClassBytes bytes d → c ≡ d
  same_class c d h k = (stands_only bytes c (length bytes) (stands_all bytes c h) way d k).0

  pub class_no_fault : (c : Class) (d : ClassFault) → length bytes ≤ MOST_BYTES → ClassBytes bytes c → FirstFault bytes d → ⊥
  class_no_fault c d within h first =
      let more = (stands_fault bytes c (length bytes) (stands_all bytes c h) way d within first).0 in
      omega arith

  too_long_alone : (e : ClassFault) → MOST_BYTES < length bytes → FirstFault bytes e → TooLong ≡ e
  too_long_alone _ more (too_long other) = refl
  too_long_alone _ more (breaks magic c e within h) = absurd (omega arith)
  too_long_alone _ more (trailing c front rest within whole some h) = absurd (omega arith)

  pub one_fault : (d e : ClassFault) → FirstFault bytes d → FirstFault bytes e → d ≡ e
  one_fault _ e (too_long more) g = too_long_alone e more g
  one_fault _ e (breaks magic c d within h) g = breaks_fault bytes magic c d (record { goes = h }) way e within g
  one_fault _ e (trailing c front rest within whole some h) g = (stands_fault bytes c (length front) (stands_front bytes c front rest whole h) way e within g).1
