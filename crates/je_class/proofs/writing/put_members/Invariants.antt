use Rattle.std.proofs.Common.{◌≡◌, ◌++◌, List, length, take}
use Rattle.je_base.specs.Bytes.{u2}
use Rattle.je_base.specs.Parts.{each}
use Rattle.je_consts.specs.declared.place.Place.{Place}
use Rattle.je_class.specs.declared.member.Member.{Member}
use Rattle.je_class.specs.FileParts.{Test, spelled, member_parts}
use Rattle.je_class.proofs.writing.put_members.Given as goal

abbrev pub invariant-loop-member : goal.invariant-loop-member
invariant-loop-member l = (consts : List Place) (tests : Member → List Test) → l.out.items ≡ l.fn.out.items ++ (u2 (length l.members) ++ spelled (each (λ m. member_parts consts (tests m) m) (take l.member-index l.members)))
