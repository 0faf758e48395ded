-- The program of a method under a constant pool that has grown.
use Rattle.std.proofs.Common.{◌≡◌, ℕ, ◌<◌, List, Some, length, sym, subst, ◌∙◌}
use Rattle.std.specs.Prelude.{All, Bool, slice_get}
use Rattle.std.proofs.lemmas.List.Elements.{All-get_or}
use Rattle.std.proofs.lemmas.Option.{slice_get_within, get_or_from_slice_get}
use Rattle.je_consts.specs.declared.place.Place.{Place}
use Rattle.je_consts.specs.Adding.{Keeps}
use Rattle.je_class.specs.declared.member.Attribute.{Attribute}
use Rattle.je_class.specs.declared.member.Member.{Member}
use Rattle.je_class.specs.Class.{Class}
use Rattle.je_class.specs.Grown.{IsSameAttribute, IsSameMember, NamesStay}
use Rattle.je_machine.specs.Operation.{Program}
use Rattle.je_instr.specs.declared.program.RawHandler.{RawHandler}
use Rattle.je_instr.specs.CodeProgram.{CodeProgram}
use Rattle.je_session.specs.ProgramOf.{IsCodeAt, ProgramOf}

-- what holds of each element holds of the one at a place
all_at : {A : Type 0} (P : A → Type 0) (xs : List A) (i : ℕ) (x : A) → All P xs → slice_get xs i ≡ Some x → P x
all_at P xs i x all here =
    let within : i < length xs = slice_get_within xs i x here in
    subst P (get_or_from_slice_get xs i x x here) (All-get_or P xs i x within all)

code_stays : (old new : List Place) (attributes : List Attribute) (at : ℕ) (attribute : Attribute) → All (IsSameAttribute old new) attributes
    → IsCodeAt old attributes at attribute → IsCodeAt new attributes at attribute
code_stays old new attributes at attribute same is = record {
  here = is.here;
  is_code = all_at (IsSameAttribute old new) attributes at attribute same is.here ∙ is.is_code;
  only = λ i other here is_code. is.only i other here (sym (all_at (IsSameAttribute old new) attributes i other same here) ∙ is_code);
}

pub program_stays : ((old new : List Place) → Keeps old new → (is_static : Bool) (text code : List ℕ) (table : List RawHandler) (p : Program)
    → CodeProgram old is_static text code table p → CodeProgram new is_static text code table p)
    → (c d : Class) (at : ℕ) (m : Member) (program : Program) → NamesStay c d.consts → Keeps c.consts d.consts → slice_get c.methods at ≡ Some m
    → ProgramOf c m program → ProgramOf d m program
program_stays stays c d at m program names keeps here p =
    let same = all_at (IsSameMember c.consts d.consts) c.methods at m names.methods here in
    record {
      is_static = p.is_static;
      flag = p.flag;
      text = p.text;
      descriptor = same.descriptor ∙ p.descriptor;
      at = p.at;
      attribute = p.attribute;
      is_code = code_stays c.consts d.consts m.attributes p.at p.attribute same.attributes p.is_code;
      code = p.code;
      bytes = p.bytes;
      of_code = stays c.consts d.consts keeps p.is_static p.text p.code.code p.code.handlers program p.of_code;
    }
