-- A method has at most one program.
use Rattle.std.proofs.Common.{◌≡◌, ℕ, List, Option, Some, refl, sym, ap, subst, ◌∙◌}
use Rattle.std.specs.Prelude.{slice_get, ◌↔◌, Bool, true, false, IsTrue}
use Rattle.je_consts.specs.declared.place.Place.{Place}
use Rattle.je_consts.specs.Pool.{text_at}
use Rattle.je_class.specs.declared.member.Attribute.{Attribute}
use Rattle.je_class.specs.declared.member.Member.{Member}
use Rattle.je_class.specs.Class.{Class}
use Rattle.je_machine.specs.Operation.{Program}
use Rattle.je_instr.specs.declared.program.RawHandler.{RawHandler}
use Rattle.je_instr.specs.CodeProgram.{CodeProgram}
use Rattle.je_code.specs.Code.{Code, CodeBytes}
use Rattle.je_session.specs.ProgramOf.{IsCodeAt, ProgramOf}

pub some_one : {A : Type 0} (o : Option A) (x y : A) → o ≡ Some x → o ≡ Some y → y ≡ x
some_one o x y e f = cc

one_attribute : (consts : List Place) (attributes : List Attribute) (i j : ℕ) (a b : Attribute) → IsCodeAt consts attributes i a → IsCodeAt consts attributes j b → a ≡ b
one_attribute consts attributes i j a b ia ib =
    some_one (slice_get attributes i) b a (ap (slice_get attributes) (sym (ia.only j b ib.here ib.is_code)) ∙ ib.here) ia.here

-- a flag is what it says
pub one_flag : (a b : Bool) (P : Type 0) → (IsTrue a ↔ P) → (IsTrue b ↔ P) → a ≡ b
one_flag true true P f g = refl
one_flag true false P f g = let e = g.1 (f.0 refl) in absurd cc
one_flag false true P f g = let e = f.1 (g.0 refl) in absurd cc
one_flag false false P f g = refl

abbrev pub OneProgram : Type 0
OneProgram = (c : Class) (m : Member) (p q : Program) → ProgramOf c m p → ProgramOf c m q → p ≡ q

-- bytes are one code, and a code is one program
pub record ProgramLaws : Type 0 where
  pub code : (info : List ℕ) (c d : Code) → CodeBytes info c → CodeBytes info d → c ≡ d
  pub program : (consts : List Place) (is_static : Bool) (text code : List ℕ) (table : List RawHandler) (p q : Program)
      → CodeProgram consts is_static text code table p → CodeProgram consts is_static text code table q → p ≡ q

-- the codes of a method are one
pub one_code : ProgramLaws → (c : Class) (m : Member) (p q : Program) (ip : ProgramOf c m p) (iq : ProgramOf c m q) → ip.code ≡ iq.code
one_code laws c m p q ip iq =
    let attribute = one_attribute c.consts m.attributes ip.at iq.at ip.attribute iq.attribute ip.is_code iq.is_code in
    laws.code ip.attribute.bytes ip.code iq.code ip.bytes (subst (λ (a : Attribute). CodeBytes a.bytes iq.code) (sym attribute) iq.bytes)

pub one_program : ProgramLaws → OneProgram
one_program laws c m p q ip iq =
    let flag = one_flag iq.is_static ip.is_static _ iq.flag ip.flag in
    let text = some_one (text_at c.consts m.descriptor) ip.text iq.text ip.descriptor iq.descriptor in
    let of_code : CodeProgram c.consts ip.is_static ip.text ip.code.code ip.code.handlers q =
    subst (λ b. CodeProgram c.consts b ip.text ip.code.code ip.code.handlers q) flag
    (subst (λ t. CodeProgram c.consts iq.is_static t ip.code.code ip.code.handlers q) text
    (subst (λ (k : Code). CodeProgram c.consts iq.is_static iq.text k.code k.handlers q) (sym (one_code laws c m p q ip iq)) iq.of_code)) in
    laws.program c.consts ip.is_static ip.text ip.code.code ip.code.handlers p q ip.of_code of_code
