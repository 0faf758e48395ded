use Rattle.std.proofs.Common.{length, ◌≤◌, arith}
use Rattle.std.proofs.lemmas.Bool.{leb-true, le-leb}
use Rattle.je_instr.specs.OpcodeTests.{brackets}
use Rattle.je_instr.proofs.TextLemmas.{made_of_class, class_made_of, made_of_array, array_made_of}
use Rattle.je_instr.proofs.TextLemmas.{refuted}
use Rattle.je_instr.proofs.texts.is_made_of.Goals as goal

pub returns-then-is_class_name : goal.returns-then-is_class_name
returns-then-is_class_name c =
    let name = c.is_class_name.ensures.0 c.if-is_class_name.true in
    (λ h. made_of_class c.args.text.now name (leb-true (length c.args.text.now) 65532 h), λ k. le-leb (length c.args.text.now) 65532 (class_made_of c.args.text.now name k.0 k.1))

pub returns-then-not-is_array_type : goal.returns-then-not-is_array_type
returns-then-not-is_array_type c = (
  λ h. absurd cc,
  λ k.
      let a = array_made_of c.args.text.now (λ name. refuted c.is_class_name.result c.if-is_class_name.false (c.is_class_name.ensures.1 name)) k.0 k.1 in
      absurd (refuted c.is_array_type.result c.if-not-is_array_type.true (c.is_array_type.ensures.1 (a.0, a.1))),
)

pub returns-then-brackets-gt254 : goal.returns-then-brackets-gt254
returns-then-brackets-gt254 c = (
  λ h. absurd cc,
  λ k.
      let a = array_made_of c.args.text.now (λ name. refuted c.is_class_name.result c.if-is_class_name.false (c.is_class_name.ensures.1 name)) k.0 k.1 in
      absurd (omega (arith, a.2, c.if-brackets-gt254.true, c.brackets.ensures)),
)

pub returns : goal.returns
returns c =
    let array = c.is_array_type.ensures.0 c.if-not-is_array_type.false in
    let within : brackets c.args.text.now ≤ 254 = omega (arith, c.if-brackets-gt254.false, c.brackets.ensures) in (
      λ h. made_of_array c.args.text.now array.0 array.1 within (leb-true (length c.args.text.now) 65534 h),
      λ k. le-leb (length c.args.text.now) 65534 (array_made_of c.args.text.now (λ name. refuted c.is_class_name.result c.if-is_class_name.false (c.is_class_name.ensures.1 name)) k.0 k.1).3,
    )
