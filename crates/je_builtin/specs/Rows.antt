-- Serves private functions: what a row of the code's table stands for.
use Rattle.std.specs.Prelude.{ℕ, List, map, Option}
use Rattle.std.specs.Borrow.{Bor}
use Rattle.std.specs.Option.{option_map}
use Rattle.std.specs.Str.{chars}
use Rattle.je_base.specs.Encoding.{encoding}
use Rattle.je_desc.specs.declared.summary.MemberSig.{MemberSig}
use Rattle.je_desc.specs.declared.summary.Summary.{Summary}

-- a string of the table
abbrev String : Type 0
String = Bor (List ℕ)

-- a row of a field or a method
abbrev pub Member : Type 0
Member = ℕ × String × String

-- a row of a class
abbrev pub Class : Type 0
Class =
    String × Option String × Bor (List String) × ℕ × Bor (List Member) × Bor (List Member)

-- the text of a string
abbrev pub text_of : List ℕ → List ℕ
text_of string = encoding (chars string)

-- the field or method of a row
abbrev pub signature_of : Member → MemberSig
signature_of m = record { access = m.0; name = text_of m.1.now; descriptor = text_of m.2.now }

-- the class of a row
abbrev pub summary_of : Class → Summary
summary_of c = record {
  name = text_of c.0.now;
  super_name = option_map (λ name. text_of name.now) c.1;
  interfaces = map (λ name. text_of name.now) c.2.now;
  access = c.3;
  fields = map signature_of c.4.now;
  methods = map signature_of c.5.now;
}
