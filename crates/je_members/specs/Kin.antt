-- Serves private functions: what is asked of a class, what stands directly above it.
use Rattle.std.specs.Prelude.{Result}
use Rattle.je_desc.specs.declared.summary.Summary.{Summary}
use Rattle.je_world.specs.declared.link.Link.{Link}
use Rattle.je_world.specs.Question.{Name, Question, Answered, Look}
use Rattle.je_members.specs.Among.{found}
use Rattle.je_members.specs.declared.kin.Kin.{Kin}

-- the superclass and the interfaces of a class (JVMS 4.1)
abbrev pub kin_of : Summary → Kin
kin_of class = record { super_name = class.super_name; interfaces = class.interfaces }

abbrev pub kin_at : Name → Question (Result Kin Link)
kin_at name = Look name (λ known. Answered (found name kin_of known))
