-- Serves private functions: what a constant has to be to name a method.
use Rattle.std.specs.Prelude.{Option, Some, None}
use Rattle.je_consts.specs.declared.constant.MemberTag.TheVariants.{Method}
use Rattle.je_machine.specs.Content.{Content, Member}

-- the content of a method, and none of any other
abbrev pub of_method : Option Content → Option Content
of_method (Some (Member Method class name descriptor)) = Some (Member Method class name descriptor)
of_method _ = None
