-- The replies and responses of the definitions, and the forms that the program has of them.
use Rattle.je_machine.specs.Outside as machine
use Rattle.je_heap.specs.declared.event.Reply.{Reply}
use Rattle.je_heap.specs.declared.event.Reply.TheVariants as replies

-- what a call returned, as the definition has it
abbrev pub reply_of : Reply → machine.Reply
reply_of (replies.Gives value) = machine.Gives value
reply_of (replies.Throws reference) = machine.Throws reference
