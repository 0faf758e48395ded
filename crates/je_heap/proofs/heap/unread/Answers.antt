use Rattle.std.proofs.Common.{◌∙◌, ap}
use Rattle.je_machine.specs.Value.{admit}
use Rattle.je_heap.proofs.PutLemmas.{unread}
use Rattle.je_heap.proofs.heap.unread.Goals as goal

pub returns : goal.returns
returns c =
    unread c.args.kind c.args.key.now _ (c.admit.ensures ∙ ap (admit c.args.kind) c.zero_of.ensures)
