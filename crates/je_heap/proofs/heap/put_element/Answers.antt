use Rattle.je_heap.proofs.PutLemmas.{element_is}
use Rattle.je_heap.proofs.heap.put_element.Goals as goal

pub returns-then-number-objects : goal.returns-then-number-objects
returns-then-number-objects c =
    element_is c.args.i c.args.value c.args.number c.args.objects.now c.index-objects-number.result
    _ c.if-number-objects.true c.put_element.ensures
