use Rattle.je_heap.proofs.PutLemmas.{field_is}
use Rattle.je_heap.proofs.heap.put_field.Goals as goal

pub returns-in_ok-put_field : goal.returns-in_ok-put_field
returns-in_ok-put_field c =
    field_is c.args.key c.args.value c.args.number c.args.objects.now c.index-objects-number.result
    _ c.if-number-objects.true c.in_ok-put_field.ensures
