use Rattle.std.proofs.Common.{◌∙◌, ap}
use Rattle.std.specs.FinMap.{from_entries}
use Rattle.je_machine.specs.Heap.{key_cmp}
use Rattle.je_heap.proofs.KeyLemmas.{put_is, push_is}
use Rattle.je_heap.proofs.fields.put.Goals as goal

pub returns-in-Some : goal.returns-in-Some
returns-in-Some c =
    ap (λ es. from_entries {R = key_cmp} es) c.put_in.ensures
    ∙ put_is c.args.key c.args.value c.args.entries.now.items c.in-Some.i c.deref.result.now
    c.deref.ensures.value c.in-Some.ensures.place

pub returns-in_ok-push-in-None : goal.returns-in_ok-push-in-None
returns-in_ok-push-in-None c =
    ap (λ es. from_entries {R = key_cmp} es) c.in_ok-push-in-None.ensures.items
    ∙ push_is c.args.key c.args.value c.args.entries.now.items c.deref.result.now
    c.deref.ensures.value c.in-None.ensures.place
