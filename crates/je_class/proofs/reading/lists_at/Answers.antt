use Rattle.std.proofs.Common.{[]}
use Rattle.std.proofs.lemmas.Result.{err_from_is_err_and}
use Rattle.je_class.proofs.Comes.{or_memory, then, stops}
use Rattle.je_class.proofs.reading.lists_at.Goals as goal

pub returns-in_err-interfaces : goal.returns-in_err-interfaces
returns-in_err-interfaces c =
    let p = err_from_is_err_and c.from_residual.result c.from_residual.ensures.1 in
    rw (p.1, p.2) (or_memory c.in_err-interfaces.ensures (λ h. ((h.0, [], [], []), stops _ h.1)))

pub returns-in_err-fields : goal.returns-in_err-fields
returns-in_err-fields c =
    let p = err_from_is_err_and c.from_residual-in_err-fields.result c.from_residual-in_err-fields.ensures.1 in
    rw (p.1, p.2) (or_memory c.in_err-fields.ensures (λ h. ((c.in_ok-interfaces.interfaces.items, h.0, [], []), then c.in_ok-interfaces.ensures (stops _ h.1))))

pub returns-in_err-methods : goal.returns-in_err-methods
returns-in_err-methods c =
    let p = err_from_is_err_and c.from_residual-in_err-methods.result c.from_residual-in_err-methods.ensures.1 in
    rw (p.1, p.2) (or_memory c.in_err-methods.ensures (λ h. ((c.in_ok-interfaces.interfaces.items, c.in_ok-fields.fields.items, h.0, []), then c.in_ok-interfaces.ensures (then c.in_ok-fields.ensures (stops _ h.1)))))

pub returns-in_err-attributes : goal.returns-in_err-attributes
returns-in_err-attributes c =
    let p = err_from_is_err_and c.from_residual-in_err-attributes.result c.from_residual-in_err-attributes.ensures.1 in
    rw (p.1, p.2) (or_memory c.in_err-attributes.ensures (λ h. ((c.in_ok-interfaces.interfaces.items, c.in_ok-fields.fields.items, c.in_ok-methods.methods.items, h.0), then c.in_ok-interfaces.ensures (then c.in_ok-fields.ensures (then c.in_ok-methods.ensures h.1)))))

pub returns : goal.returns
returns c = then c.in_ok-interfaces.ensures (then c.in_ok-fields.ensures (then c.in_ok-methods.ensures c.in_ok-attributes.ensures))
