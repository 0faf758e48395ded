use Rattle.std.proofs.Common.{[]}
use Rattle.std.proofs.lemmas.Result.{err_from_is_err_and}
use Rattle.je_code.proofs.Comes.{or_memory, then, stops}
use Rattle.je_code.proofs.reading.parts_at.Goals as goal

pub returns-in_err-max_stack : goal.returns-in_err-max_stack
returns-in_err-max_stack c =
    let p = err_from_is_err_and c.from_residual.result c.from_residual.ensures.1 in
    rw (p.1, p.2) (or_memory c.in_err-max_stack.ensures.number (λ h. (record { max_stack = h.0; max_locals = 0; code = []; handlers = []; attributes = [] }, stops _ h.1)))

pub returns-in_err-max_locals : goal.returns-in_err-max_locals
returns-in_err-max_locals c =
    let p = err_from_is_err_and c.from_residual-in_err-max_locals.result c.from_residual-in_err-max_locals.ensures.1 in
    rw (p.1, p.2) (or_memory c.in_err-max_locals.ensures.number (λ h. (record { max_stack = c.in_ok-max_stack.max_stack; max_locals = h.0; code = []; handlers = []; attributes = [] }, then c.in_ok-max_stack.ensures.number (stops _ h.1))))

pub returns-in_err-code : goal.returns-in_err-code
returns-in_err-code c =
    let p = err_from_is_err_and c.from_residual-in_err-code.result c.from_residual-in_err-code.ensures.1 in
    rw (p.1, p.2) (or_memory c.in_err-code.ensures (λ h. (record { max_stack = c.in_ok-max_stack.max_stack; max_locals = c.in_ok-max_locals.max_locals; code = h.0; handlers = []; attributes = [] }, then c.in_ok-max_stack.ensures.number (then c.in_ok-max_locals.ensures.number (stops _ h.1)))))

pub returns-in_err-handlers : goal.returns-in_err-handlers
returns-in_err-handlers c =
    let p = err_from_is_err_and c.from_residual-in_err-handlers.result c.from_residual-in_err-handlers.ensures.1 in
    rw (p.1, p.2) (or_memory c.in_err-handlers.ensures (λ h. (record { max_stack = c.in_ok-max_stack.max_stack; max_locals = c.in_ok-max_locals.max_locals; code = c.in_ok-code.code; handlers = h.0; attributes = [] }, then c.in_ok-max_stack.ensures.number (then c.in_ok-max_locals.ensures.number (then c.in_ok-code.ensures (stops _ h.1))))))

pub returns-in_err-attributes : goal.returns-in_err-attributes
returns-in_err-attributes c =
    let p = err_from_is_err_and c.from_residual-in_err-attributes.result c.from_residual-in_err-attributes.ensures.1 in
    rw (p.1, p.2) (or_memory c.in_err-attributes.ensures (λ h. (record { max_stack = c.in_ok-max_stack.max_stack; max_locals = c.in_ok-max_locals.max_locals; code = c.in_ok-code.code; handlers = c.in_ok-handlers.handlers.items; attributes = h.0 }, then c.in_ok-max_stack.ensures.number (then c.in_ok-max_locals.ensures.number (then c.in_ok-code.ensures (then c.in_ok-handlers.ensures h.1))))))

pub returns : goal.returns
returns c = then c.in_ok-max_stack.ensures.number (then c.in_ok-max_locals.ensures.number (then c.in_ok-code.ensures (then c.in_ok-handlers.ensures c.in_ok-attributes.ensures)))
