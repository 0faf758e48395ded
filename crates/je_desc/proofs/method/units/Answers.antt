use Rattle.std.proofs.Common.{Some, ap, arith}
use Rattle.je_desc.proofs.Slices.{first_and_rest}
use Rattle.je_desc.proofs.Descriptors.{method_of-front, front_of-method}
use Rattle.je_desc.proofs.method.units.Goals as goal

pub returns-in_err-units-clause-none : goal.returns-in_err-units-clause-none
returns-in_err-units-clause-none c = rw c.from_residual.ensures (λ n method.
    let split = first_and_rest c.args.b.now c.in-40.len_at_least in
    let front = front_of-method c.args.b.now _ _ n split method in
    c.in_err-units.ensures.only n front.2 front.1 front.3)

pub returns-in_err-units-clause-only : goal.returns-in_err-units-clause-only
returns-in_err-units-clause-only c = λ n method.
    let split = first_and_rest c.args.b.now c.in-40.len_at_least in
    let front = front_of-method c.args.b.now _ _ n split method in
    absurd (c.in_err-units.ensures.only n front.2 front.1 front.3)

pub returns-then-is_return-clause-some : goal.returns-then-is_return-clause-some
returns-then-is_return-clause-some c =
    let split = first_and_rest c.args.b.now c.in-40.len_at_least in
    method_of-front c.args.b.now _ _ c.in_ok-units.units c.in_ok-units.result.now split (omega arith) c.in_ok-units.ensures.some.0 c.in_ok-units.ensures.some.1 (c.is_return.ensures.0 c.if-is_return.true)

pub returns-then-is_return-clause-only : goal.returns-then-is_return-clause-only
returns-then-is_return-clause-only c = λ n method.
    let split = first_and_rest c.args.b.now c.in-40.len_at_least in
    let front = front_of-method c.args.b.now _ _ n split method in
    ap Some (c.in_ok-units.ensures.only n front.2 front.1 front.3).0

pub returns-else-is_return-clause-none : goal.returns-else-is_return-clause-none
returns-else-is_return-clause-none c = λ n method.
    let split = first_and_rest c.args.b.now c.in-40.len_at_least in
    let front = front_of-method c.args.b.now _ _ n split method in
    let same = (c.in_ok-units.ensures.only n front.2 front.1 front.3).1 in
    cc (c.is_return.ensures.1 (rw same front.4), c.if-is_return.false)

pub returns-else-is_return-clause-only : goal.returns-else-is_return-clause-only
returns-else-is_return-clause-only c = λ n method.
    let split = first_and_rest c.args.b.now c.in-40.len_at_least in
    let front = front_of-method c.args.b.now _ _ n split method in
    let same = (c.in_ok-units.ensures.only n front.2 front.1 front.3).1 in
    absurd (cc (c.is_return.ensures.1 (rw same front.4), c.if-is_return.false))
