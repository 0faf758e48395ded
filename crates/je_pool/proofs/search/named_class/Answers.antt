use Rattle.std.proofs.Common.{◌≡◌, ◌≤◌, ◌≢◌, Some, length, ap, ◌∙◌, refl}
use Rattle.je_class.specs.ClassBytes.{ClassBytes}
use Rattle.je_class.specs.declared.fault.TheConstants.{MOST_BYTES}
use Rattle.je_pool.specs.declared.fault.PoolFault.TheVariants as pool_fault
use Rattle.je_pool.specs.Found.{IsNamed}
use Rattle.je_pool.proofs.FrontLemmas.{bad_front, bad_not_failed, other_front, class_of_front}
use Rattle.je_pool.proofs.search.named_class.Goals as goal

pub returns-in-Err : goal.returns-in-Err
returns-in-Err c = record {
  found = tt;
  fault = λ bytes is. bad_front c.args.name.now c.args.front.items bytes c.in-Err.fault c.bad_class.result c.bad_class.ensures (rw c.in-Ok.ensures at c.in-Err.ensures.fault) is;
  not_failed = λ failed. let is : c.bad_class.result ≡ pool_fault.Failed = cc in bad_not_failed c.args.name.now c.in-Err.fault c.bad_class.result c.bad_class.ensures is;
  named = tt;
}

pub returns-then-not-is_named-clause-fault : goal.returns-then-not-is_named-clause-fault
returns-then-not-is_named-clause-fault c = λ bytes is.
    let class = c.in-Ok-read_class.class in
    let other : c.this_name.result.now ≢ c.args.name.now = λ same. let test = c.if-not-is_named.ensures.1 (c.this_name.ensures ∙ ap Some same) in absurd cc in
    let within : length c.args.front.items ≤ MOST_BYTES = rw c.in-Ok.ensures at c.in-Ok-read_class.ensures.within in
    let found : ClassBytes c.args.front.items class = rw c.in-Ok.ensures at c.in-Ok-read_class.ensures.found in
    other_front c.args.name.now c.this_name.result.now c.args.front.items bytes class c.wrong_name.result c.wrong_name.ensures other within found c.this_name.ensures is

pub returns-clause-found : goal.returns-clause-found
returns-clause-found c = λ bytes is.
    let class = c.in-Ok-read_class.class in
    let within : length c.args.front.items ≤ MOST_BYTES = rw c.in-Ok.ensures at c.in-Ok-read_class.ensures.within in
    let found : ClassBytes c.args.front.items class = rw c.in-Ok.ensures at c.in-Ok-read_class.ensures.found in
    let named : IsNamed c.args.name.now class = c.if-not-is_named.ensures.0 refl in
    (class_of_front c.args.front.items bytes class is within found, named)
