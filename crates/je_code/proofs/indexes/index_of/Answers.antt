use Rattle.std.proofs.Common.{Ok, Err, sym, arith}
use Rattle.std.proofs.lemmas.List.Sorted.{searched}
use Rattle.je_code.proofs.IndexLemmas.{never_fall, index_le, is_at, index_is, none_is}
use Rattle.je_code.proofs.indexes.index_of.Goals as goal

pub overflow_cast-result : goal.overflow_cast-result
overflow_cast-result c =
    let s = searched c.args.offsets.now c.args.offset (Ok c.in-Ok.index) c.in-Ok.ensures.position (never_fall c.args.offsets.now c.requires) in
    let le = index_le c.args.offsets.now c.requires c.in-Ok.index s.0 in
    omega (arith, le, s.1)

pub returns-in-Ok-clause-is : goal.returns-in-Ok-clause-is
returns-in-Ok-clause-is c =
    let s = searched c.args.offsets.now c.args.offset (Ok c.in-Ok.index) c.in-Ok.ensures.position (never_fall c.args.offsets.now c.requires) in
    is_at c.args.offsets.now c.requires c.args.offset c.in-Ok.index s.0 s.1

pub returns-in-Ok-clause-index : goal.returns-in-Ok-clause-index
returns-in-Ok-clause-index c =
    let s = searched c.args.offsets.now c.args.offset (Ok c.in-Ok.index) c.in-Ok.ensures.position (never_fall c.args.offsets.now c.requires) in
    sym (index_is c.args.offsets.now c.requires c.args.offset c.in-Ok.index s.0 s.1)

pub returns-in-Err-clause-none : goal.returns-in-Err-clause-none
returns-in-Err-clause-none c =
    let s = searched c.args.offsets.now c.args.offset (Err c.in-Err.field-0) c.in-Err.ensures.position (never_fall c.args.offsets.now c.requires) in
    none_is c.args.offsets.now c.requires c.args.offset c.in-Err.field-0 s.1 s.2
