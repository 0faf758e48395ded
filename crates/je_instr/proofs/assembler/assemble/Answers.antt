use Rattle.std.proofs.Common.{◌≡◌, ◌++◌, map, min, inl, inr, sym, ap, subst, ◌∙◌, arith}
use Rattle.je_instr.specs.declared.assembled.SizeFault.TheVariants.{CodeTooLong}
use Rattle.std.specs.List.{AllByRecursion}
use Rattle.je_instr.specs.Offsets.{HasWidths}
use Rattle.je_instr.specs.Assembling.{raw_handler, AreNear, IsFirstFar, IsSizeFault, too_long}
use Rattle.je_instr.specs.Assembling.{too_far}
use Rattle.je_instr.specs.Shortest.{short_end, short_offsets, short_code}
use Rattle.je_instr.proofs.SizeLemmas.{some_offset, short_offset, targets_there, handlers_there}
use Rattle.je_instr.proofs.SizeLemmas.{one_fault, no_fault}
use Rattle.je_instr.proofs.AssembleLemmas.{decodes}
use Rattle.je_instr.proofs.assembler.assemble.Goals as goal

pub returns-then-size-gt-MOST_BYTES-clause-fault :
    goal.returns-then-size-gt-MOST_BYTES-clause-fault
returns-then-size-gt-MOST_BYTES-clause-fault c =
    let size : c.total_size-size.result ≡ min (short_end 0 c.args.p.now.instrs) 4294967295 = c.total_size-size.ensures ∙ ap (λ l. min (short_end 0 l) 4294967295) c.as_slice-instrs.ensures in
    let long = c.if-size-gt-MOST_BYTES.true in
    inr (subst (λ n. IsSizeFault c.args.p.now (CodeTooLong n)) (sym size) (too_long (omega (arith, size, long))))

pub returns-then-size-gt-MOST_BYTES-clause-only :
    goal.returns-then-size-gt-MOST_BYTES-clause-only
returns-then-size-gt-MOST_BYTES-clause-only c = λ f is.
    let size : c.total_size-size.result ≡ min (short_end 0 c.args.p.now.instrs) 4294967295 = c.total_size-size.ensures ∙ ap (λ l. min (short_end 0 l) 4294967295) c.as_slice-instrs.ensures in
    let long = c.if-size-gt-MOST_BYTES.true in
    inl (one_fault c.args.p.now _ f (subst (λ n. IsSizeFault c.args.p.now (CodeTooLong n)) (sym size) (too_long (omega (arith, size, long)))) is)

pub first_far-requires-clause-some : goal.first_far-requires-clause-some
first_far-requires-clause-some c =
    let these : c.deref.result.now ≡ short_offsets 0 c.args.p.now.instrs = c.deref.ensures.value ∙ c.in_ok-offsets.ensures ∙ ap (short_offsets 0) c.as_slice-instrs.ensures in
    some_offset c.args.p.now c.requires _ these

pub first_far-requires-clause-targets : goal.first_far-requires-clause-targets
first_far-requires-clause-targets c =
    let these : c.deref.result.now ≡ short_offsets 0 c.args.p.now.instrs = c.deref.ensures.value ∙ c.in_ok-offsets.ensures ∙ ap (short_offsets 0) c.as_slice-instrs.ensures in
    targets_there c.args.p.now c.requires _ these _ c.as_slice-instrs.ensures

pub first_far-requires-clause-offsets : goal.first_far-requires-clause-offsets
first_far-requires-clause-offsets c =
    let these : c.deref.result.now ≡ short_offsets 0 c.args.p.now.instrs = c.deref.ensures.value ∙ c.in_ok-offsets.ensures ∙ ap (short_offsets 0) c.as_slice-instrs.ensures in
    let size : c.total_size-size.result ≡ min (short_end 0 c.args.p.now.instrs) 4294967295 = c.total_size-size.ensures ∙ ap (λ l. min (short_end 0 l) 4294967295) c.as_slice-instrs.ensures in
    let short = c.if-size-gt-MOST_BYTES.false in
    short_offset c.args.p.now c.requires _ these (omega (arith, size, short))

pub returns-in-Some-clause-fault : goal.returns-in-Some-clause-fault
returns-in-Some-clause-fault c =
    let these : c.deref.result.now ≡ short_offsets 0 c.args.p.now.instrs = c.deref.ensures.value ∙ c.in_ok-offsets.ensures ∙ ap (short_offsets 0) c.as_slice-instrs.ensures in
    let size : c.total_size-size.result ≡ min (short_end 0 c.args.p.now.instrs) 4294967295 = c.total_size-size.ensures ∙ ap (λ l. min (short_end 0 l) 4294967295) c.as_slice-instrs.ensures in
    let short = c.if-size-gt-MOST_BYTES.false in
    let far : IsFirstFar (short_offsets 0 c.args.p.now.instrs) 0 c.args.p.now.instrs 0 c.in-Some.index = subst (λ l. IsFirstFar (short_offsets 0 c.args.p.now.instrs) 0 l 0 c.in-Some.index) c.as_slice-instrs.ensures (subst (λ o. IsFirstFar o 0 c.as_slice-instrs.result.now 0 c.in-Some.index) these c.in-Some.ensures.some) in
    inr (too_far c.in-Some.index (omega (arith, size, short)) far)

pub returns-in-Some-clause-only : goal.returns-in-Some-clause-only
returns-in-Some-clause-only c = λ f is.
    let these : c.deref.result.now ≡ short_offsets 0 c.args.p.now.instrs = c.deref.ensures.value ∙ c.in_ok-offsets.ensures ∙ ap (short_offsets 0) c.as_slice-instrs.ensures in
    let size : c.total_size-size.result ≡ min (short_end 0 c.args.p.now.instrs) 4294967295 = c.total_size-size.ensures ∙ ap (λ l. min (short_end 0 l) 4294967295) c.as_slice-instrs.ensures in
    let short = c.if-size-gt-MOST_BYTES.false in
    let far : IsFirstFar (short_offsets 0 c.args.p.now.instrs) 0 c.args.p.now.instrs 0 c.in-Some.index = subst (λ l. IsFirstFar (short_offsets 0 c.args.p.now.instrs) 0 l 0 c.in-Some.index) c.as_slice-instrs.ensures (subst (λ o. IsFirstFar o 0 c.as_slice-instrs.result.now 0 c.in-Some.index) these c.in-Some.ensures.some) in
    inl (one_fault c.args.p.now _ f (too_far c.in-Some.index (omega (arith, size, short)) far) is)

pub put_all-requires-clause-some : goal.put_all-requires-clause-some
put_all-requires-clause-some c =
    let these : c.deref-2.result.now ≡ short_offsets 0 c.args.p.now.instrs = c.deref-2.ensures.value ∙ c.in_ok-offsets.ensures ∙ ap (short_offsets 0) c.as_slice-instrs.ensures in
    some_offset c.args.p.now c.requires _ these

pub put_all-requires-clause-targets : goal.put_all-requires-clause-targets
put_all-requires-clause-targets c =
    let these : c.deref-2.result.now ≡ short_offsets 0 c.args.p.now.instrs = c.deref-2.ensures.value ∙ c.in_ok-offsets.ensures ∙ ap (short_offsets 0) c.as_slice-instrs.ensures in
    targets_there c.args.p.now c.requires _ these _ c.as_slice-instrs.ensures

pub put_all-requires-clause-offsets : goal.put_all-requires-clause-offsets
put_all-requires-clause-offsets c =
    let these : c.deref-2.result.now ≡ short_offsets 0 c.args.p.now.instrs = c.deref-2.ensures.value ∙ c.in_ok-offsets.ensures ∙ ap (short_offsets 0) c.as_slice-instrs.ensures in
    let size : c.total_size-size.result ≡ min (short_end 0 c.args.p.now.instrs) 4294967295 = c.total_size-size.ensures ∙ ap (λ l. min (short_end 0 l) 4294967295) c.as_slice-instrs.ensures in
    let short = c.if-size-gt-MOST_BYTES.false in
    short_offset c.args.p.now c.requires _ these (omega (arith, size, short))

pub raw_handlers-requires-clause-within : goal.raw_handlers-requires-clause-within
raw_handlers-requires-clause-within c =
    let these : c.deref-3.result.now ≡ short_offsets 0 c.args.p.now.instrs = c.deref-3.ensures.value ∙ c.in_ok-offsets.ensures ∙ ap (short_offsets 0) c.as_slice-instrs.ensures in
    handlers_there c.args.p.now c.requires _ these _ c.as_slice.ensures

pub raw_handlers-requires-clause-short : goal.raw_handlers-requires-clause-short
raw_handlers-requires-clause-short c =
    let these : c.deref-3.result.now ≡ short_offsets 0 c.args.p.now.instrs = c.deref-3.ensures.value ∙ c.in_ok-offsets.ensures ∙ ap (short_offsets 0) c.as_slice-instrs.ensures in
    let size : c.total_size-size.result ≡ min (short_end 0 c.args.p.now.instrs) 4294967295 = c.total_size-size.ensures ∙ ap (λ l. min (short_end 0 l) 4294967295) c.as_slice-instrs.ensures in
    let short = c.if-size-gt-MOST_BYTES.false in
    short_offset c.args.p.now c.requires _ these (omega (arith, size, short))

pub returns-clause-only : goal.returns-clause-only
returns-clause-only c = λ f is.
    let these : c.deref.result.now ≡ short_offsets 0 c.args.p.now.instrs = c.deref.ensures.value ∙ c.in_ok-offsets.ensures ∙ ap (short_offsets 0) c.as_slice-instrs.ensures in
    let size : c.total_size-size.result ≡ min (short_end 0 c.args.p.now.instrs) 4294967295 = c.total_size-size.ensures ∙ ap (λ l. min (short_end 0 l) 4294967295) c.as_slice-instrs.ensures in
    let short = c.if-size-gt-MOST_BYTES.false in
    let near : AreNear (short_offsets 0 c.args.p.now.instrs) 0 c.args.p.now.instrs = subst (λ l. AreNear (short_offsets 0 c.args.p.now.instrs) 0 l) c.as_slice-instrs.ensures (subst (λ o. AreNear o 0 c.as_slice-instrs.result.now) these c.in_default.ensures.none) in
    no_fault c.args.p.now f (omega (arith, size, short)) near is

pub returns-clause-spelled : goal.returns-clause-spelled
returns-clause-spelled c = λ consts allows.
    let p = c.args.p.now in
    let offsets = short_offsets 0 p.instrs in
    let list : c.in_ok-offsets.offsets.items ≡ offsets = c.in_ok-offsets.ensures ∙ ap (short_offsets 0) c.as_slice-instrs.ensures in
    let size : c.total_size-size.result ≡ min (short_end 0 p.instrs) 4294967295 = c.total_size-size.ensures ∙ ap (λ l. min (short_end 0 l) 4294967295) c.as_slice-instrs.ensures in
    let short = c.if-size-gt-MOST_BYTES.false in
    let near : AreNear offsets 0 p.instrs = subst (λ l. AreNear offsets 0 l) c.as_slice-instrs.ensures (subst (λ o. AreNear o 0 c.as_slice-instrs.result.now) (c.deref.ensures.value ∙ list) c.in_default.ensures.none) in
    let code : c.put_all.new.out.items ≡ short_code offsets 0 p.instrs =
    c.in_ok-put_all.ensures.bytes
    ∙ ap (λ front. front ++ short_code c.deref-2.result.now 0 c.as_slice-instrs.result.now) c.new-code.ensures.items
    ∙ ap (λ o. short_code o 0 c.as_slice-instrs.result.now) (c.deref-2.ensures.value ∙ list)
    ∙ ap (λ l. short_code offsets 0 l) c.as_slice-instrs.ensures in
    let table : c.in_ok-table.table.items ≡ map (raw_handler offsets) p.handlers =
    c.in_ok-table.ensures
    ∙ ap (λ o. map (raw_handler o) c.as_slice.result.now) (c.deref-3.ensures.value ∙ list)
    ∙ ap (λ l. map (raw_handler offsets) l) c.as_slice.ensures in
    let widths : AllByRecursion HasWidths p.instrs = subst (λ l. AllByRecursion HasWidths l) c.as_slice-instrs.ensures c.in_ok-put_all.ensures.widths in
    decodes consts p c.requires widths allows _ (record {
      short = omega (arith, size, short);
      near = near;
      offsets = c.from_vec-3.ensures ∙ list;
      code = c.from_vec.ensures ∙ code;
      table = c.from_vec-2.ensures ∙ table;
    })
