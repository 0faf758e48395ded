use Rattle.std.proofs.Common.{ap, inl, inr}
use Rattle.je_consts.proofs.FaultLemmas.{pool_fault, pool_takes}
use Rattle.je_consts.proofs.PlaceLemmas.{spelled_comes}
use Rattle.je_consts.proofs.ReadLemmas.{found, misfit_first, same_pool, no_pool, misfit_no_pool, same_fault, same_misfit, no_fault, failed_comes}
use Rattle.je_consts.proofs.reading.pool_of.Goals as goal

pub returns-in-Err-clause-only : goal.returns-in-Err-clause-only
returns-in-Err-clause-only c places end h =
    elim (failed_comes c.args.bytes.now c.args.at c.in-Err.fault c.sound.ensures c.in-Err.ensures) [
      | inl memory ↦ memory
      | inr comes ↦ absurd (no_pool c.args.bytes.now c.args.at c.one_entry_way.ensures c.in-Err.fault comes places end h)
    ]

pub returns-in-Err-clause-fault : goal.returns-in-Err-clause-fault
returns-in-Err-clause-fault c =
    elim (failed_comes c.args.bytes.now c.args.at c.in-Err.fault c.sound.ensures c.in-Err.ensures) [
      | inl memory ↦ inl memory
      | inr comes ↦ inr (pool_fault c.args.bytes.now c.args.at c.in-Err.fault comes)
    ]

pub returns-in-Err-clause-exact : goal.returns-in-Err-clause-exact
returns-in-Err-clause-exact c d first =
    elim (failed_comes c.args.bytes.now c.args.at c.in-Err.fault c.sound.ensures c.in-Err.ensures) [
      | inl memory ↦ inl memory
      | inr comes ↦ inr (same_fault c.args.bytes.now c.args.at c.one_entry_way.ensures d first c.in-Err.fault comes)
    ]

pub misfit-requires : goal.misfit-requires
misfit-requires c =
    let comes = spelled_comes c.args.bytes.now c.sound.ensures c.args.at _ c.in-Ok.ensures in
    let reached = pool_takes c.args.bytes.now c.args.at (c.in-Ok.spelled.0.items, c.in-Ok.spelled.1) comes in
    rw c.deref.ensures.value reached.count_fits

pub returns-in-Some-clause-only : goal.returns-in-Some-clause-only
returns-in-Some-clause-only c places end h =
    let comes = spelled_comes c.args.bytes.now c.sound.ensures c.args.at _ c.in-Ok.ensures in
    let least = rw c.deref.ensures.value at c.in-Some.ensures.some in
    absurd (misfit_no_pool c.args.bytes.now c.args.at c.one_entry_way.ensures (c.in-Ok.spelled.0.items, c.in-Ok.spelled.1) c.in-Some.index comes least places end h)

pub returns-in-Some-clause-fault : goal.returns-in-Some-clause-fault
returns-in-Some-clause-fault c =
    let comes = spelled_comes c.args.bytes.now c.sound.ensures c.args.at _ c.in-Ok.ensures in
    let least = rw c.deref.ensures.value at c.in-Some.ensures.some in
    inr (misfit_first c.args.bytes.now c.args.at (c.in-Ok.spelled.0.items, c.in-Ok.spelled.1) c.in-Some.index comes least)

pub returns-in-Some-clause-exact : goal.returns-in-Some-clause-exact
returns-in-Some-clause-exact c d first =
    let comes = spelled_comes c.args.bytes.now c.sound.ensures c.args.at _ c.in-Ok.ensures in
    let least = rw c.deref.ensures.value at c.in-Some.ensures.some in
    inr (same_misfit c.args.bytes.now c.args.at c.one_entry_way.ensures d first (c.in-Ok.spelled.0.items, c.in-Ok.spelled.1) c.in-Some.index comes least)

pub returns-in-None-clause-found : goal.returns-in-None-clause-found
returns-in-None-clause-found c =
    let comes = spelled_comes c.args.bytes.now c.sound.ensures c.args.at _ c.in-Ok.ensures in
    let names = rw c.deref.ensures.value at c.in-None.ensures.none in
    found c.args.bytes.now c.args.at (c.in-Ok.spelled.0.items, c.in-Ok.spelled.1) c.requires comes names

pub returns-in-None-clause-only : goal.returns-in-None-clause-only
returns-in-None-clause-only c places end h =
    let comes = spelled_comes c.args.bytes.now c.sound.ensures c.args.at _ c.in-Ok.ensures in
    let same = same_pool c.args.bytes.now c.args.at c.one_entry_way.ensures (c.in-Ok.spelled.0.items, c.in-Ok.spelled.1) comes places end h in
    (ap (λ p. p.0) same, ap (λ p. p.1) same)

pub returns-in-None-clause-exact : goal.returns-in-None-clause-exact
returns-in-None-clause-exact c d first =
    let comes = spelled_comes c.args.bytes.now c.sound.ensures c.args.at _ c.in-Ok.ensures in
    let names = rw c.deref.ensures.value at c.in-None.ensures.none in
    no_fault c.args.bytes.now c.args.at c.one_entry_way.ensures d first (c.in-Ok.spelled.0.items, c.in-Ok.spelled.1) comes names
