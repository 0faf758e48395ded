use Rattle.std.proofs.Common.{◌≡◌, length, take, rules, arith}
use Rattle.std.proofs.lemmas.List.{with_items_is, places}
use Rattle.je_base.proofs.StreamLemmas.{Consumes-behind}
use Rattle.je_base.proofs.stream.read_front.Goals as goal

pub loop-preserved : goal.loop-preserved
loop-preserved g c =
    let filled = c.loop.filled in
    let long : length c.read_behind.new.bytes ≡ c.make_room.new.bytes.len = search (rules, places) in
    let same = with_items_is c.make_room.new.bytes c.read_behind.new.bytes long in
    let front : take filled c.read_behind.new.bytes ≡ take filled c.loop.bytes.items = cc (c.in-Ok.ensures.front, c.deref_mut.ensures.value, c.in_ok-make_room.ensures.front) in
    record {
      within = omega (arith, c.in-Ok.ensures.fits, c.in_ok-make_room.ensures.len);
      room = omega (arith, c.in-Ok.ensures.fits);
      taken = rw same (Consumes-behind _ _ _ _ _ filled c.in-Ok.n front c.loop.invariant.taken c.in-Ok.ensures.given);
    }
