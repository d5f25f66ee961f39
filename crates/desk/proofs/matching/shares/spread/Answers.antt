use Rattle.std.proofs.Common.{length, rules, arith}
use Rattle.std.proofs.lemmas.List.{length_push}
use Rattle.std.proofs.lemmas.Slice.Zip.{zip_end, zip_turn}
use Rattle.desk.proofs.Spreading.{spread_fits, spread_more, spread_all}
use Rattle.desk.proofs.matching.shares.spread.Goals as goal

pub overflow_add-by_place : goal.overflow_add-by_place
overflow_add-by_place c =
    let turn = zip_turn c.args.places.now c.args.shares.now c.loop-place.yielded c.into_iter-place-iterator.result c.loop-place.place-iterator c.next.new.self c.next.result (search rules) (search rules) c.loop-place.yielded_by (c.in-Some.field-0-0, c.in-Some.field-0-1) c.in-Some.is c.next.ensures.steps in
    let fits = spread_fits c.args.places.now c.args.shares.now (length c.loop-place.yielded) c.loop-place.by_place _ _ turn c.loop-place.invariant c.requires.fits in
    search rules

pub loop-place-preserved : goal.loop-place-preserved
loop-place-preserved c =
    let turn = zip_turn c.args.places.now c.args.shares.now c.loop-place.yielded c.into_iter-place-iterator.result c.loop-place.place-iterator c.next.new.self c.next.result (search rules) (search rules) c.loop-place.yielded_by (c.in-Some.field-0-0, c.in-Some.field-0-1) c.in-Some.is c.next.ensures.steps in
    rw (length_push c.loop-place.yielded (c.in-Some.field-0-0, c.in-Some.field-0-1), c.from.ensures)
    (spread_more c.args.places.now c.args.shares.now (length c.loop-place.yielded) c.loop-place.by_place _ _ turn c.loop-place.invariant (search rules))

pub returns : goal.returns
returns c =
    let end = zip_end c.args.places.now c.args.shares.now c.loop-place.yielded c.into_iter-place-iterator.result c.loop-place.place-iterator c.next.new.self c.next.result (search rules) (search rules) c.loop-place.yielded_by c.in-None.is c.next.ensures.steps in
    spread_all c.args.places.now c.args.shares.now (length c.loop-place.yielded) c.loop-place.by_place (omega arith) c.loop-place.invariant
