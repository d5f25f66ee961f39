use Rattle.std.proofs.Common.{◌∙◌, rules, arith}
use Rattle.std.proofs.lemmas.List.{length_push}
use Rattle.std.proofs.lemmas.Slice.Zip.{zip_end, zip_turn}
use Rattle.desk.proofs.AddingRows.{adding_all, adding_more, adding_room}
use Rattle.desk.proofs.matching.Entering.add_rows.Goals as goal

pub add_share-requires-clause-room : goal.add_share-requires-clause-room
add_share-requires-clause-room c =
    let turn = zip_turn c.args.places.now c.args.shares.now c.loop-place.yielded c.into_iter-place-iterator.result c.loop-place.place-iterator c.next.new.self c.next.result (search rules) (search rules) c.loop-place.yielded_by (c.in-Some.field-0-0, c.in-Some.field-0-1) c.in-Some.is c.next.ensures.steps in
    adding_room c.loop-place.invariant.adding _ _ turn (omega (arith, c.loop-place.invariant.adding.wide))

pub loop-place-preserved : goal.loop-place-preserved
loop-place-preserved c =
    let turn = zip_turn c.args.places.now c.args.shares.now c.loop-place.yielded c.into_iter-place-iterator.result c.loop-place.place-iterator c.next.new.self c.next.result (search rules) (search rules) c.loop-place.yielded_by (c.in-Some.field-0-0, c.in-Some.field-0-1) c.in-Some.is c.next.ensures.steps in
    record {
      same = c.add_share.ensures.same ∙ c.loop-place.invariant.same;
      adding =
          rw (length_push c.loop-place.yielded (c.in-Some.field-0-0, c.in-Some.field-0-1))
          (adding_more c.loop-place.invariant.adding _ _ turn _ _ (omega (arith, c.loop-place.invariant.adding.wide)) c.add_share.new.rows.inside c.add_share.ensures.rows);
    }

pub returns-clause-rows : goal.returns-clause-rows
returns-clause-rows c =
    let end = zip_end c.args.places.now c.args.shares.now c.loop-place.yielded c.into_iter-place-iterator.result c.loop-place.place-iterator c.next.new.self c.next.result (search rules) (search rules) c.loop-place.yielded_by c.in-None.is c.next.ensures.steps in
    adding_all c.loop-place.invariant.adding (omega arith)
