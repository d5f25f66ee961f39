use Rattle.std.proofs.Common.{length, not, ap, rules, arith}
use Rattle.desk.specs.Matching.{requeued, shows_again}
use Rattle.desk.proofs.Collecting.{filter_most, filter_room}
use Rattle.desk.proofs.Parting.{parted}
use Rattle.desk.proofs.matching.requeue.requeue.Goals as goal

pub push-requires : goal.push-requires
push-requires c =
    let most = filter_most (shows_again c.args.shares.now c.args.orders.now) c.args.queue.now in
    let room = filter_room (shows_again c.args.shares.now c.args.orders.now) c.args.queue.now c.loop-place.place-index 128 c.loop-place-test.true (search rules) (omega arith) in
    search rules

pub push-requires-else-refills : goal.push-requires-else-refills
push-requires-else-refills c =
    let most = filter_most (λ k. not (shows_again c.args.shares.now c.args.orders.now k)) c.args.queue.now in
    let room = filter_room (λ k. not (shows_again c.args.shares.now c.args.orders.now k)) c.args.queue.now c.loop-place.place-index 128 c.loop-place-test.true (search rules) (omega arith) in
    search rules

pub split_at_mut-front-requires : goal.split_at_mut-front-requires
split_at_mut-front-requires c =
    let parts = parted (shows_again c.args.shares.now c.args.orders.now) c.args.queue.now _ _ c.loop-place.place-index c.loop-place-test.false c.loop-place.invariant.kept c.loop-place.invariant.again in
    omega (arith, parts.together)

pub copy_from_slice-requires-2 : goal.copy_from_slice-requires-2
copy_from_slice-requires-2 c =
    let parts = parted (shows_again c.args.shares.now c.args.orders.now) c.args.queue.now _ _ c.loop-place.place-index c.loop-place-test.false c.loop-place.invariant.kept c.loop-place.invariant.again in
    omega (arith, parts.together, ap length c.deref-2.ensures.0)

pub returns : goal.returns
unfolding requeued
returns c =
    let parts = parted (shows_again c.args.shares.now c.args.orders.now) c.args.queue.now _ _ c.loop-place.place-index c.loop-place-test.false c.loop-place.invariant.kept c.loop-place.invariant.again in
    cc (parts.kept_is, parts.again_is)
