use Rattle.std.proofs.Common.{ap, ◌∙◌, filter, rules}
use Rattle.std.proofs.lemmas.List.{take_all}
use Rattle.model.specs.Market.{order_at}
use Rattle.desk.specs.Matching.{at_rate, places_at}
use Rattle.desk.proofs.Collecting.{filter_room}
use Rattle.desk.proofs.matching.Entering.places_at.Goals as goal

pub push-requires : goal.push-requires
unfolding places_at
push-requires c =
    let room = filter_room (λ k. at_rate c.args.self.now.settings c.args.self.now.terms c.args.rate.hundredths (order_at c.args.orders.now k)) c.args.queue.now c.loop-place.place-index 64
    c.loop-place-test.true (search rules) c.requires.room in
    search rules

pub returns : goal.returns
unfolding places_at
returns c =
    c.loop-place.invariant ∙ ap (filter (λ k. at_rate c.args.self.now.settings c.args.self.now.terms c.args.rate.hundredths (order_at c.args.orders.now k))) (take_all c.loop-place.place-index c.args.queue.now c.loop-place-test.false)
