use Rattle.std.proofs.Common.{◌≡◌, take, filter}
use Rattle.model.specs.Market.{order_at}
use Rattle.desk.specs.Matching.{at_rate}
use Rattle.desk.proofs.matching.Entering.places_at.Given as goal

abbrev pub invariant-loop-place : goal.invariant-loop-place
invariant-loop-place l =
    l.places.items ≡ filter (λ k. at_rate l.self.settings l.self.terms l.rate.hundredths (order_at l.orders k)) (take l.place-index l.queue)
