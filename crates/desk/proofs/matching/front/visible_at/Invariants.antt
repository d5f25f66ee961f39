use Rattle.std.proofs.Common.{◌≡◌, take}
use Rattle.model.specs.Market.{visible_at}
use Rattle.desk.proofs.matching.front.visible_at.Given as goal

abbrev pub invariant-loop-place : goal.invariant-loop-place
invariant-loop-place l = l.sums.items ≡ visible_at l.orders (take l.place-index l.places)
