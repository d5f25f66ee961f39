use Rattle.orders.proofs.Rounding.{visible_bounds}
use Rattle.orders.proofs.theorems.visible_bounds_hold.Goals as goal

pub returns : goal.returns
returns c = visible_bounds
