use Rattle.std.proofs.Common.{◌≡◌, ℕ, ◌<◌, List, length, take, set, ap, ◌∙◌, arith, rules}
use Rattle.std.proofs.lemmas.List.{length-set, length-take}
use Rattle.orders.specs.declared.kinds.Order.{Order}
use lib.Seq.{take-set-lt}
use Rattle.desk.proofs.places.put_order.Goals as goal

pub offset_bounds-state-place : goal.offset_bounds-state-place
offset_bounds-state-place c = omega (arith, c.requires.few, c.requires.stands, length-take c.args.state.now.count c.args.state.now.orders)

-- an order put among the first n places
put_same : (n : ℕ) (orders : List Order) (place : ℕ) (order : Order) → place < length (take n orders) → take n (set orders place order) ≡ set (take n orders) place order
put_same n orders place order stands = take-set-lt n orders place order (omega (arith, stands, length-take n orders))

pub returns-clause-day : goal.returns-clause-day
returns-clause-day c =
    let same = put_same c.args.state.now.count c.args.state.now.orders c.args.place c.args.order c.requires.stands in
    search rules

pub returns-clause-orders : goal.returns-clause-orders
returns-clause-orders c = ap length (put_same c.args.state.now.count c.args.state.now.orders c.args.place c.args.order c.requires.stands) ∙ length-set (take c.args.state.now.count c.args.state.now.orders) c.args.place c.args.order
