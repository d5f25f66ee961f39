use Rattle.std.proofs.Common.{arith}
use Rattle.desk.proofs.Closings.{orders_ended_more, orders_ended_all}
use Rattle.desk.proofs.closing.end_each.Goals as goal

pub loop-order-preserved : goal.loop-order-preserved
loop-order-preserved g c =
    orders_ended_more _ _ _ _ _ _ _ c.end_order.new.order _ _ c.loop-order-test.true c.loop-order.invariant c.end_order.ensures.order c.end_order.ensures.cover c.end_order.ensures.inside

pub returns : goal.returns
returns g c =
    let all = orders_ended_all _ _ _ _ _ _ _ (omega arith) c.loop-order.invariant in
    record { orders = all.0; cover = all.1; inside = all.2 }
