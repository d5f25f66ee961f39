use Rattle.desk.proofs.Closings.{OrdersEnded}
use Rattle.desk.proofs.closing.end_each.Given as goal

abbrev pub invariant-loop-order : goal.invariant-loop-order
invariant-loop-order g l = OrdersEnded l.initial.orders (g.C.Clearing.book l.initial.clearing) (g.C.Clearing.makeup l.initial.clearing) l.order-index l.orders (g.C.Clearing.book l.clearing) (g.C.Clearing.makeup l.clearing)
