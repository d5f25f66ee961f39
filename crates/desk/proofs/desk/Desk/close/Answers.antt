use Rattle.std.proofs.Common.{[], ap, arith}
use Rattle.model.proofs.LawfulDays.{closing_lawful}
use Rattle.model.proofs.Reached.{lawful_out}
use Rattle.model.specs.Close.{closing}
use Rattle.model.specs.Days.{World}
use Rattle.model.specs.States.{day_of}
use Rattle.desk.specs.Worlds.{world_of}
use Rattle.desk.proofs.Desks.{keeps}
use Rattle.desk.proofs.desk.Desk.close.Goals as goal

pub invariant_of-self : goal.invariant_of-self
invariant_of-self g c =
    let s = c.args.self.now in
    let w = world_of s.state [] (g.C.Clearing.book c.args.clearing.now) in
    let kept = keeps (day_of c.close_orders.new.state) (closing w).day (closing_lawful w (lawful_out (day_of s.state) s.lawful)) (ap (λ (x : World). x.day) (c.close_orders.ensures.world [])) in
    record { few = omega (arith, c.close_orders.ensures.count, s.few); long = omega (arith, c.close_orders.ensures.count, c.close_orders.ensures.orders, s.long); lawful = kept }
