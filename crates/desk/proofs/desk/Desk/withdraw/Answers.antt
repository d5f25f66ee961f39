use Rattle.std.proofs.Common.{[], sym, ap, arith}
use Rattle.std.proofs.lemmas.Result.{err_from_is_err_and}
use Rattle.model.proofs.LawfulDays.{withdrawing_lawful}
use Rattle.model.proofs.Reached.{lawful_out}
use Rattle.model.specs.Days.{Outcome}
use Rattle.model.specs.States.{day_of}
use Rattle.model.specs.Withdraw.{withdrawing}
use Rattle.desk.specs.Worlds.{world_of}
use Rattle.desk.proofs.Desks.{keeps}
use Rattle.desk.proofs.Withdrawals.{withdraw_refused, withdraw_accepted, inside_refused, inside_accepted}
use Rattle.desk.proofs.desk.Desk.withdraw.Goals as goal

pub returns-in_err-place : goal.returns-in_err-place
returns-in_err-place g c =
    let p = err_from_is_err_and c.from_residual.result c.from_residual.ensures.1 in
    let refused = sym c.in_err-place.ensures.refusal in
    record {
      outcome = λ register. rw (p.1, p.2) (withdraw_refused c.args.number c.args.participant (world_of c.args.self.now.state register (g.C.Clearing.book c.args.clearing.now)) _ refused);
      inside = inside_refused c.args.number c.args.participant (day_of c.args.self.now.state) (g.C.Clearing.makeup c.args.clearing.now) _ refused;
    }

pub invariant_of-self : goal.invariant_of-self
invariant_of-self g c =
    let s = c.args.self.now in
    let w = world_of s.state [] (g.C.Clearing.book c.args.clearing.now) in
    let is = withdraw_accepted c.args.number c.args.participant c.in_ok-place.place s.state c.in_ok-place.ensures.refusal c.in_ok-place.ensures.place.0 c.order_at-order.result c.order_at-order.ensures.value
    [] (g.C.Clearing.book c.args.clearing.now) (g.C.Clearing.book c.take_out-lots.new.clearing) c.take_out-lots.result c.take_out-lots.new.order (day_of c.put_order.new.state)
    c.take_out-lots.ensures.lots c.take_out-lots.ensures.order c.take_out-lots.ensures.cover c.put_order.ensures.day in
    record {
      few = omega (arith, c.put_order.ensures.count, s.few);
      long = omega (arith, c.put_order.ensures.count, c.put_order.ensures.orders, s.long);
      lawful = keeps (day_of c.put_order.new.state) (withdrawing c.args.number c.args.participant w).world.day
          (withdrawing_lawful c.args.number c.args.participant w (lawful_out (day_of s.state) s.lawful)) (ap (λ (o : Outcome). o.world.day) is);
    }

pub returns : goal.returns
returns g c =
    let s = c.args.self.now in
    record {
      outcome = λ register. withdraw_accepted c.args.number c.args.participant c.in_ok-place.place s.state c.in_ok-place.ensures.refusal c.in_ok-place.ensures.place.0 c.order_at-order.result c.order_at-order.ensures.value
          register (g.C.Clearing.book c.args.clearing.now) (g.C.Clearing.book c.take_out-lots.new.clearing) c.take_out-lots.result c.take_out-lots.new.order (day_of c.put_order.new.state)
          c.take_out-lots.ensures.lots c.take_out-lots.ensures.order c.take_out-lots.ensures.cover c.put_order.ensures.day;
      inside = inside_accepted c.args.number c.args.participant c.in_ok-place.place s.state c.in_ok-place.ensures.refusal c.in_ok-place.ensures.place.0 c.order_at-order.result c.order_at-order.ensures.value
          (g.C.Clearing.makeup c.args.clearing.now) (g.C.Clearing.makeup c.take_out-lots.new.clearing) c.take_out-lots.ensures.inside;
    }
