use Rattle.std.proofs.Common.{true, false, refl, ap, ◌∙◌, arith}
use Rattle.clearing.specs.Makeup.{released_in}
use Rattle.orders.specs.declared.kinds.Order.{Order}
use Rattle.model.specs.Clock.{Activated, activated_meeting}
use Rattle.model.specs.Days.{World}
use Rattle.model.specs.Market.{lots_of}
use Rattle.model.specs.Rounds.{Meeting}
use Rattle.model.specs.States.{day_of}
use Rattle.desk.specs.Worlds.{order_of, world_of}
use Rattle.desk.proofs.Activations.{activated_keeps, late_room, late_meeting, late_test, met_lots, met_world, fails_activated, passes_activated, fails_withdrawn, passes_withdrawn, failed_lots, failed_world}
use Rattle.model.proofs.Reached.{lawful_out}
use Rattle.desk.proofs.Releasing.{release_inside}
use Rattle.desk.proofs.desk.Desk.activate.Goals as goal

-- the volume test failed, and the order is taken out
pub invariant_of-self : goal.invariant_of-self
invariant_of-self g c =
    let s = c.args.self.now in
    let w = world_of s.state c.args.register.now (g.C.Clearing.book c.args.clearing.now) in
    let rule = g.R.SharingRule.shares c.args.rule.now in
    let fails = late_test s.state c.args.place c.order_at-order.result true c.order_at-order.ensures.value c.if-volume_fails.ensures in
    let is = failed_world c.args.place s.state c.args.register.now (g.C.Clearing.book c.args.clearing.now) c.order_at-order.result c.take_out.new.order (day_of c.put_order.new.state) (g.C.Clearing.book c.take_out.new.clearing)
    c.order_at-order.ensures.value c.take_out.ensures.order c.take_out.ensures.cover c.put_order.ensures.day
    ∙ ap (λ (a : Activated). a.world) (fails_activated rule c.args.place w fails) in
    record {
      few = omega (arith, c.put_order.ensures.count, s.few);
      long = omega (arith, c.put_order.ensures.count, c.put_order.ensures.orders, s.long);
      lawful = activated_keeps rule (g.met.R.SharingRule.divides c.args.rule.now) s.state c.args.register.now (g.C.Clearing.book c.args.clearing.now) c.args.place (lawful_out (day_of s.state) s.lawful) c.requires.stands c.requires.waits c.requires.length c.requires.room
          (day_of c.put_order.new.state) (ap (λ (x : World). x.day) is);
    }

pub returns-then-volume_fails : goal.returns-then-volume_fails
returns-then-volume_fails g c =
    let s = c.args.self.now in
    let w = world_of s.state c.args.register.now (g.C.Clearing.book c.args.clearing.now) in
    let rule = g.R.SharingRule.shares c.args.rule.now in
    let fails = late_test s.state c.args.place c.order_at-order.result true c.order_at-order.ensures.value c.if-volume_fails.ensures in
    let goes = fails_activated rule c.args.place w fails in
    record {
      lots = failed_lots c.args.place w ∙ ap (λ (a : Activated). a.lots) goes;
      world =
          failed_world c.args.place s.state c.args.register.now (g.C.Clearing.book c.args.clearing.now) c.order_at-order.result c.take_out.new.order (day_of c.put_order.new.state) (g.C.Clearing.book c.take_out.new.clearing)
          c.order_at-order.ensures.value c.take_out.ensures.order c.take_out.ensures.cover c.put_order.ensures.day
          ∙ ap (λ (a : Activated). a.world) goes;
      inside =
          c.take_out.ensures.inside
          ∙ ap (λ (o : Order). released_in (g.C.Clearing.makeup c.args.clearing.now) o.owner (lots_of o)) c.order_at-order.ensures.value
          ∙ ap (released_in (g.C.Clearing.makeup c.args.clearing.now) (order_of s.state c.args.place).owner) (fails_withdrawn rule c.args.place w fails);
      bound = omega arith;
    }

-- the volume test passed, and the order meets the queue
pub enter-left-requires : goal.enter-left-requires
enter-left-requires g c =
    let s = c.args.self.now in
    let sound = lawful_out (day_of s.state) s.lawful in
    record {
      few = s.few;
      sound = sound;
      most = c.order_at-order.ensures.sound.most;
      room = late_room (day_of s.state) c.args.place _ c.order_at-order.result sound c.requires.stands c.requires.waits c.order_at-order.ensures.value c.requires.room;
    }

pub invariant_of-self-2 : goal.invariant_of-self-2
invariant_of-self-2 g c =
    let s = c.args.self.now in
    let w = world_of s.state c.args.register.now (g.C.Clearing.book c.args.clearing.now) in
    let rule = g.R.SharingRule.shares c.args.rule.now in
    let is = c.order_at-order.ensures.value in
    let passes = late_test s.state c.args.place c.order_at-order.result false is c.if-volume_fails.ensures in
    let same = late_meeting rule w.day c.args.place c.order_at-order.result is in
    let met = met_world c.args.place w _ c.order_at-order.result c.entered_late.result c.enter-left.result c.enter-left.new.state (day_of c.put_order-2.new.state) c.enter-left.new.register _ c.put_order-2.ensures.day is c.enter-left.ensures.left c.enter-left.ensures.day c.entered_late.ensures c.enter-left.ensures.register refl
    ∙ ap (λ (met : Meeting). (activated_meeting c.args.place w met).world) same
    ∙ ap (λ (a : Activated). a.world) (passes_activated rule c.args.place w passes) in
    record {
      few = omega (arith, c.put_order-2.ensures.count, c.enter-left.ensures.count, s.few);
      long = omega (arith, c.put_order-2.ensures.count, c.put_order-2.ensures.orders, c.enter-left.ensures.count, c.enter-left.ensures.orders, s.long);
      lawful = activated_keeps rule (g.met.R.SharingRule.divides c.args.rule.now) s.state c.args.register.now (g.C.Clearing.book c.args.clearing.now) c.args.place (lawful_out (day_of s.state) s.lawful) c.requires.stands c.requires.waits c.requires.length c.requires.room
          (day_of c.put_order-2.new.state) (ap (λ (x : World). x.day) met);
    }

pub returns : goal.returns
returns g c =
    let s = c.args.self.now in
    let w = world_of s.state c.args.register.now (g.C.Clearing.book c.args.clearing.now) in
    let rule = g.R.SharingRule.shares c.args.rule.now in
    let is = c.order_at-order.ensures.value in
    let passes = late_test s.state c.args.place c.order_at-order.result false is c.if-volume_fails.ensures in
    let same = late_meeting rule w.day c.args.place c.order_at-order.result is in
    let goes = passes_activated rule c.args.place w passes in
    record {
      lots = met_lots c.args.place w _ c.order_at-order.result c.enter-left.result is c.enter-left.ensures.left
          ∙ ap (λ (met : Meeting). (activated_meeting c.args.place w met).lots) same ∙ ap (λ (a : Activated). a.lots) goes;
      world =
          met_world c.args.place w _ c.order_at-order.result c.entered_late.result c.enter-left.result c.enter-left.new.state (day_of c.put_order-2.new.state) c.enter-left.new.register (g.C.Clearing.book c.release_lots.new.clearing)
          c.put_order-2.ensures.day is c.enter-left.ensures.left c.enter-left.ensures.day c.entered_late.ensures c.enter-left.ensures.register c.release_lots.ensures.after
          ∙ ap (λ (met : Meeting). (activated_meeting c.args.place w met).world) same ∙ ap (λ (a : Activated). a.world) goes;
      inside =
          release_inside (g.C.Clearing.makeup c.args.clearing.now) (g.C.Clearing.makeup c.release_lots.new.clearing) (g.C.Clearing.book c.args.clearing.now) c.order_at-order.result.owner c.enter-left.result
          (g.met.C.Clearing.shows c.args.clearing.now) c.release_lots.ensures.inside
          ∙ ap (λ (o : Order). released_in (g.C.Clearing.makeup c.args.clearing.now) o.owner c.enter-left.result) is
          ∙ ap (released_in (g.C.Clearing.makeup c.args.clearing.now) (order_of s.state c.args.place).owner)
          (c.enter-left.ensures.left ∙ ap (λ (met : Meeting). met.left) same ∙ passes_withdrawn rule c.args.place w passes);
      bound = omega (arith, c.order_at-order.ensures.sound.most);
    }
