use Rattle.std.proofs.Common.{true, false, refl, ap, arith}
use Rattle.std.proofs.lemmas.Result.{err_from_is_err_and}
use Rattle.model.proofs.LawfulDays.{placing_lawful}
use Rattle.model.proofs.Reached.{lawful_out}
use Rattle.model.specs.Days.{Outcome}
use Rattle.model.specs.Place.{placing}
use Rattle.model.specs.States.{day_of}
use Rattle.desk.specs.Worlds.{world_of}
use Rattle.desk.proofs.Desks.{keeps}
use Rattle.desk.proofs.Placements.{accepted_passed, cover_keeps, cover_refuses, meets_inside, meets_placed, place_left, rows_left, tests_keep, tests_refuse, waits_inside, waits_is, waits_placed}
use Rattle.desk.proofs.desk.Desk.place.Goals as goal

pub returns-in_err-judge_place : goal.returns-in_err-judge_place
returns-in_err-judge_place g c =
    let s = c.args.self.now in
    let w = world_of s.state c.args.register.now (g.C.Clearing.book c.args.clearing.now) in
    let rule = g.R.SharingRule.shares c.args.rule.now in
    let p = err_from_is_err_and c.from_residual.result c.from_residual.ensures.1 in
    record {
      outcome = rw (p.1, p.2) (tests_refuse rule c.args.participant c.args.terms.now w _ c.in_err-judge_place.ensures);
      inside = tests_keep rule c.args.participant c.args.terms.now w (g.C.Clearing.makeup c.args.clearing.now) _ c.in_err-judge_place.ensures;
    }

pub returns-then-not-reserve_lots : goal.returns-then-not-reserve_lots
returns-then-not-reserve_lots g c =
    let s = c.args.self.now in
    let w = world_of s.state c.args.register.now (g.C.Clearing.book c.args.clearing.now) in
    let rule = g.R.SharingRule.shares c.args.rule.now in
    record {
      outcome = cover_refuses rule c.args.participant c.args.terms.now w c.in_ok-judge_place.ensures c.if-not-reserve_lots.ensures.answer _ c.reserve_lots.ensures.after;
      inside = cover_keeps rule c.args.participant c.args.terms.now w c.in_ok-judge_place.ensures c.if-not-reserve_lots.ensures.answer _ _ c.reserve_lots.ensures.inside;
    }

pub push_order-requires : goal.push_order-requires
push_order-requires g c =
    let s = c.args.self.now in
    let w = world_of s.state c.args.register.now (g.C.Clearing.book c.args.clearing.now) in
    let rule = g.R.SharingRule.shares c.args.rule.now in
    let is = accepted_passed rule c.args.participant c.args.terms.now w c.in_ok-judge_place.ensures c.if-not-reserve_lots.ensures.answer in
    let sound = lawful_out (day_of s.state) s.lawful in
    let few = place_left s.state c.args.register.now (g.C.Clearing.book c.args.clearing.now) c.args.participant c.args.terms.now sound is in
    omega (arith, few, s.long)

pub invariant_of-self : goal.invariant_of-self
invariant_of-self g c =
    let s = c.args.self.now in
    let w = world_of s.state c.args.register.now (g.C.Clearing.book c.args.clearing.now) in
    let rule = g.R.SharingRule.shares c.args.rule.now in
    let waits = waits_is s.state.settings c.mode.result c.args.terms.now true c.mode.ensures c.if-waits.ensures in
    let is = waits_placed rule c.args.participant c.args.terms.now w c.in_ok-judge_place.ensures
    c.if-not-reserve_lots.ensures.answer waits c.next_number.result c.next_number.ensures
    (day_of c.push_order.new.state) (g.C.Clearing.book c.reserve_lots.new.clearing)
    c.waiting.result c.waiting.ensures c.push_order.ensures.day c.reserve_lots.ensures.after in
    let kept = keeps (day_of c.push_order.new.state) (placing rule c.args.participant c.args.terms.now w).world.day
    (placing_lawful rule (g.met.R.SharingRule.divides c.args.rule.now) c.args.participant c.args.terms.now w (lawful_out (day_of s.state) s.lawful)) (ap (λ (o : Outcome). o.world.day) is) in
    record { few = c.push_order.ensures.few; long = c.push_order.ensures.long; lawful = kept }

pub returns-then-waits : goal.returns-then-waits
returns-then-waits g c =
    let s = c.args.self.now in
    let w = world_of s.state c.args.register.now (g.C.Clearing.book c.args.clearing.now) in
    let rule = g.R.SharingRule.shares c.args.rule.now in
    let waits = waits_is s.state.settings c.mode.result c.args.terms.now true c.mode.ensures c.if-waits.ensures in
    record {
      outcome = waits_placed rule c.args.participant c.args.terms.now w c.in_ok-judge_place.ensures
          c.if-not-reserve_lots.ensures.answer waits c.next_number.result c.next_number.ensures
          (day_of c.push_order.new.state) (g.C.Clearing.book c.reserve_lots.new.clearing)
          c.waiting.result c.waiting.ensures c.push_order.ensures.day c.reserve_lots.ensures.after;
      inside =
          waits_inside rule c.args.participant c.args.terms.now w c.in_ok-judge_place.ensures
          c.if-not-reserve_lots.ensures.answer waits (g.C.Clearing.makeup c.args.clearing.now) (g.C.Clearing.makeup c.reserve_lots.new.clearing)
          (g.met.C.Clearing.shows c.args.clearing.now) c.reserve_lots.ensures.inside;
    }

pub place_meeting-left-requires : goal.place_meeting-left-requires
place_meeting-left-requires g c =
    let s = c.args.self.now in
    let w = world_of s.state c.args.register.now (g.C.Clearing.book c.args.clearing.now) in
    let rule = g.R.SharingRule.shares c.args.rule.now in
    let sound = lawful_out (day_of s.state) s.lawful in
    let early = waits_is s.state.settings c.mode.result c.args.terms.now false c.mode.ensures c.if-waits.ensures in
    let is = accepted_passed rule c.args.participant c.args.terms.now w c.in_ok-judge_place.ensures c.if-not-reserve_lots.ensures.answer in
    record {
      sound = sound;
      few = omega (arith, place_left s.state c.args.register.now (g.C.Clearing.book c.args.clearing.now) c.args.participant c.args.terms.now sound is, s.long);
      most = is.most;
      room = rows_left s.state c.args.register.now (g.C.Clearing.book c.args.clearing.now) c.args.participant c.args.terms.now sound is early;
    }

pub invariant_of-self-2 : goal.invariant_of-self-2
invariant_of-self-2 g c =
    let s = c.args.self.now in
    let w = world_of s.state c.args.register.now (g.C.Clearing.book c.args.clearing.now) in
    let rule = g.R.SharingRule.shares c.args.rule.now in
    let early = waits_is s.state.settings c.mode.result c.args.terms.now false c.mode.ensures c.if-waits.ensures in
    let is = meets_placed rule c.args.participant c.args.terms.now w c.in_ok-judge_place.ensures
    c.if-not-reserve_lots.ensures.answer early c.next_number.result c.place_meeting-left.result _
    c.next_number.ensures c.place_meeting-left.ensures.left refl
    (day_of c.place_meeting-left.new.state) c.place_meeting-left.new.register (g.C.Clearing.book c.reserve_lots.new.clearing) _
    c.place_meeting-left.ensures.day c.place_meeting-left.ensures.register c.reserve_lots.ensures.after refl in
    let kept = keeps (day_of c.place_meeting-left.new.state) (placing rule c.args.participant c.args.terms.now w).world.day
    (placing_lawful rule (g.met.R.SharingRule.divides c.args.rule.now) c.args.participant c.args.terms.now w (lawful_out (day_of s.state) s.lawful)) (ap (λ (o : Outcome). o.world.day) is) in
    record { few = c.place_meeting-left.ensures.few; long = c.place_meeting-left.ensures.long; lawful = kept }

pub returns : goal.returns
returns g c =
    let s = c.args.self.now in
    let w = world_of s.state c.args.register.now (g.C.Clearing.book c.args.clearing.now) in
    let rule = g.R.SharingRule.shares c.args.rule.now in
    let early = waits_is s.state.settings c.mode.result c.args.terms.now false c.mode.ensures c.if-waits.ensures in
    record {
      outcome =
          rw (c.placed.ensures.number, c.placed.ensures.lots) (meets_placed rule c.args.participant c.args.terms.now w c.in_ok-judge_place.ensures
          c.if-not-reserve_lots.ensures.answer early c.next_number.result c.place_meeting-left.result c.withdrawn_of.result
          c.next_number.ensures c.place_meeting-left.ensures.left c.withdrawn_of.ensures
          (day_of c.place_meeting-left.new.state) c.place_meeting-left.new.register (g.C.Clearing.book c.reserve_lots.new.clearing) (g.C.Clearing.book c.release_lots.new.clearing)
          c.place_meeting-left.ensures.day c.place_meeting-left.ensures.register c.reserve_lots.ensures.after c.release_lots.ensures.after);
      inside =
          meets_inside rule c.args.participant c.args.terms.now w c.in_ok-judge_place.ensures
          c.if-not-reserve_lots.ensures.answer early c.next_number.result c.place_meeting-left.result c.withdrawn_of.result
          c.next_number.ensures c.place_meeting-left.ensures.left c.withdrawn_of.ensures
          (g.C.Clearing.makeup c.args.clearing.now) (g.C.Clearing.makeup c.reserve_lots.new.clearing) (g.C.Clearing.makeup c.release_lots.new.clearing) (g.C.Clearing.book c.reserve_lots.new.clearing)
          (g.met.C.Clearing.shows c.args.clearing.now) (g.met.C.Clearing.shows c.reserve_lots.new.clearing) c.reserve_lots.ensures.inside c.release_lots.ensures.inside;
    }
