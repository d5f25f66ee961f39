use Rattle.std.proofs.Common.{◌∙◌, refl, arith}
use Rattle.desk.proofs.RoundFacts.{lots_within}
use Rattle.desk.proofs.Underway.{underway_first, underway_places, underway_done, underway_alone, underway_ready, underway_less, underway_more, underway_within}
use Rattle.desk.proofs.matching.Entering.meet.Goals as goal

pub loop-left-init : goal.loop-left-init
loop-left-init g c = record { same = refl; underway = rw c.requires.none (underway_first c.requires.ready) }

pub best_rate-requires : goal.best_rate-requires
best_rate-requires g c = underway_places c.loop-left.invariant.underway

pub hold_round-left-requires-clause-ready : goal.hold_round-left-requires-clause-ready
hold_round-left-requires-clause-ready g c =
    underway_ready c.loop-left.invariant.underway (g.met.R.SharingRule.divides c.args.rule.now) c.requires.ready (omega arith) _ c.in-Some.ensures

pub overflow_sub-left : goal.overflow_sub-left
overflow_sub-left g c = lots_within _ _ _ _ _ c.hold_round-left.ensures.lots

pub loop-left-smaller : goal.loop-left-smaller
loop-left-smaller g c =
    underway_less c.loop-left.invariant.underway (g.met.R.SharingRule.divides c.args.rule.now) c.requires.ready (omega arith) _ c.in-Some.ensures _ c.hold_round-left.ensures.lots

pub loop-left-preserved : goal.loop-left-preserved
loop-left-preserved g c = record {
  same = c.hold_round-left.ensures.same ∙ c.loop-left.invariant.same;
  underway =
      underway_more c.loop-left.invariant.underway (g.met.R.SharingRule.divides c.args.rule.now) c.requires.ready (omega arith) _ c.in-Some.ensures _ c.hold_round-left.ensures.lots
      _ _ _ _ c.hold_round-left.ensures.market (omega arith) (omega arith) c.hold_round-left.new.rows.inside;
}

pub returns-in_default : goal.returns-in_default
returns-in_default g c =
    let all = underway_alone c.loop-left.invariant.underway c.in_default.ensures in
    record { same = c.loop-left.invariant.same; left = all.0; market = all.1; within = underway_within c.loop-left.invariant.underway }

pub returns-after-loop-left : goal.returns-after-loop-left
returns-after-loop-left g c =
    let all = underway_done c.loop-left.invariant.underway c.loop-left-test.false in
    record { same = c.loop-left.invariant.same; left = all.0; market = all.1; within = underway_within c.loop-left.invariant.underway }
