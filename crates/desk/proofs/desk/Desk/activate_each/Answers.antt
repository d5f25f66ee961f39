use Rattle.std.proofs.Common.{refl, arith}
use Rattle.model.proofs.Reached.{lawful_out}
use Rattle.model.specs.States.{day_of}
use Rattle.desk.proofs.Activations.{ahead_more, ahead_all}
use Rattle.desk.proofs.desk.Desk.activate_each.Goals as goal

pub loop-place-init : goal.loop-place-init
loop-place-init g c = record {
  lawful = lawful_out (day_of c.args.self.now.state) c.args.self.now.lawful;
  ready = c.requires.ready;
  lots_are = omega arith;
  world_is = refl;
  inside_is = refl;
  most = omega arith;
}

pub loop-place-preserved : goal.loop-place-preserved
loop-place-preserved g c =
    ahead_more _ _ _ _ _ _ _ _ _ _ _ (g.met.R.SharingRule.divides c.args.rule.now) c.loop-place-test.true c.loop-place.invariant
    (rw c.from.ensures at c.activate-lots.ensures.lots) (rw c.from.ensures at c.activate-lots.ensures.world) (rw c.from.ensures at c.activate-lots.ensures.inside) c.activate-lots.auto.register c.activate-lots.ensures.bound

pub returns : goal.returns
returns g c =
    let all = ahead_all _ _ _ _ _ _ _ _ (omega arith) c.loop-place.invariant in
    record { lots = all.0; world = all.1; inside = all.2 }
