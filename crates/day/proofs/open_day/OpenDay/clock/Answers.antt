use mathlib.Core.Path.{ap, sym, subst, ◌∙◌}
use lib.ListN.{length}
use Rattle.desk.specs.Worlds.{world_of}
use Rattle.model.proofs.Reached.{reached_clocking}
use Rattle.model.proofs.Runs.{extends_clock, extends_clock_other}
use Rattle.model.specs.Calls.{clock}
use Rattle.model.specs.Days.{Outcome}
use Rattle.model.specs.Reach.{Reached}
use Rattle.model.specs.Runs.{Extends}
use Rattle.model.proofs.Handed.{clocking_length}
use Rattle.day.proofs.Elsewhere.{extends_over, over}
use Rattle.day.proofs.open_day.OpenDay.clock.Goals as goal

pub invariant_of-self : goal.invariant_of-self
invariant_of-self g c = record {
  reached =
      subst Reached (ap (λ (o : Outcome). o.world.day) c.clock.ensures.outcome)
      (reached_clocking (g.R.SharingRule.shares c.args.rule.now) (g.met.R.SharingRule.divides c.args.rule.now) c.args.time (world_of c.args.self.now.desk.state c.args.register.now (g.C.Clearing.book c.args.clearing.now)) c.args.self.now.reached);
}

pub returns-clause-law : goal.returns-clause-law
returns-clause-law g c =
    let rule = g.R.SharingRule.shares c.args.rule.now in
    let w = world_of c.args.self.now.desk.state c.args.register.now (g.C.Clearing.book c.args.clearing.now) in
    subst (Extends (clock rule (length c.args.register.now) c.args.time) w) (ap (λ (o : Outcome). o.world) c.clock.ensures.outcome)
    (extends_clock rule (g.met.R.SharingRule.divides c.args.rule.now) c.args.time w)

pub returns-clause-elsewhere : goal.returns-clause-elsewhere
returns-clause-elsewhere g c differs other fits =
    let rule = g.R.SharingRule.shares c.args.rule.now in
    let w = world_of c.args.self.now.desk.state c.args.register.now (g.C.Clearing.book c.args.clearing.now) in
    extends_over (clock rule (length c.args.register.now) c.args.time) w _ other
    (sym c.clock.ensures.outcome ∙ clocking_length rule c.args.time w differs)
    (extends_clock_other rule (g.met.R.SharingRule.divides c.args.rule.now) (length c.args.register.now) c.args.time (over other w) fits differs)
