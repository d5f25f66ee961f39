use mathlib.Core.List.{[]}
use mathlib.Core.Path.{ap, subst}
use Rattle.desk.specs.Worlds.{world_of}
use Rattle.model.proofs.Reached.{reached_withdrawing}
use Rattle.model.proofs.Runs.{extends_withdraw}
use Rattle.model.specs.Calls.{withdraw}
use Rattle.model.specs.Days.{Outcome}
use Rattle.model.specs.Reach.{Reached}
use Rattle.model.specs.Runs.{Extends}
use Rattle.day.proofs.open_day.OpenDay.withdraw.Goals as goal

pub invariant_of-self : goal.invariant_of-self
invariant_of-self g c = record {
  reached =
      subst Reached (ap (λ (o : Outcome). o.world.day) (c.withdraw.ensures.outcome []))
      (reached_withdrawing c.args.number c.args.participant (world_of c.args.self.now.desk.state [] (g.C.Clearing.book c.args.clearing.now)) c.args.self.now.reached);
}

pub returns-clause-law : goal.returns-clause-law
returns-clause-law g c register =
    subst (Extends (withdraw c.args.number c.args.participant) (world_of c.args.self.now.desk.state register (g.C.Clearing.book c.args.clearing.now)))
    (ap (λ (o : Outcome). o.world) (c.withdraw.ensures.outcome register))
    (extends_withdraw c.args.number c.args.participant (world_of c.args.self.now.desk.state register (g.C.Clearing.book c.args.clearing.now)))
