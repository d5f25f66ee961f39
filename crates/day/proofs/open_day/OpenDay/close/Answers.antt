use mathlib.Core.List.{[]}
use mathlib.Core.Path.{ap, subst}
use Rattle.desk.specs.Worlds.{world_of}
use Rattle.model.proofs.Reached.{reached_closing}
use Rattle.model.proofs.Runs.{closes}
use Rattle.model.specs.Days.{World}
use Rattle.model.specs.Reach.{ReachedClosed}
use Rattle.model.specs.Runs.{Closes}
use Rattle.day.proofs.open_day.OpenDay.close.Goals as goal

pub invariant_of-result : goal.invariant_of-result
invariant_of-result g c = record {
  reached =
      subst ReachedClosed (ap (λ (w : World). w.day) (c.close.ensures.world []))
      (reached_closing (world_of c.args.self.desk.state [] (g.C.Clearing.book c.args.clearing.now)) c.args.self.reached);
}

pub returns-clause-law : goal.returns-clause-law
returns-clause-law g c register =
    subst (Closes (world_of c.args.self.desk.state register (g.C.Clearing.book c.args.clearing.now))) (c.close.ensures.world register)
    (closes (world_of c.args.self.desk.state register (g.C.Clearing.book c.args.clearing.now)))
