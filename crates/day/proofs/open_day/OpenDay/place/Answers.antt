use mathlib.Core.Path.{ap, sym, subst, ◌∙◌}
use lib.ListN.{length}
use Rattle.desk.specs.Worlds.{world_of}
use Rattle.model.proofs.Reached.{reached_placing}
use Rattle.model.proofs.Runs.{extends_place, extends_place_other}
use Rattle.model.specs.Calls.{place}
use Rattle.model.specs.Days.{Outcome}
use Rattle.model.specs.Reach.{Reached}
use Rattle.model.specs.Runs.{Extends}
use Rattle.model.proofs.Handed.{placing_length}
use Rattle.day.proofs.Elsewhere.{extends_over, over}
use Rattle.day.proofs.open_day.OpenDay.place.Goals as goal

pub invariant_of-self : goal.invariant_of-self
invariant_of-self g c = record {
  reached =
      subst Reached (ap (λ (o : Outcome). o.world.day) c.place.ensures.outcome)
      (reached_placing (g.R.SharingRule.shares c.args.rule.now) (g.met.R.SharingRule.divides c.args.rule.now) c.args.participant c.args.terms.now (world_of c.args.self.now.desk.state c.args.register.now (g.C.Clearing.book c.args.clearing.now)) c.args.self.now.reached);
}

pub returns-clause-law : goal.returns-clause-law
returns-clause-law g c =
    let rule = g.R.SharingRule.shares c.args.rule.now in
    let w = world_of c.args.self.now.desk.state c.args.register.now (g.C.Clearing.book c.args.clearing.now) in
    subst (Extends (place rule (length c.args.register.now) c.args.participant c.args.terms.now) w) (ap (λ (o : Outcome). o.world) c.place.ensures.outcome)
    (extends_place rule (g.met.R.SharingRule.divides c.args.rule.now) c.args.participant c.args.terms.now w)

pub returns-clause-elsewhere : goal.returns-clause-elsewhere
returns-clause-elsewhere g c differs other fits =
    let rule = g.R.SharingRule.shares c.args.rule.now in
    let w = world_of c.args.self.now.desk.state c.args.register.now (g.C.Clearing.book c.args.clearing.now) in
    extends_over (place rule (length c.args.register.now) c.args.participant c.args.terms.now) w _ other
    (sym c.place.ensures.outcome ∙ placing_length rule c.args.participant c.args.terms.now w differs)
    (extends_place_other rule (g.met.R.SharingRule.divides c.args.rule.now) (length c.args.register.now) c.args.participant c.args.terms.now (over other w) fits differs)
