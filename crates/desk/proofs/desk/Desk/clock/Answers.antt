use Rattle.std.proofs.Common.{sym, refl, ap, ◌∙◌}
use Rattle.std.proofs.lemmas.Result.{err_from_is_err_and}
use Rattle.model.proofs.Reached.{lawful_out}
use Rattle.model.specs.Clock.{due}
use Rattle.model.specs.States.{day_of}
use Rattle.desk.specs.Worlds.{world_of}
use Rattle.desk.proofs.Clockings.{clock_refused, clock_ready, clock_accepted, inside_refused, inside_accepted}
use Rattle.desk.proofs.desk.Desk.clock.Goals as goal

pub returns-in_err-judge_clock : goal.returns-in_err-judge_clock
returns-in_err-judge_clock g c =
    let s = c.args.self.now in
    let book = g.C.Clearing.book c.args.clearing.now in
    let w = world_of s.state c.args.register.now book in
    let rule = g.R.SharingRule.shares c.args.rule.now in
    let p = err_from_is_err_and c.from_residual.result c.from_residual.ensures.1 in
    let refused = sym (c.in_err-judge_clock.ensures c.args.register.now book refl) in
    record {
      outcome = rw (p.1, p.2) (clock_refused rule c.args.time w _ refused);
      inside = inside_refused rule c.args.time w (g.C.Clearing.makeup c.args.clearing.now) _ refused;
    }

pub invariant_of-self : goal.invariant_of-self
invariant_of-self g c =
    let s = c.args.self.now in
    let day = lawful_out (day_of s.state) s.lawful in
    record { few = s.few; long = s.long; lawful = ∣ record { market = day.market; waits = day.waits; within = day.within } ∣₁ }

pub activate_each-lots-requires-clause-ready : goal.activate_each-lots-requires-clause-ready
activate_each-lots-requires-clause-ready g c =
    let s = c.args.self.now in
    let book = g.C.Clearing.book c.args.clearing.now in
    let w = world_of s.state c.args.register.now book in
    let rule = g.R.SharingRule.shares c.args.rule.now in
    clock_ready c.args.time w c.deref.result.now (lawful_out (day_of s.state) s.lawful) (sym (c.in_ok-judge_clock.ensures c.args.register.now book refl))
    (c.deref.ensures.0 ∙ c.list_due-places.ensures ∙ ap (due c.args.time) c.orders.ensures.value)

pub returns : goal.returns
returns g c =
    let s = c.args.self.now in
    let book = g.C.Clearing.book c.args.clearing.now in
    let w = world_of s.state c.args.register.now book in
    let rule = g.R.SharingRule.shares c.args.rule.now in
    let passed = sym (c.in_ok-judge_clock.ensures c.args.register.now book refl) in
    let is = c.list_due-places.ensures ∙ ap (due c.args.time) c.orders.ensures.value in
    record {
      outcome =
          rw c.len-2.ensures.value (clock_accepted rule c.args.time w c.list_due-places.result.items c.activate_each-lots.result _ passed is
          (rw c.deref.ensures.0 at c.activate_each-lots.ensures.lots) (rw c.deref.ensures.0 at c.activate_each-lots.ensures.world));
      inside = inside_accepted rule c.args.time w (g.C.Clearing.makeup c.args.clearing.now) _ c.list_due-places.result.items passed is (rw c.deref.ensures.0 at c.activate_each-lots.ensures.inside);
    }
