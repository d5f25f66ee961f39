use Rattle.std.proofs.Common.{◌≡◌, length, take, sym, ap, ◌∙◌}
use Rattle.std.proofs.lemmas.List.{length-map, take_at}
use Rattle.orders.specs.declared.lifecycle.Event.TheVariants.{Close}
use Rattle.model.specs.Withdraw.{taken_out}
use Rattle.desk.proofs.Closings.{closed_world}
use Rattle.desk.proofs.closing.close_orders.Goals as goal

pub returns-clause-world : goal.returns-clause-world
returns-clause-world g c =
    let s = c.args.state.now in
    let long : length c.end_each.new.orders ≡ s.count = ap length c.end_each.ensures.orders ∙ length-map (take s.count s.orders) (taken_out Close) ∙ c.requires.long in
    closed_world s _ (take_at c.end_each.new.orders _ s.count long ∙ c.end_each.ensures.orders) (g.C.Clearing.book c.args.clearing.now) (g.C.Clearing.book c.end_each.new.clearing) c.end_each.ensures.cover

pub returns-clause-orders : goal.returns-clause-orders
returns-clause-orders g c =
    let s = c.args.state.now in
    let long : length c.end_each.new.orders ≡ s.count = ap length c.end_each.ensures.orders ∙ length-map (take s.count s.orders) (taken_out Close) ∙ c.requires.long in
    ap length (take_at c.end_each.new.orders _ s.count long) ∙ long ∙ sym c.requires.long
