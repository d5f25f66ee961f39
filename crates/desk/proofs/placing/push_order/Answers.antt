use Rattle.std.proofs.Common.{◌≡◌, length, arith, rules}
use Rattle.model.specs.States.{day_of}
use Rattle.desk.proofs.Placements.{day_pushed}
use Rattle.desk.proofs.placing.push_order.Goals as goal

pub returns-clause-day : goal.returns-clause-day
returns-clause-day c =
    let full : length c.args.state.now.orders ≡ 128 = search rules in
    let long : length c.args.state.now.queue ≡ 128 = search rules in
    day_pushed (day_of c.args.state.now) c.args.state.now.orders c.args.state.now.queue c.args.state.now.count c.args.order (omega arith) (omega arith)
