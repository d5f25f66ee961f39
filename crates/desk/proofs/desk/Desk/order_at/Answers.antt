use Rattle.model.proofs.Reached.{lawful_out}
use Rattle.model.specs.States.{day_of}
use Rattle.desk.proofs.desk.Desk.order_at.Goals as goal

pub returns-clause-sound : goal.returns-clause-sound
returns-clause-sound c = rw c.orders.ensures.value ((lawful_out (day_of c.args.self.now.state) c.args.self.now.lawful).market.orders c.args.place c.requires)
