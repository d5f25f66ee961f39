use Rattle.std.proofs.Common.{arith}
use Rattle.std.proofs.lemmas.List.{length-take, length-drop}
use Rattle.orders.specs.declared.kinds.Direction.TheVariants.{Deposit, Repo}
use Rattle.model.specs.Place.{market_of}
use Rattle.model.specs.States.{day_of}
use Rattle.desk.proofs.Desks.{queue_long}
use Rattle.desk.proofs.Placements.{all_registered}
use Rattle.desk.proofs.entry.enter.Goals as goal

pub meet_queue-met-requires-clause-ready : goal.meet_queue-met-requires-clause-ready
meet_queue-met-requires-clause-ready g c =
    let market = c.requires.sound.market in
    record {
      sound = market;
      few = omega (arith, all_registered (day_of c.args.state.now).orders, market.few Deposit, market.few Repo);
      long = queue_long (market_of (day_of c.args.state.now)) market;
      most = c.requires.most;
      room = simp (length-take, length-drop) (omega (arith, c.requires.room));
    }

pub returns-clause-orders : goal.returns-clause-orders
returns-clause-orders g c = simp length-take (omega (arith, c.meet_queue-met.ensures.same.0))

pub returns-clause-queue : goal.returns-clause-queue
returns-clause-queue g c = simp length-take (omega (arith, c.meet_queue-met.ensures.same.1))
