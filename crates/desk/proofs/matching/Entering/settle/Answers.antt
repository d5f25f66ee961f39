use Rattle.std.proofs.Common.{length}
use Rattle.desk.proofs.Settling.{settled, zeros}
use Rattle.desk.proofs.matching.Entering.settle.Goals as goal

pub spread-requires-clause-empty : goal.spread-requires-clause-empty
spread-requires-clause-empty c = λ k. zeros 128 (length c.args.orders.now) k

pub returns-clause-market : goal.returns-clause-market
returns-clause-market c =
    settled c.args.places.now c.args.shares.now c.spread.new.by_place c.spread.ensures
    c.args.self.now.settings c.args.self.now.terms c.args.self.now.number
    c.args.orders.now c.args.queue.now c.args.rows.now.all.now c.args.rows.now.made
    c.conclude.new.orders c.requeue.new.queue c.add_rows.new.rows.all.now c.add_rows.new.rows.made
    c.conclude.ensures c.requeue.ensures c.add_rows.ensures.rows
