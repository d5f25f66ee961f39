use Rattle.std.proofs.Common.{rules}
use Rattle.std.proofs.iter.Serving.{serving}
use Rattle.model.specs.Market.{admissible_lots}
use Rattle.desk.proofs.Passes.{all_few, offered_few}
use Rattle.desk.proofs.desk.Desk.admissible_lots.Goals as goal

pub sum-requires-clause-can : goal.sum-requires-clause-can
sum-requires-clause-can c = let few = all_few c.orders.result.now c.orders.ensures.kept in grind serving

pub sum-requires-clause-fits : goal.sum-requires-clause-fits
sum-requires-clause-fits c = let few = offered_few c.args.newcomer.now c.orders.result.now c.orders.ensures.kept in search rules

pub returns : goal.returns
unfolding admissible_lots
returns c = search rules
