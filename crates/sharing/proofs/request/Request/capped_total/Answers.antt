use Rattle.std.proofs.Common.{rules, min, arith}
use Rattle.std.proofs.lemmas.Iterator.{YieldsList-from_map, YieldsList-from_slice}
use Rattle.std.proofs.lemmas.Iterator.Consumers.{fits_from_yields_list}
use Rattle.sharing.specs.Levels.{capped_le}
use Rattle.sharing.proofs.request.Request.capped_total.Goals as goal

pub sum-requires-clause-fits : goal.sum-requires-clause-fits
sum-requires-clause-fits c =
    fits_from_yields_list _ _ (YieldsList-from_map _ (λ v. min v c.args.t) (YieldsList-from_slice c.args.self.now.sums.now cc) c.map.ensures.closure (λ x r q k. search rules))
    (omega (arith, capped_le c.args.self.now.sums.now c.args.t))
