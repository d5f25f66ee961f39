use Rattle.std.proofs.Common.{◌∙◌, rules, arith}
use Rattle.std.proofs.lemmas.Iterator.{YieldsList-from_range, YieldsList-from_map}
use Rattle.std.proofs.lemmas.Iterator.Consumers.{sum_from_yields_List, fits_from_yields_list}
use Rattle.session.proofs.Sums.{total_sum, total_bounded}
use Rattle.session.proofs.totals.free_below.Goals as goal

pub sum-requires-clause-fits : goal.sum-requires-clause-fits
sum-requires-clause-fits g c =
    let figures = (g.C.Clearing.book c.args.clearing.now).free in
    let low = total_bounded c.args.count figures (λ p. let bound = g.met.C.Clearing.bounded c.args.clearing.now p in omega arith) in
    fits_from_yields_list c.map.result _ (YieldsList-from_map _ figures (YieldsList-from_range 0 c.args.count c.args.count c.map.ensures.source (omega arith)) c.map.ensures.closure (λ x r q k. search rules)) (omega (arith, total_sum c.args.count figures))

pub returns : goal.returns
returns g c =
    let figures = (g.C.Clearing.book c.args.clearing.now).free in
    sum_from_yields_List c.map.result c.sum.result c.sum.ensures.ran (YieldsList-from_map _ figures (YieldsList-from_range 0 c.args.count c.args.count c.map.ensures.source (omega arith)) c.map.ensures.closure (λ x r q k. search rules)) ∙ total_sum c.args.count figures
