use Rattle.std.proofs.Common.{◌∙◌, rules, tests}
use Rattle.std.proofs.lemmas.Iterator.{YieldsList-from_map_by, YieldsList-from_slice}
use Rattle.std.proofs.lemmas.Iterator.Consumers.{YieldsList-at, YieldsList-from_filter}
use Rattle.orders.specs.declared.kinds.Rate.{Rate}
use Rattle.model.specs.Market.{better, meets, order_at, resting_rate}
use Rattle.desk.proofs.BestOffer.{best_met, reduce_called}
use Rattle.desk.proofs.matching.Entering.best_rate.Goals as goal

pub returns : goal.returns
returns c =
    reduce_called _ (λ (rate : Rate). rate.hundredths) (better c.args.self.now.terms.direction) _ (λ a x r q k. search (rules, tests)) _ _ c.reduce.ensures.ran
    (YieldsList-from_map_by _ (λ (rate : Rate). rate.hundredths) (resting_rate c.args.self.now.settings)
    (YieldsList-at c.map-2.ensures.source
    (YieldsList-from_filter _ (meets c.args.self.now.terms)
    (YieldsList-at c.filter.ensures.source
    (YieldsList-from_map_by _ (λ o. o.now) (order_at c.args.orders.now) (YieldsList-from_slice c.args.queue.now cc) c.map.ensures.closure (λ x r q k. search (rules, tests))))
    c.filter.ensures.closure (λ x r q k. search (rules, tests))))
    c.map-2.ensures.closure (λ x r q k. search (rules, tests)))
    ∙ best_met c.args.self.now.settings c.args.self.now.terms c.args.orders.now c.args.queue.now
