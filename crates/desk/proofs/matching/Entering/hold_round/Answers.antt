use Rattle.std.proofs.Common.{◌∙◌, refl, subst}
use Rattle.model.specs.Market.{Market}
use Rattle.desk.specs.Matching.{Stands}
use Rattle.desk.proofs.BestPlaces.{front_places, queue_places}
use Rattle.desk.proofs.RoundFacts.{few_places, lots_are, round_asks, round_places, round_settled, round_sums}
use Rattle.desk.proofs.matching.Entering.hold_round.Goals as goal

pub places_at-places-requires : goal.places_at-places-requires
places_at-places-requires g c = record { places = queue_places _ c.requires.ready.sound; room = few_places c.requires.ready _ c.requires.best }

pub visible_at-sums-requires-clause-places : goal.visible_at-sums-requires-clause-places
visible_at-sums-requires-clause-places g c =
    rw (round_places c.requires.ready _ c.requires.best _ (c.deref.ensures.0 ∙ c.places_at-places.ensures)) (front_places _ _ _ c.requires.ready.sound)

pub lots_to_divide-lots-requires : goal.lots_to_divide-lots-requires
lots_to_divide-lots-requires g c =
    let sums = round_sums c.requires.ready _ c.requires.best _ _ (c.deref.ensures.0 ∙ c.places_at-places.ensures) (c.deref-2.ensures.0 ∙ c.visible_at-sums.ensures) in
    sums.fit

pub divide-shares-requires : goal.divide-shares-requires
divide-shares-requires g c =
    let sums = round_sums c.requires.ready _ c.requires.best _ _ (c.deref.ensures.0 ∙ c.places_at-places.ensures) (c.deref-3.ensures.0 ∙ c.visible_at-sums.ensures) in
    rw (c.lots_to_divide-lots.ensures, c.deref-2.ensures.0, ← c.deref-3.ensures.0) sums.lawful

pub settle-requires : goal.settle-requires
settle-requires g c =
    let sums = round_sums c.requires.ready _ c.requires.best _ _ (c.deref.ensures.0 ∙ c.places_at-places.ensures) (c.deref-2.ensures.0 ∙ c.visible_at-sums.ensures) in
    let asks = round_asks c.requires.ready (g.met.R.SharingRule.divides c.args.rule.now) c.deref-4.result.now c.deref-2.result.now c.lots_to_divide-lots.result
    (round_places c.requires.ready _ c.requires.best _ (c.deref-4.ensures.0 ∙ c.places_at-places.ensures)) sums.shown c.lots_to_divide-lots.ensures
    c.deref-5.result.now (rw (c.deref-5.ensures.0, c.divide-shares.ensures, c.deref-2.ensures.0, c.deref-3.ensures.0) refl) in
    record {
      few = c.requires.ready.few;
      long = c.requires.ready.long;
      queued = queue_places _ c.requires.ready.sound;
      listed = asks.listed;
      each = asks.each;
      fit = asks.fit;
      room = asks.room;
      fits = asks.fits;
    }

pub returns : goal.returns
returns g c =
    let sums = round_sums c.requires.ready _ c.requires.best _ _ (c.deref.ensures.0 ∙ c.places_at-places.ensures) (c.deref-2.ensures.0 ∙ c.visible_at-sums.ensures) in
    record {
      same = c.settle.ensures.same;
      lots = lots_are _ _ _ _ _ _ sums.shown c.lots_to_divide-lots.ensures;
      market =
          subst (λ (m : Market). Stands m c.settle.new.orders c.settle.new.queue c.args.rows.now.all.now c.settle.new.rows.all.now c.settle.new.rows.made)
          (round_settled c.requires.ready (g.met.R.SharingRule.divides c.args.rule.now) c.deref-4.result.now c.deref-2.result.now c.lots_to_divide-lots.result
          (round_places c.requires.ready _ c.requires.best _ (c.deref-4.ensures.0 ∙ c.places_at-places.ensures)) sums.shown c.lots_to_divide-lots.ensures
          c.deref-5.result.now (rw (c.deref-5.ensures.0, c.divide-shares.ensures, c.deref-2.ensures.0, c.deref-3.ensures.0) refl))
          c.settle.ensures.market;
    }
