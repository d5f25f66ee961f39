-- The orders at the best rate, in a sound market.
use Rattle.std.proofs.Common.{◌≡◌, ℕ, ◌*◌, ◌<◌, ◌≤◌, Bool, true, false, eqb, ◌⊎◌, List, [], ◌∷◌, length, Some, None, count_by, filter, refl, ap, ◌∙◌, inl, inr, mul-le-mul_right, arith}
use Rattle.std.specs.List.{All, AllByRecursion}
use Rattle.std.proofs.ByRecursion.{All-get_or, all_kept_by}
use Rattle.std.proofs.lemmas.Bool.{cases_lt}
use Rattle.std.proofs.lemmas.Bool.Decides.{nat_tests}
use Rattle.orders.specs.declared.kinds.Direction.{Direction}
use Rattle.orders.specs.declared.kinds.Terms.{Terms}
use Rattle.orders.specs.declared.settings.Settings.{Settings}
use Rattle.sharing.specs.Request.{Divides}
use Rattle.model.specs.Market.{Market, best, front, meets, offers, order_at, rates_at, resting_rate, visible_at}
use Rattle.model.specs.Rounds.{empty, share_at}
use Rattle.model.proofs.Places.{all_from_counted, count_kept, share_within}
use Rattle.model.specs.Sound.{SoundMarket}
use Rattle.model.proofs.AllRounds.{kept_twice}
use Rattle.desk.specs.Matching.{Fit, best_of, market_of, places_at}

-- each place of the queue is that of an order
all_queued : (m : Market) → SoundMarket m → AllByRecursion (λ k. k < length m.orders) m.queue
all_queued m sound = all_from_counted (λ k. k < length m.orders) m.queue (λ k some. by_place k some (cases_lt k (length m.orders)))
  where
    by_place : (k : ℕ) → 1 ≤ count_by (eqb k) m.queue → (k < length m.orders) ⊎ (length m.orders ≤ k) → k < length m.orders
    by_place k some (inl inside) = inside
    by_place k some (inr outside) = absurd (omega (arith, sound.inside k outside))

pub queue_places : (m : Market) → SoundMarket m → All (λ k. k < length m.orders) m.queue
queue_places m sound i d inside = All-get_or (λ k. k < length m.orders) m.queue i d inside (all_queued m sound)

pub front_places : (s : Settings) (e : Terms) (m : Market) → SoundMarket m → All (λ k. k < length m.orders) (front s e m)
unfolding front offers
front_places s e m sound i d inside =
    All-get_or (λ k. k < length m.orders) (front s e m) i d inside
    (all_kept_by (λ k. eqb (resting_rate s (order_at m.orders k)) (best e.direction (rates_at s m.orders (offers e m)))) (λ k. k < length m.orders) (offers e m)
    (all_kept_by (λ k. meets e (order_at m.orders k)) (λ k. k < length m.orders) m.queue (all_queued m sound)))

-- a place stands once in the queue, so at most once among those at the best rate
queue_once : (m : Market) → SoundMarket m → (k : ℕ) → count_by (eqb k) m.queue ≤ 1
queue_once m sound k =
    elim (cases_lt k (length m.orders)) [
      | inl inside ↦ omega (arith, sound.queued k inside)
      | inr outside ↦ omega (arith, sound.inside k outside)
    ]

kept_once : (p : ℕ → Bool) (k : ℕ) (places : List ℕ) → count_by (eqb k) places ≤ 1 → count_by (eqb k) (filter p places) ≤ 1
kept_once p k places once = let is = count_kept p k places in grind (arith, nat_tests)

front_once : (s : Settings) (e : Terms) (m : Market) → SoundMarket m → (k : ℕ) → count_by (eqb k) (front s e m) ≤ 1
unfolding front offers
front_once s e m sound k =
    kept_once (λ k. eqb (resting_rate s (order_at m.orders k)) (best e.direction (rates_at s m.orders (offers e m)))) k (offers e m)
    (kept_once (λ k. meets e (order_at m.orders k)) k m.queue (queue_once m sound k))

-- lawful shares of the front are among the visible lots
pub front_fit : (s : Settings) (e : Terms) (m : Market) (q : ℕ) (shares : List ℕ) → SoundMarket m
    → Divides (visible_at m.orders (front s e m)) q shares → Fit (λ k. share_at k (front s e m) shares) m.orders
front_fit s e m q shares sound divides k inside =
    let once : count_by (eqb k) (front s e m) * (order_at m.orders k).visible ≤ 1 * (order_at m.orders k).visible =
    mul-le-mul_right (order_at m.orders k).visible (front_once s e m sound k) in (
      omega (arith, share_within (λ j. (order_at m.orders j).visible) k (front s e m) shares divides.long divides.within),
      omega (arith, (sound.orders k inside).whole, (sound.orders k inside).most),
    )

-- the best of some rates
best_is : (d : Direction) (rates : List ℕ) (rate : ℕ) → Some rate ≡ best_of d rates → best d rates ≡ rate
best_is d [] rate is = cc
best_is d (r ∷ rates) rate is = cc

-- the orders at the best rate
pub front_at : (s : Settings) (e : Terms) (m : Market) (rate : ℕ)
    → Some rate ≡ best_of e.direction (rates_at s m.orders (offers e (market_of m.orders m.queue [])))
    → front s e m ≡ places_at s e rate m.orders m.queue
unfolding front offers places_at
front_at s e m rate is =
    let rate_is : best e.direction (rates_at s m.orders (offers e m)) ≡ rate = best_is e.direction (rates_at s m.orders (offers e m)) rate is in
    ap (λ (r : ℕ). filter (λ k. eqb (resting_rate s (order_at m.orders k)) r) (offers e m)) rate_is
    ∙ kept_twice (λ k. eqb (resting_rate s (order_at m.orders k)) rate) (λ k. meets e (order_at m.orders k)) _ (λ _. refl) m.queue

-- some order may be met
pub best_offers : (s : Settings) (e : Terms) (m : Market) (rate : ℕ)
    → Some rate ≡ best_of e.direction (rates_at s m.orders (offers e (market_of m.orders m.queue [])))
    → empty (offers e m) ≡ false
unfolding offers
best_offers s e m rate is = some_offer (offers e m) is
  where
    some_offer : (places : List ℕ) → Some rate ≡ best_of e.direction (rates_at s m.orders places) → empty places ≡ false
    some_offer [] is = cc
    some_offer (k ∷ ks) is = refl

-- or none may
pub none_offers : (s : Settings) (e : Terms) (m : Market)
    → None ≡ best_of e.direction (rates_at s m.orders (offers e (market_of m.orders m.queue [])))
    → empty (offers e m) ≡ true
unfolding offers
none_offers s e m is = no_offer (offers e m) is
  where
    no_offer : (places : List ℕ) → None ≡ best_of e.direction (rates_at s m.orders places) → empty places ≡ true
    no_offer [] is = refl
    no_offer (k ∷ ks) is = cc
