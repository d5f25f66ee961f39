-- What the shares of a round do, by place.
use Rattle.std.proofs.Common.{◌≡◌, ℕ, zero, suc, not, List, ◌++◌, get_or, take, replicate, filter, refl, ap, ◌∙◌}
use mathlib.Core.Path.{fun_ext}
use Rattle.orders.specs.declared.kinds.Order.{Order}
use Rattle.orders.specs.declared.kinds.Row.{Row}
use Rattle.orders.specs.declared.kinds.Terms.{Terms}
use Rattle.orders.specs.declared.settings.Settings.{Settings}
use Rattle.model.specs.Market.{order_at}
use Rattle.model.specs.Rounds.{after_round, after_share, each_from, refills, share_at}
use Rattle.model.specs.Rows.{add_rows}
use Rattle.desk.specs.Matching.{RowsMade, Stands, market_of, requeued}

module _ (places shares by_place : List ℕ) (is : (k : ℕ) → get_or by_place k 0 ≡ share_at k places shares) where
  all_is : ◌≡◌ {A = ℕ → ℕ} (λ k. get_or by_place k 0) (λ k. share_at k places shares)
  all_is = fun_ext is

  -- orders, queue and rows after the round
  pub settled : (s : Settings) (e : Terms) (n : ℕ) (orders : List Order) (queue : List ℕ) (before : List Row) (made : ℕ)
      (orders_after : List Order) (queue_after : List ℕ) (after : List Row) (r : ℕ)
      → orders_after ≡ each_from (λ k o. after_share (get_or by_place k 0) o) 0 orders
      → queue_after ≡ requeued by_place orders queue
      → RowsMade (add_rows s e.direction n orders places shares (take made before)) before after r
      → Stands (after_round s e n places shares (market_of orders queue (take made before))) orders_after queue_after before after r
  unfolding after_round requeued
  settled s e n orders queue before made orders_after queue_after after r orders_are queue_is rows = record {
    ordered = orders_are ∙ ap (λ (f : ℕ → ℕ). each_from (λ k o. after_share (f k) o) 0 orders) all_is;
    queued =
        queue_is
        ∙ ap (λ (f : ℕ → ℕ). filter (λ k. not (refills (f k) (order_at orders k))) queue ++ filter (λ k. refills (f k) (order_at orders k)) queue) all_is;
    rows = rows;
  }

-- the first of many zeros
pub zeros : (n m k : ℕ) → ◌≡◌ {A = ℕ} (get_or (take m (replicate n 0)) k 0) 0
zeros n zero k = refl
zeros zero (suc m) k = refl
zeros (suc n) (suc m) zero = refl
zeros (suc n) (suc m) (suc k) = zeros n m k
