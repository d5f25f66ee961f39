-- What the entry of an order leaves, in the market's own words.
use Rattle.std.specs.Prelude.{◌≡◌, ℕ, ◌+◌, ◌<◌, ◌≤◌, true, List, ◌++◌, length, filter, nat_eq, slice_index_or}
use Rattle.std.specs.List.{AllByRecursion}
use Rattle.orders.specs.declared.kinds.Order.{Order}
use Rattle.orders.specs.declared.kinds.Row.{Row}
use Rattle.orders.specs.declared.kinds.State.TheVariants.{Done}
use Rattle.orders.specs.declared.kinds.Terms.{Terms}
use Rattle.model.specs.Choices.{Admissible, Concludes, concluded_with, is_pair}
use Rattle.model.specs.Market.{Market, order_at, lots_of}

-- a row made by the entry of order n: it names n and an order admissible to it, has that order's rate, and at least one lot
pub record NewRow (e : Terms) (n : ℕ) (orders : List Order) (r : Row) : Type 0 where
  pub place : ℕ
  pub stands : place < length orders
  pub pair : is_pair e.direction n place r ≡ true
  pub met : Admissible e (order_at orders place)
  pub rate : r.rate ≡ (order_at orders place).terms.rate
  pub some : 1 ≤ r.lots

-- a pair has one row
abbrev pub OneRowEach : List Row → Type 0
OneRowEach rows =
    (i j : ℕ) (none : Row) → i < length rows → j < length rows → (slice_index_or rows i none).deposit ≡ (slice_index_or rows j none).deposit → (slice_index_or rows i none).repo ≡ (slice_index_or rows j none).repo → i ≡ j

-- an order from which c lots were concluded: nothing else of it changed, and it is done exactly if none are left
pub record Touched (c : ℕ) (o after : Order) : Type 0 where
  pub number : after.number ≡ o.number
  pub owner : after.owner ≡ o.owner
  pub terms : after.terms ≡ o.terms
  pub withdrawn : after.withdrawn ≡ o.withdrawn
  pub lots : lots_of after + c ≡ lots_of o
  pub untouched : c ≡ 0 → after ≡ o
  pub ended : 1 ≤ c → lots_of after ≡ 0 → after.state ≡ Done
  pub goes_on : 1 ≤ lots_of after → after.state ≡ o.state

-- those that showed no lots again keep their order, and those that did stand behind them
pub record Queued (before after : Market) : Type 0 where
  pub back : List ℕ
  pub queue : after.queue ≡ filter (λ k. nat_eq (order_at after.orders k).hidden (order_at before.orders k).hidden) before.queue ++ back
  pub showed : AllByRecursion (λ k. (order_at after.orders k).hidden < (order_at before.orders k).hidden) back

-- the entry of order n with the terms e into a market: what it concluded, the rows it made, the orders it touched, and the queue
pub record Enters (e : Terms) (n : ℕ) (before after : Market) : Type 0 where
  pub concludes : Concludes e n before.orders after.rows
  pub rows : AllByRecursion (NewRow e n before.orders) after.rows
  pub single : OneRowEach after.rows
  pub same : length after.orders ≡ length before.orders
  pub orders : (k : ℕ) → k < length before.orders → Touched (concluded_with e.direction n after.rows k) (order_at before.orders k) (order_at after.orders k)
  pub queue : Queued before after
