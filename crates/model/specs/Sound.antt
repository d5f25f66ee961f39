-- What every market of a day keeps.
use Rattle.std.specs.Prelude.{◌≡◌, ℕ, ◌+◌, ◌<◌, ◌≤◌, length, count_by, nat_eq}
use Rattle.orders.specs.Visible.{visible_sum}
use Rattle.orders.specs.declared.kinds.Direction.{Direction}
use Rattle.orders.specs.declared.kinds.Direction.TheVariants.{Deposit}
use Rattle.orders.specs.declared.kinds.Order.{Order}
use Rattle.orders.specs.declared.kinds.State.TheVariants.{Done, Waiting, Active}
use Rattle.model.specs.Market.{Market, order_at, lots_of}
use Rattle.model.specs.Days.{Day}
use Rattle.model.specs.Place.{registered, market_of}

-- an order as every day has it
pub record SoundOrder (o : Order) : Type 0 where
  pub least : 1 ≤ o.terms.sum
  pub most : o.terms.sum ≤ 1000000
  pub percent : o.terms.percent ≤ 100
  pub whole : lots_of o + o.withdrawn ≤ o.terms.sum
  pub showing : o.state ≡ Active → (1 ≤ o.visible) × (o.visible ≤ visible_sum o.terms.sum o.terms.percent)
  pub waiting : o.state ≡ Waiting → (o.visible ≡ 0) × (o.hidden ≡ o.terms.sum)
  pub ended : o.state ≡ Done → lots_of o ≡ 0

-- a market as every day has it
pub record SoundMarket (m : Market) : Type 0 where
  pub orders : (k : ℕ) → k < length m.orders → SoundOrder (order_at m.orders k)
  pub few : (d : Direction) → registered d m.orders ≤ 64
  pub queued : (k : ℕ) → k < length m.orders → count_by (nat_eq k) m.queue ≡ 1
  pub inside : (k : ℕ) → length m.orders ≤ k → count_by (nat_eq k) m.queue ≡ 0

-- a day as every list of calls leaves it, over whatever registers and covers: a sound market in which only deposits wait, and no more rows used than the settings have
pub record LawfulDay (d : Day) : Type 0 where
  pub market : SoundMarket (market_of d)
  pub waits : (k : ℕ) → k < length d.orders → (order_at d.orders k).state ≡ Waiting → (order_at d.orders k).terms.direction ≡ Deposit
  pub within : d.used ≤ d.settings.rows
