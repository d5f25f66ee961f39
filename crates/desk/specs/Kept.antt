-- What the state of every day keeps.
use Rattle.std.specs.Prelude.{ℕ, ◌<◌, ◌≤◌, List, length}
use Rattle.orders.specs.declared.kinds.Order.{Order}
use Rattle.model.specs.Sound.{LawfulDay, SoundOrder}
use Rattle.model.specs.Market.{order_at}
use Rattle.model.specs.States.{day_of}
use Rattle.model.specs.declared.state.DayState.{DayState}

-- at most 128 orders, each with its lots within its sum
pub record KeptOrders (orders : List Order) : Type 0 where
  pub few : length orders ≤ 128
  pub sound : (k : ℕ) → k < length orders → SoundOrder (order_at orders k)

-- the state of every day: it stands for a lawful day
abbrev pub Sound : DayState → Type 0
Sound s = LawfulDay (day_of s)
