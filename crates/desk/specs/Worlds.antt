-- A state with a register and a cover.
use Rattle.std.specs.Prelude.{ℕ, List}
use Rattle.clearing.specs.Book.{Book}
use Rattle.orders.specs.declared.kinds.Order.{Order}
use Rattle.orders.specs.declared.kinds.Row.{Row}
use Rattle.model.specs.Days.{World}
use Rattle.model.specs.Market.{order_at}
use Rattle.model.specs.States.{day_of}
use Rattle.model.specs.declared.state.DayState.{DayState}

-- the world of a state, a register and a cover
abbrev pub world_of : DayState → List Row → Book → World
world_of s register cover = record { day = day_of s; register = register; cover = cover }

-- the registered order at place k
abbrev pub order_of : DayState → ℕ → Order
order_of s k = order_at (day_of s).orders k
