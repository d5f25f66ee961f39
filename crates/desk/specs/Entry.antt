-- An order that enters a day, and the day that it leaves.
use Rattle.std.specs.Prelude.{ℕ, ◌+◌, length}
use Rattle.orders.specs.declared.kinds.Order.{Order}
use Rattle.orders.specs.declared.kinds.Terms.{Terms}
use Rattle.model.specs.Days.{Day}
use Rattle.model.specs.Place.{market_of, with_order}
use Rattle.model.specs.Rounds.{Rule, Meeting, meeting}

-- how the order with these terms and this number meets the queue of a day
abbrev pub meeting_in : Rule → Day → Terms → ℕ → Meeting
meeting_in rule d e n = meeting rule d.settings e n (market_of d)

-- a day whose queue an order met: its orders and queue are those of the market, and the rows made are used
abbrev pub day_met : Day → Meeting → Day
day_met d met = record {
  settings = d.settings;
  clock = d.clock;
  orders = met.market.orders;
  queue = met.market.queue;
  used = d.used + length met.market.rows;
}

-- a day with one more order, last in the queue
abbrev pub day_with : Day → Order → Day
day_with d o = with_order d d.orders d.queue d.used o
