-- The day that a state of fixed tables stands for.
use Rattle.std.specs.Prelude.{take}
use Rattle.model.specs.Days.{Day}
use Rattle.model.specs.declared.state.DayState.{DayState}

-- the registered orders and their queue
abbrev pub day_of : DayState → Day
day_of s = record {
  settings = s.settings;
  clock = s.clock;
  orders = take s.count s.orders;
  queue = take s.count s.queue;
  used = s.used;
}
