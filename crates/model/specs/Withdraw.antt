-- Withdraw: a participant takes his order out.
use Rattle.std.specs.Prelude.{ℕ, pred, ◌+◌, Bool, true, false, not, ◌||◌, [], ◌∷◌, length, ◌==◌, nat_lt, slice_set}
use Rattle.clearing.specs.Book.{released}
use Rattle.orders.specs.Answers.{accepted}
use Rattle.orders.specs.Life.{next_state}
use Rattle.orders.specs.Table.{Table}
use Rattle.orders.specs.declared.kinds.Order.{Order}
use Rattle.orders.specs.declared.kinds.State.{State}
use Rattle.orders.specs.declared.kinds.State.TheVariants.{Done, Waiting, Active}
use Rattle.orders.specs.declared.lifecycle.Event.{Event}
use Rattle.orders.specs.declared.lifecycle.Event.TheVariants.{Withdrawal}
use Rattle.orders.specs.declared.refusals.Refusal.TheVariants as refused
use Rattle.model.specs.Days.{Day, World, Outcome, judged}
use Rattle.model.specs.Market.{order_at, lots_of}

-- a done order
abbrev pub is_done : State → Bool
is_done Done = true
is_done Waiting = false
is_done Active = false

-- the refusals of withdraw, by their numbers
abbrev pub withdraw_table : Day → ℕ → ℕ → Table
withdraw_table d n p =
    (refused.NoSuchOrder, (n == 0) || nat_lt (length d.orders) n)
    ∷ (refused.NotOwner, not ((order_at d.orders (pred n)).owner == p))
    ∷ (refused.OrderDone, is_done (order_at d.orders (pred n)).state)
    ∷ []

-- an order whose lots are all withdrawn, by a withdrawal or by the close
abbrev pub taken_out : Event → Order → Order
taken_out event o = record {
  number = o.number;
  owner = o.owner;
  terms = o.terms;
  state = next_state o.state event;
  visible = 0;
  hidden = 0;
  withdrawn = o.withdrawn + lots_of o;
}

-- the day with another order at place k
abbrev pub with_order_at : Day → ℕ → Order → Day
with_order_at d k o = record {
  settings = d.settings;
  clock = d.clock;
  orders = slice_set d.orders k o;
  queue = d.queue;
  used = d.used;
}

-- what an accepted withdrawal does: its lots are withdrawn and released
unfoldable pub withdrawn : ℕ → World → Outcome
withdrawn n w = record {
  answer = accepted (lots_of (order_at w.day.orders (pred n)) ∷ []);
  world = record {
    day = with_order_at w.day (pred n) (taken_out Withdrawal (order_at w.day.orders (pred n)));
    register = w.register;
    cover = released w.cover (order_at w.day.orders (pred n)).owner (lots_of (order_at w.day.orders (pred n)));
  };
}

-- withdraw
unfoldable pub withdrawing : ℕ → ℕ → World → Outcome
withdrawing n p w = judged (withdraw_table w.day n p) w (withdrawn n w)
