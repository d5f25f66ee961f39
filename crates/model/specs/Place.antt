-- Place: an order is registered, covered, and meets the queue unless it waits.
use Rattle.std.specs.Prelude.{ℕ, suc, ◌+◌, ◌-◌, Bool, true, false, cond, not, ◌&&◌, List, [], ◌∷◌, ◌++◌, length, count_by, ◌==◌, nat_le, nat_lt}
use Rattle.clearing.specs.Book.{can_reserve, reserved, released}
use Rattle.orders.specs.Answers.{accepted}
use Rattle.orders.specs.Checks.{rests, waits_first}
use Rattle.orders.specs.Life.{next_state}
use Rattle.orders.specs.Table.{Table, terms_table}
use Rattle.orders.specs.declared.kinds.Direction.{Direction}
use Rattle.orders.specs.declared.kinds.Direction.TheVariants.{Deposit, Repo}
use Rattle.orders.specs.declared.kinds.Order.{Order}
use Rattle.orders.specs.declared.kinds.Remainder.{Remainder}
use Rattle.orders.specs.declared.kinds.Remainder.TheVariants.{Queue, Withdraw, FillOrReject}
use Rattle.orders.specs.declared.kinds.State.TheVariants.{Active, Waiting}
use Rattle.orders.specs.declared.kinds.Terms.{Terms}
use Rattle.orders.specs.declared.lifecycle.Event.TheVariants.{Conclusion, Withdrawal}
use Rattle.orders.specs.declared.refusals.Refusal.TheVariants as refused
use Rattle.model.specs.Days.{Day, World, Outcome, written, judged}
use Rattle.model.specs.Market.{Market, admissible_lots, is_active}
use Rattle.model.specs.Rounds.{Rule, Meeting, meeting, shows}

-- two directions are one
abbrev pub same_direction : Direction → Direction → Bool
same_direction Deposit Deposit = true
same_direction Deposit Repo = false
same_direction Repo Deposit = false
same_direction Repo Repo = true

-- how many orders of a direction are registered, done ones too
abbrev pub registered : Direction → List Order → ℕ
registered d orders = count_by (λ o. same_direction d o.terms.direction) orders

-- how many active orders there are of the other direction
abbrev pub opposite : Direction → List Order → ℕ
opposite d orders = count_by (λ o. is_active o.state && not (same_direction d o.terms.direction)) orders

-- the order concludes its whole sum or nothing
abbrev pub all_or_nothing : Remainder → Bool
all_or_nothing Queue = false
all_or_nothing Withdraw = false
all_or_nothing FillOrReject = true

-- the volume test fails: an all-or-nothing order with a sum above the lots admissible to it
abbrev pub volume_fails : Terms → List Order → Bool
volume_fails e orders = all_or_nothing e.remainder && nat_lt (admissible_lots e orders) e.sum

-- the refusals of place, by their numbers
abbrev pub place_table : World → ℕ → Terms → Table
place_table w p e =
    (refused.RegisterLength, not (length w.register == w.day.settings.rows))
    ∷ (terms_table w.day.settings w.day.clock p e
    ++ ((refused.TooManyOrders, nat_le 64 (registered e.direction w.day.orders))
    ∷ (refused.TooFewRows, not (waits_first w.day.settings.mode e) && nat_lt (length w.register - w.day.used) (opposite e.direction w.day.orders))
    ∷ (refused.Volume, not (waits_first w.day.settings.mode e) && volume_fails e w.day.orders)
    ∷ (refused.Cover, not (can_reserve w.cover p e.sum))
    ∷ []))

-- the remainder that is withdrawn at once
abbrev pub withdrawn_of : Terms → ℕ → ℕ
withdrawn_of e left = cond (rests e.remainder) 0 left

-- the lots that stay in the queue
abbrev pub rest_of : Terms → ℕ → ℕ
rest_of e left = cond (rests e.remainder) left 0

-- an order after its rounds left so much of it: it rests, showing its visible sum or the rest if that is less, or its remainder is withdrawn
abbrev pub entered : ℕ → ℕ → Terms → ℕ → Order
entered n p e left = record {
  number = n;
  owner = p;
  terms = e;
  state = cond (rests e.remainder) (next_state Active (Conclusion left)) (next_state (next_state Active (Conclusion left)) Withdrawal);
  visible = shows e (rest_of e left);
  hidden = rest_of e left - shows e (rest_of e left);
  withdrawn = withdrawn_of e left;
}

-- an order that waits hides its whole sum
abbrev pub waiting : ℕ → ℕ → Terms → Order
waiting n p e = record { number = n; owner = p; terms = e; state = Waiting; visible = 0; hidden = e.sum; withdrawn = 0 }

-- the day with one more order, last in the queue
abbrev pub with_order : Day → List Order → List ℕ → ℕ → Order → Day
with_order d orders queue used o = record {
  settings = d.settings;
  clock = d.clock;
  orders = orders ++ (o ∷ []);
  queue = queue ++ (length orders ∷ []);
  used = used;
}

-- the market of a day, with no row made yet
abbrev pub market_of : Day → Market
market_of d = record { orders = d.orders; queue = d.queue; rows = [] }

-- the number of the next order
abbrev pub next_number : Day → ℕ
next_number d = suc (length d.orders)

-- an order that waits is registered and covered
unfoldable pub placed_waiting : World → ℕ → Terms → Outcome
placed_waiting w p e = record {
  answer = accepted (next_number w.day ∷ 0 ∷ []);
  world = record {
    day = with_order w.day w.day.orders w.day.queue w.day.used (waiting (next_number w.day) p e);
    register = w.register;
    cover = reserved w.cover p e.sum;
  };
}

-- any other order is registered and covered, met the queue, and its remainder rests or is withdrawn and released
unfoldable pub placed_meeting : World → ℕ → Terms → Meeting → Outcome
placed_meeting w p e met = record {
  answer = accepted (next_number w.day ∷ (e.sum - met.left) ∷ []);
  world = record {
    day = with_order w.day met.market.orders met.market.queue (w.day.used + length met.market.rows) (entered (next_number w.day) p e met.left);
    register = written w.register w.day.used met.market.rows;
    cover = released (reserved w.cover p e.sum) p (withdrawn_of e met.left);
  };
}

-- what an accepted order does
unfoldable pub placed : Rule → World → ℕ → Terms → Outcome
placed rule w p e =
    elim (waits_first w.day.settings.mode e) [
      | true ↦ placed_waiting w p e
      | false ↦ placed_meeting w p e (meeting rule w.day.settings e (next_number w.day) (market_of w.day))
    ]

-- place
unfoldable pub placing : Rule → ℕ → Terms → World → Outcome
placing rule p e w = judged (place_table w p e) w (placed rule w p e)
