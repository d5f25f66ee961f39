-- What the clearing of a day is made of after each call.
use Rattle.std.specs.Prelude.{ℕ, suc, pred, true, false, cond, List, [], ◌∷◌, Some, None}
use Rattle.clearing.specs.Makeup.{Makeup, reserved_in, released_in}
use Rattle.orders.specs.Checks.{waits_first}
use Rattle.orders.specs.Table.{first}
use Rattle.orders.specs.declared.kinds.Order.{Order}
use Rattle.orders.specs.declared.kinds.Terms.{Terms}
use Rattle.model.specs.Clock.{activated, at_time, clock_table, due}
use Rattle.model.specs.Days.{Day, World}
use Rattle.model.specs.Market.{lots_of, order_at}
use Rattle.model.specs.Place.{market_of, next_number, place_table, volume_fails, withdrawn_of}
use Rattle.model.specs.Rounds.{Rule, meeting}
use Rattle.model.specs.Withdraw.{is_done, withdraw_table}

-- an accepted order's sum is reserved, and the remainder that is withdrawn is released
unfoldable pub placed_inside : Rule → ℕ → Terms → World → Makeup → Makeup
placed_inside rule p e w m =
    elim (waits_first w.day.settings.mode e) [
      | true ↦ reserved_in m p e.sum
      | false ↦ released_in (reserved_in m p e.sum) p (withdrawn_of e (meeting rule w.day.settings e (next_number w.day) (market_of w.day)).left)
    ]

-- after place
unfoldable pub place_inside : Rule → ℕ → Terms → World → Makeup → Makeup
place_inside rule p e w m = elim (first (place_table w p e)) [ Some r ↦ m | None ↦ placed_inside rule p e w m ]

-- after withdraw: the order's lots are released
unfoldable pub withdraw_inside : ℕ → ℕ → Day → Makeup → Makeup
withdraw_inside n p d m =
    elim (first (withdraw_table d n p)) [
      | Some r ↦ m
      | None ↦ released_in m (order_at d.orders (pred n)).owner (lots_of (order_at d.orders (pred n)))
    ]

-- the lots that the activation of the order at place k withdraws: all if its volume test fails, else what its rounds leave
unfoldable pub withdrawn_late : Rule → ℕ → World → ℕ
withdrawn_late rule k w =
    elim (volume_fails (order_at w.day.orders k).terms w.day.orders) [
      | true ↦ lots_of (order_at w.day.orders k)
      | false ↦ (meeting rule w.day.settings (order_at w.day.orders k).terms (suc k) (market_of w.day)).left
    ]

-- after some activations: what each withdraws is released
unfoldable pub activations_inside : Rule → List ℕ → World → Makeup → Makeup
activations_inside rule [] w m = m
activations_inside rule (k ∷ ks) w m =
    activations_inside rule ks (activated rule k w).world (released_in m (order_at w.day.orders k).owner (withdrawn_late rule k w))

-- after clock
unfoldable pub clock_inside : Rule → ℕ → World → Makeup → Makeup
clock_inside rule time w m =
    elim (first (clock_table w time)) [
      | Some r ↦ m
      | None ↦ activations_inside rule (due time w.day.orders) (at_time time w) m
    ]

-- after the end of one order: its lots are released if it is not done
abbrev pub ended_inside : Order → Makeup → Makeup
ended_inside o m = cond (is_done o.state) m (released_in m o.owner (lots_of o))

-- after close: each order ends, by rising number
unfoldable pub close_inside : List Order → Makeup → Makeup
close_inside [] m = m
close_inside (o ∷ os) m = close_inside os (ended_inside o m)
