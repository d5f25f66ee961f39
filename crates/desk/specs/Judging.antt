-- The refusals of place before its cover, and those of a withdrawal by its order.
use Rattle.std.specs.Prelude.{ℕ, ◌-◌, not, ◌&&◌, [], ◌∷◌, ◌++◌, ◌==◌, nat_le, nat_lt}
use Rattle.orders.specs.Checks.{waits_first}
use Rattle.orders.specs.Table.{Table, terms_table}
use Rattle.orders.specs.declared.kinds.Order.{Order}
use Rattle.orders.specs.declared.kinds.Terms.{Terms}
use Rattle.orders.specs.declared.refusals.Refusal.TheVariants as refused
use Rattle.model.specs.Days.{Day}
use Rattle.model.specs.Place.{registered, opposite, volume_fails}
use Rattle.model.specs.Withdraw.{is_done}

-- the refusals 11 to 13, for a register of so many rows
abbrev pub room_tests : Day → ℕ → Terms → Table
room_tests d rows e =
    (refused.TooManyOrders, nat_le 64 (registered e.direction d.orders))
    ∷ (refused.TooFewRows, not (waits_first d.settings.mode e) && nat_lt (rows - d.used) (opposite e.direction d.orders))
    ∷ (refused.Volume, not (waits_first d.settings.mode e) && volume_fails e d.orders)
    ∷ []

-- the refusals 2 to 13
abbrev pub place_tests : Day → ℕ → ℕ → Terms → Table
place_tests d rows p e =
    (refused.RegisterLength, not (rows == d.settings.rows)) ∷ (terms_table d.settings d.clock p e ++ room_tests d rows e)

-- the refusals 16 and 17 of a withdrawal of this order
abbrev pub own_tests : Order → ℕ → Table
own_tests o p = (refused.NotOwner, not (o.owner == p)) ∷ (refused.OrderDone, is_done o.state) ∷ []
