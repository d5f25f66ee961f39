-- The law of place.
use Rattle.std.specs.Prelude.{◌≡◌, ℕ, suc, ◌+◌, ◌-◌, ◌≤◌, min, [], ◌∷◌, ◌++◌, length, ◌≢◌}
use Rattle.clearing.specs.Book.{Book}
use Rattle.orders.specs.Theorems.{RoundedUp}
use Rattle.orders.specs.declared.kinds.Direction.TheVariants.{Deposit}
use Rattle.orders.specs.declared.kinds.Mode.TheVariants.{Auction}
use Rattle.orders.specs.declared.kinds.Order.{Order}
use Rattle.orders.specs.declared.kinds.Remainder.TheVariants.{Queue, FillOrReject}
use Rattle.orders.specs.declared.kinds.State.TheVariants.{Done, Waiting, Active}
use Rattle.orders.specs.declared.kinds.Terms.{Terms}
use Rattle.model.specs.Choices.{TooLittle, taken, concluded_with}
use Rattle.model.specs.Days.{Day, World, Outcome, written}
use Rattle.model.specs.Entry.{Enters}
use Rattle.model.specs.Judging.{NoneBelow, Judged}
use Rattle.model.specs.Ledger.{value}
use Rattle.model.specs.Market.{Market}
use Rattle.model.specs.Place.{place_table, market_of}

-- v is the visible sum: the whole sum at percent 0, else its percentage rounded up
pub record IsVisible (e : Terms) (v : ℕ) : Type 0 where
  pub plain : e.percent ≡ 0 → v ≡ e.sum
  pub iceberg : 1 ≤ e.percent → RoundedUp e.sum e.percent v

-- no participant's free and held lots together change, and p's held lots grow by n
pub record Covers (p n : ℕ) (before after : Book) : Type 0 where
  pub kept : (q : ℕ) → after.free q + after.held q ≡ before.free q + before.held q
  pub owner : after.held p ≡ before.held p + n
  pub others : (q : ℕ) → (q ≢ p) → after.held q ≡ before.held q

-- an order as asked, under its number, for its owner
pub record AsAsked (n p : ℕ) (e : Terms) (o : Order) : Type 0 where
  pub number : o.number ≡ n
  pub owner : o.owner ≡ p
  pub terms : o.terms ≡ e

-- an auction deposit waits
abbrev pub Waits : Day → Terms → Type 0
Waits d e = (d.settings.mode ≡ Auction) × (e.direction ≡ Deposit)

-- an order that waits is registered last and hides its whole sum, and nothing else changes but its cover
pub record PlacedWaiting (p : ℕ) (e : Terms) (w : World) (o : Outcome) : Type 0 where
  pub order : Order
  pub asked : AsAsked (suc (length w.day.orders)) p e order
  pub state : order.state ≡ Waiting
  pub hides : (order.visible ≡ 0) × (order.hidden ≡ e.sum)
  pub orders : o.world.day.orders ≡ w.day.orders ++ (order ∷ [])
  pub queue : o.world.day.queue ≡ w.day.queue ++ (length w.day.orders ∷ [])
  pub used : o.world.day.used ≡ w.day.used
  pub register : o.world.register ≡ w.register
  pub cover : Covers p e.sum w.cover o.world.cover
  pub none : value 1 o.answer ≡ 0

-- the remainder of an order: it rests, showing the lesser of its visible sum and the rest, or it is withdrawn
pub record Remains (e : Terms) (left : ℕ) (o : Order) : Type 0 where
  pub rest : e.remainder ≡ Queue → (v : ℕ) → IsVisible e v → (o.visible ≡ min v left) × (o.visible + o.hidden ≡ left)
  pub taken : (e.remainder ≢ Queue) → (o.visible ≡ 0) × (o.hidden ≡ 0)
  pub active : e.remainder ≡ Queue → 1 ≤ left → o.state ≡ Active
  pub ended : e.remainder ≡ Queue → left ≡ 0 → o.state ≡ Done
  pub out : (e.remainder ≢ Queue) → o.state ≡ Done

-- any other order enters the market that it finds, and stands behind all others
pub record PlacedMeeting (p : ℕ) (e : Terms) (w : World) (o : Outcome) : Type 0 where
  pub market : Market
  pub order : Order
  pub enters : Enters e (suc (length w.day.orders)) (market_of w.day) market
  pub lots : value 1 o.answer ≡ taken w.day.orders (concluded_with e.direction (suc (length w.day.orders)) market.rows)
  pub asked : AsAsked (suc (length w.day.orders)) p e order
  pub remains : Remains e (e.sum - value 1 o.answer) order
  pub orders : o.world.day.orders ≡ market.orders ++ (order ∷ [])
  pub queue : o.world.day.queue ≡ market.queue ++ (length w.day.orders ∷ [])
  pub used : o.world.day.used ≡ w.day.used + length market.rows
  pub fits : o.world.day.used ≤ length w.register
  pub register : o.world.register ≡ written w.register w.day.used market.rows
  pub resting : e.remainder ≡ Queue → Covers p e.sum w.cover o.world.cover
  pub released : (e.remainder ≢ Queue) → Covers p (value 1 o.answer) w.cover o.world.cover

-- what an accepted place does
pub record Placed (p : ℕ) (e : Terms) (w : World) (o : Outcome) : Type 0 where
  pub number : value 0 o.answer ≡ suc (length w.day.orders)
  pub settings : o.world.day.settings ≡ w.day.settings
  pub clock : o.world.day.clock ≡ w.day.clock
  pub waits : Waits w.day e → PlacedWaiting p e w o
  pub meets : (Waits w.day e → ⊥) → PlacedMeeting p e w o

-- the law of place: refused by its table or accepted; and its volume test fails exactly when no choice makes up the sum
pub record PlaceLaw (p : ℕ) (e : Terms) (w : World) (o : Outcome) : Type 0 where
  pub judged : Judged (place_table w p e) w o (Placed p e w o)
  pub tested : NoneBelow 11 (place_table w p e) → (Waits w.day e → ⊥) → e.remainder ≡ FillOrReject → (o.answer.number ≡ 13 → TooLittle e w.day.orders) × (TooLittle e w.day.orders → o.answer.number ≡ 13)
  pub untested : (e.remainder ≢ FillOrReject) → o.answer.number ≢ 13
  pub later : Waits w.day e → o.answer.number ≢ 13
