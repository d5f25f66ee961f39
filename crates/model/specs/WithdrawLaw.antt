-- The law of withdraw.
use Rattle.std.specs.Prelude.{◌≡◌, ℕ, pred, ◌+◌, ◌≤◌, List, length, ◌≢◌}
use Rattle.clearing.specs.Book.{Book}
use Rattle.orders.specs.declared.kinds.Order.{Order}
use Rattle.orders.specs.declared.kinds.State.TheVariants.{Done}
use Rattle.model.specs.Days.{World, Outcome}
use Rattle.model.specs.Judging.{Judged}
use Rattle.model.specs.Ledger.{value}
use Rattle.model.specs.Market.{order_at, lots_of}
use Rattle.model.specs.Withdraw.{withdraw_table}

-- an order with nothing left: done, and otherwise as it was asked
pub record Ended (o after : Order) : Type 0 where
  pub number : after.number ≡ o.number
  pub owner : after.owner ≡ o.owner
  pub terms : after.terms ≡ o.terms
  pub state : after.state ≡ Done
  pub none : lots_of after ≡ 0

-- no participant's free and held lots together change, and p's held lots fall by n
pub record Releases (p n : ℕ) (before after : Book) : Type 0 where
  pub kept : (q : ℕ) → after.free q + after.held q ≡ before.free q + before.held q
  pub owner : after.held p + n ≡ before.held p
  pub others : (q : ℕ) → (q ≢ p) → after.held q ≡ before.held q

-- only the order at place k differs, and it has ended
pub record OnlyEnded (k : ℕ) (before after : List Order) : Type 0 where
  pub same : length after ≡ length before
  pub one : Ended (order_at before k) (order_at after k)
  pub others : (j : ℕ) → (j ≢ k) → order_at after j ≡ order_at before j

-- what an accepted withdrawal does: one's own order that is not done ends, its visible and hidden lots are answered and released
pub record Withdrawn (n p : ℕ) (w : World) (o : Outcome) : Type 0 where
  pub stands : (1 ≤ n) × (n ≤ length w.day.orders)
  pub own : (order_at w.day.orders (pred n)).owner ≡ p
  pub alive : (order_at w.day.orders (pred n)).state ≡ Done → ⊥
  pub lots : value 0 o.answer ≡ lots_of (order_at w.day.orders (pred n))
  pub orders : OnlyEnded (pred n) w.day.orders o.world.day.orders
  pub settings : o.world.day.settings ≡ w.day.settings
  pub clock : o.world.day.clock ≡ w.day.clock
  pub queue : o.world.day.queue ≡ w.day.queue
  pub used : o.world.day.used ≡ w.day.used
  pub register : o.world.register ≡ w.register
  pub cover : Releases p (value 0 o.answer) w.cover o.world.cover

-- the law of withdraw
abbrev pub WithdrawLaw : ℕ → ℕ → World → Outcome → Type 0
WithdrawLaw n p w o = Judged (withdraw_table w.day n p) w o (Withdrawn n p w o)
