-- The law of close and of the final statement.
use Rattle.std.specs.Prelude.{◌≡◌, ℕ, suc, ◌+◌, ◌<◌, cond, List, length, ◌==◌, slice_index_or}
use Rattle.model.specs.Calls.{Call}
use Rattle.model.specs.Choices.{total}
use Rattle.model.specs.Close.{Stated, statement}
use Rattle.model.specs.Days.{World}
use Rattle.model.specs.Ledger.{made, named_lots, withdrawn_over}
use Rattle.model.specs.Market.{order_at, lots_of}
use Rattle.model.specs.WithdrawLaw.{Ended}

-- after close every order has ended, all that rested or waited is released, and the rows are as before
pub record Closed (w after : World) : Type 0 where
  pub settings : after.day.settings ≡ w.day.settings
  pub clock : after.day.clock ≡ w.day.clock
  pub used : after.day.used ≡ w.day.used
  pub register : after.register ≡ w.register
  pub same : length after.day.orders ≡ length w.day.orders
  pub orders : (k : ℕ) → k < length w.day.orders → Ended (order_at w.day.orders k) (order_at after.day.orders k)
  pub kept : (p : ℕ) → after.cover.free p + after.cover.held p ≡ w.cover.free p + w.cover.held p
  pub held : (p : ℕ) → after.cover.held p + total (length w.day.orders) (λ k. cond ((order_at w.day.orders k).owner == p) (lots_of (order_at w.day.orders k)) 0) ≡ w.cover.held p

-- no line of a statement
abbrev pub unstated : Stated
unstated = record { concluded = 0; withdrawn = 0 }

-- the statement has each order's concluded lots by the rows that name it, and its withdrawn lots by the calls and the close
pub record States (calls : List Call) (start w after : World) : Type 0 where
  pub all : length (statement after.day.orders) ≡ length w.day.orders
  pub concluded : (k : ℕ) → k < length w.day.orders → (slice_index_or (statement after.day.orders) k unstated).concluded ≡ named_lots (suc k) (made after)
  pub withdrawn : (k : ℕ) → k < length w.day.orders → (slice_index_or (statement after.day.orders) k unstated).withdrawn ≡ withdrawn_over calls start (suc k) + lots_of (order_at w.day.orders k)
