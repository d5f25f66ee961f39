-- Totals over participants.
use Rattle.std.specs.Prelude.{ℕ, zero, suc, ◌+◌}

-- the figures of the participants below n together
unfoldable pub total_below : ℕ → (ℕ → ℕ) → ℕ
total_below zero figures = 0
total_below (suc n) figures = total_below n figures + figures n
