-- How much of an order's sum is visible.
use Rattle.std.specs.Prelude.{ℕ, ◌+◌, ◌*◌, ◌/◌, min, cond, ◌==◌}

-- sum × percent / 100 rounded up to whole lots
abbrev pub share_of : ℕ → ℕ → ℕ
share_of sum percent = (sum * percent + 99) / 100

-- the whole sum at percent 0, else that share; a percent above 100 shows no more than the sum
abbrev pub visible_sum : ℕ → ℕ → ℕ
visible_sum sum percent = cond (percent == 0) sum (min (share_of sum percent) sum)
