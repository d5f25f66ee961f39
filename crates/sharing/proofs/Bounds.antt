-- Totals of lawful sums fit 32 bits.
use Rattle.std.proofs.Common.{ℕ, ◌^◌, ◌<◌, ◌≤◌, List, length, sum, arith}
use Rattle.std.specs.List.{AllByRecursion}
use Rattle.std.proofs.ByRecursion.{All-weaker, sum_by_le}
use Rattle.sharing.specs.Request.{Lawful, VisibleSum}

pub visible_fit : (sums : List ℕ) → length sums ≤ 64 → AllByRecursion VisibleSum sums → sum sums < 2 ^ 32
visible_fit sums few each =
    omega (arith, sum_by_le (λ v. v) 1000000 sums (All-weaker VisibleSum (λ v. v ≤ 1000000) (λ v h. h.1) sums each))

pub lawful_fit : (sums : List ℕ) (q : ℕ) → Lawful sums q → sum sums < 2 ^ 32
lawful_fit sums q lawful = visible_fit sums lawful.few lawful.each
