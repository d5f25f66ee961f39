-- A loop that pushes each place that passes a test.
use Rattle.std.proofs.Common.{◌≡◌, ℕ, ◌<◌, ◌≤◌, Bool, true, cond, not, List, length, get_or, take, filter, refl, arith}
use Rattle.std.proofs.lemmas.List.Filters.{length-filter_both}
use Rattle.std.proofs.lemmas.List.Sums.{length-filter, sum_by_more_le}

-- one more finds room, where all do
pub filter_room : (p : ℕ → Bool) (xs : List ℕ) (i n : ℕ) → i < length xs → p (get_or xs i 0) ≡ true → length (filter p xs) ≤ n
    → length (filter p (take i xs)) < n
filter_room p xs i n here passes room =
    omega (
      arith,
      length-filter p xs,
      length-filter p (take i xs),
      rw passes at (sum_by_more_le (λ x. cond (p x) 1 0) xs i 0 here),
    )

-- no more are kept than there are
pub filter_most : (p : ℕ → Bool) (xs : List ℕ) → length (filter p xs) ≤ length xs
filter_most p xs = omega (arith, length-filter_both p (λ k. not (p k)) (λ _. refl) xs)
