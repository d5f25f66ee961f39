-- Totals over participants, as sums.
use Rattle.std.proofs.Common.{◌≡◌, ℕ, zero, suc, ◌+◌, ◌*◌, ◌≤◌, map, sum, sym, ap, ◌∙◌, zero-le, zero-add, refl, arith, add-one}
use Rattle.std.specs.List.{range_with_len}
use Rattle.std.proofs.lemmas.List.FromFn.{sum_by-map-range_with_len_more}
use Rattle.session.specs.Totals.{total_below}

pub total_sum : (n : ℕ) (figures : ℕ → ℕ) → sum (map figures (range_with_len 0 n)) ≡ total_below n figures
unfolding total_below
total_sum zero figures = refl
total_sum (suc n) figures =
    ap (λ k. sum (map figures (range_with_len 0 k))) (sym (add-one n))
    ∙ sum_by-map-range_with_len_more (λ x. x) figures 0 n n (zero-add n)
    ∙ ap (λ s. s + figures n) (total_sum n figures)

pub total_bounded : (n : ℕ) (figures : ℕ → ℕ) → ((p : ℕ) → figures p ≤ 1000000000) → total_below n figures ≤ 1000000000 * n
unfolding total_below
total_bounded zero figures low = zero-le
total_bounded (suc n) figures low =
    let here = low n in
    let below = total_bounded n figures low in omega arith
