-- Sharing pro rata divides q.
use Rattle.std.proofs.Common.{subst, add-mul, mul_comm, mul-le-mul_left, mul-le-mul_right, le_of_mul-le-mul_right, div-mul-le_self, arith}
use Rattle.std.specs.Prelude.{ℕ, ◌+◌, ◌*◌, ◌/◌, ◌<◌, ◌≤◌, List, [], ◌∷◌, map, sum, nat_lt}
use Rattle.std.proofs.Math.Nat.{div-le_of_le-mul, lt-mul-div-succ}
use Rattle.std.proofs.lemmas.List.Sums.{sum_by-cons}
use Rattle.std.proofs.lemmas.Bool.{cond_both, ltb-false}
use Rattle.sharing.specs.Request.{Divides}
use Rattle.sharing.specs.ProRata.{quotas, pro_rata_shares}
use Rattle.sharing.specs.Parts.{Within, short, below, within_map, divides_complete}

-- a proportion is at most its sum
pub quota_le : (v q whole : ℕ) → q ≤ whole → v * q / whole ≤ v
quota_le v q whole h = div-le_of_le-mul whole (subst (λ (n : ℕ). v * q ≤ n) (mul_comm v whole) (mul-le-mul_left v h))

-- the proportions of a list's part
abbrev portions : List ℕ → ℕ → ℕ → List ℕ
portions vs q whole = map (λ v. v * q / whole) vs

-- rounded down, they come to no more than their proportion
portions_low : (vs : List ℕ) (q whole : ℕ) → sum (portions vs q whole) * whole ≤ sum vs * q
portions_low [] q whole = omega arith
portions_low (v ∷ vs) q whole =
    rw (sum_by-cons (λ x. x) (v * q / whole) (portions vs q whole), sum_by-cons (λ x. x) v vs)
    (omega (arith, portions_low vs q whole, div-mul-le_self (v * q) whole, add-mul (v * q / whole) (sum (portions vs q whole)) whole, add-mul v (sum vs) q))

-- with one more for each that is below its sum, a proportion is covered
quota_high : (v q whole : ℕ) → q ≤ whole → 0 < whole → v * q ≤ (v * q / whole + short v (v * q / whole)) * whole
quota_high v q whole h pos =
    cond_both (nat_lt (v * q / whole) v) 1 0 (λ n. v * q ≤ (v * q / whole + n) * whole)
    (λ e. omega (arith, lt-mul-div-succ (v * q) pos, mul_comm whole (v * q / whole + 1)))
    (λ e. omega (arith, mul-le-mul_left v h, mul-le-mul_right whole (ltb-false (v * q / whole) v e), add-mul (v * q / whole) 0 whole))

portions_high : (vs : List ℕ) (q whole : ℕ) → q ≤ whole → 0 < whole → sum vs * q ≤ (sum (portions vs q whole) + below vs (portions vs q whole)) * whole
portions_high [] q whole h pos = omega arith
portions_high (v ∷ vs) q whole h pos =
    let p : ℕ = v * q / whole in
    let s : ℕ = short v (v * q / whole) in
    let P : ℕ = sum (portions vs q whole) in
    let B : ℕ = below vs (portions vs q whole) in
    rw (sum_by-cons (λ x. x) (v * q / whole) (portions vs q whole), sum_by-cons (λ x. x) v vs)
    (omega (arith, portions_high vs q whole h pos, quota_high v q whole h pos, add-mul v (sum vs) q, add-mul (p + P) (s + B) whole, add-mul p P whole, add-mul s B whole, add-mul p s whole, add-mul P B whole))

pub quotas_low : (sums : List ℕ) (q : ℕ) → 0 < sum sums → sum (quotas sums q) ≤ q
quotas_low sums q pos =
    le_of_mul-le-mul_right {k = sum sums} (omega (arith, portions_low sums q (sum sums), mul_comm (sum sums) q)) pos

quotas_high : (sums : List ℕ) (q : ℕ) → q ≤ sum sums → 0 < sum sums → q ≤ sum (quotas sums q) + below sums (quotas sums q)
quotas_high sums q h pos =
    le_of_mul-le-mul_right {k = sum sums} (omega (arith, portions_high sums q (sum sums) h pos, mul_comm (sum sums) q)) pos

within_portions : (vs : List ℕ) (q whole : ℕ) → q ≤ whole → Within vs (portions vs q whole)
within_portions vs q whole h = within_map (λ v. v * q / whole) (λ v. quota_le v q whole h) vs

pub pro_rata_divides : (sums : List ℕ) (q : ℕ) → 1 ≤ q → q ≤ sum sums → Divides sums q (pro_rata_shares sums q)
pro_rata_divides sums q least covered =
    let pos : 0 < sum sums = omega arith in
    divides_complete sums (quotas sums q) q (within_portions sums q (sum sums) covered) (quotas_low sums q pos) (quotas_high sums q covered pos)
