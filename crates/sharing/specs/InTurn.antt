-- Sharing by time divides q.
use Rattle.std.specs.Prelude.{◌≡◌, ℕ, ◌-◌, ◌≤◌, min, List, [], ◌∷◌, sum}
use Rattle.std.proofs.Common.{arith}
use Rattle.std.proofs.lemmas.List.Sums.{sum_by-cons}
use Rattle.sharing.specs.Request.{Divides}
use Rattle.sharing.specs.Time.{time_shares}
use Rattle.sharing.specs.Parts.{Within, divides_from_within}

within_time : (sums : List ℕ) (q : ℕ) → Within sums (time_shares sums q)
within_time [] q = tt
within_time (v ∷ vs) q = (omega arith, within_time vs (q - min v q))

sum_time : (sums : List ℕ) (q : ℕ) → q ≤ sum sums → sum (time_shares sums q) ≡ q
sum_time [] q h = omega arith
sum_time (v ∷ vs) q h =
    let whole = sum_by-cons (λ x. x) v vs in
    let rest = sum_time vs (q - min v q) (omega arith) in
    omega (arith, rest, sum_by-cons (λ x. x) (min v q) (time_shares vs (q - min v q)))

pub time_divides : (sums : List ℕ) (q : ℕ) → q ≤ sum sums → Divides sums q (time_shares sums q)
time_divides sums q h = divides_from_within sums (time_shares sums q) q (within_time sums q) (sum_time sums q h)
