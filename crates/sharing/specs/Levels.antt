-- The parity level, and that sharing by parity divides q.
use Rattle.std.specs.Prelude.{◌≡◌, ℕ, zero, suc, ◌+◌, ◌<◌, ◌≤◌, min, Bool, true, false, leb, List, [], ◌∷◌, length, drop, sum, nat_le, slice_index, refl}
use Rattle.std.proofs.Common.{ap, ◌∙◌, ⊎_elim, arith}
use Rattle.std.specs.List.{AllByRecursion}
use Rattle.std.proofs.lemmas.List.{at_drop_more}
use Rattle.std.proofs.lemmas.List.Sums.{sum_by-cons, sum_by-le-sum_by, sum-map}
use Rattle.std.proofs.lemmas.Bool.{cases_Bool, le-leb, leb-true}
use Rattle.std.proofs.lemmas.Bool.Decides.{nat_tests}
use Rattle.sharing.specs.Request.{Divides, VisibleSum}
use Rattle.sharing.specs.Parity.{capped, greatest, level, parity_shares}
use Rattle.sharing.specs.Theorems.{LevelIsGreatest}
use Rattle.sharing.specs.Parts.{Within, short, below, within_map, divides_complete}

greatest_zero : (test : ℕ → Bool) → greatest test zero ≡ zero
unfolding greatest
greatest_zero test = refl

greatest_passed : (test : ℕ → Bool) (n : ℕ) → test (suc n) ≡ true → greatest test (suc n) ≡ suc n
unfolding greatest
greatest_passed test n e = rw (e, greatest) refl

greatest_failed : (test : ℕ → Bool) (n : ℕ) → test (suc n) ≡ false → greatest test (suc n) ≡ greatest test n
unfolding greatest
greatest_failed test n e = rw (e, greatest) refl

greatest_le : (test : ℕ → Bool) (n : ℕ) → greatest test n ≤ n
greatest_le test zero = omega (arith, greatest_zero test)
greatest_le test (suc n) =
    ⊎_elim (λ e. omega (arith, greatest_passed test n e)) (λ e. omega (arith, greatest_failed test n e, greatest_le test n))
    (cases_Bool (test (suc n)))

greatest_passes : (test : ℕ → Bool) (n : ℕ) → test zero ≡ true → test (greatest test n) ≡ true
greatest_passes test zero z = ap test (greatest_zero test) ∙ z
greatest_passes test (suc n) z =
    ⊎_elim (λ e. ap test (greatest_passed test n e) ∙ e) (λ e. ap test (greatest_failed test n e) ∙ greatest_passes test n z)
    (cases_Bool (test (suc n)))

below_failed : (test : ℕ → Bool) (n u : ℕ) → u ≤ suc n → test u ≡ true → test (suc n) ≡ false → u ≤ n
below_failed test n u h p e =
    grind arith

greatest_top : (test : ℕ → Bool) (n u : ℕ) → u ≤ n → test u ≡ true → u ≤ greatest test n
greatest_top test zero u h p = omega arith
greatest_top test (suc n) u h p =
    ⊎_elim (λ e. omega (arith, greatest_passed test n e))
    (λ e. omega (arith, greatest_failed test n e, greatest_top test n u (below_failed test n u h p e) p))
    (cases_Bool (test (suc n)))

capped_zero : (sums : List ℕ) → sum (capped sums 0) ≡ 0
capped_zero [] = refl
capped_zero (v ∷ vs) = omega (arith, sum_by-cons (λ x. x) (min v 0) (capped vs 0), capped_zero vs)

-- a higher cap takes one more from each sum above the lower one
capped_next : (sums : List ℕ) (t : ℕ) → sum (capped sums (t + 1)) ≡ sum (capped sums t) + below sums (capped sums t)
capped_next [] t = refl
capped_next (v ∷ vs) t =
    let one : min v (t + 1) ≡ min v t + short v (min v t) = grind (arith, nat_tests) in
    omega (arith, one, sum_by-cons (λ x. x) (min v (t + 1)) (capped vs (t + 1)), sum_by-cons (λ x. x) (min v t) (capped vs t), capped_next vs t)

capped_mono : (sums : List ℕ) (t u : ℕ) → t ≤ u → sum (capped sums t) ≤ sum (capped sums u)
capped_mono sums t u h =
    rw (sum-map (λ v. min v t) sums, sum-map (λ v. min v u) sums) (sum_by-le-sum_by (λ v. min v t) (λ v. min v u) sums (λ v. omega arith))

pub capped_le : (sums : List ℕ) (t : ℕ) → sum (capped sums t) ≤ sum sums
capped_le sums t = rw (sum-map (λ v. min v t) sums) (sum_by-le-sum_by (λ v. min v t) (λ v. v) sums (λ v. omega arith))

capped_full : (sums : List ℕ) → AllByRecursion VisibleSum sums → sum (capped sums 1000000) ≡ sum sums
capped_full [] each = refl
capped_full (v ∷ vs) each =
    omega (arith, each.0, sum_by-cons (λ x. x) (min v 1000000) (capped vs 1000000), sum_by-cons (λ x. x) v vs, capped_full vs each.1)

pub level_greatest : LevelIsGreatest
level_greatest sums q =
    let test : ℕ → Bool = λ t. leb (sum (capped sums t)) q in
    record {
      bound = greatest_le test 1000000;
      fits = leb-true _ q (greatest_passes test 1000000 (le-leb (sum (capped sums 0)) q (omega (arith, capped_zero sums))));
      top = λ u h fits. greatest_top test 1000000 u h (le-leb (sum (capped sums u)) q fits);
    }

-- a cap that takes more than q is above the level
level_lt : (sums : List ℕ) (q t : ℕ) → q < sum (capped sums t) → level sums q < t
level_lt sums q t more =
    grind (arith, (level_greatest sums q).fits, capped_mono sums t (level sums q))

-- a cap takes at most q exactly up to the level
pub level_test : (sums : List ℕ) (q t : ℕ) → t ≤ 1000000 → nat_le (sum (capped sums t)) q ≡ nat_le t (level sums q)
level_test sums q t h =
    let above = level_lt sums q t in
    let within = (level_greatest sums q).top t h in
    grind (arith, nat_tests)

pub level_is : (sums : List ℕ) (q t : ℕ) → t ≤ 1000000 → sum (capped sums t) ≤ q → q < sum (capped sums (t + 1)) → level sums q ≡ t
level_is sums q t h fits more = omega (arith, (level_greatest sums q).top t h fits, level_lt sums q (t + 1) more)

-- the cap above the level takes more than q
level_next : (sums : List ℕ) (q : ℕ) → level sums q < 1000000 → q < sum (capped sums (level sums q + 1))
level_next sums q l =
    grind (arith, (level_greatest sums q).top (level sums q + 1))

-- enough sums are above the level to take the rest
level_high : (sums : List ℕ) (q : ℕ) → AllByRecursion VisibleSum sums → q ≤ sum sums → q ≤ sum (capped sums (level sums q)) + below sums (capped sums (level sums q))
level_high sums q each covered =
    grind (arith, level_next sums q, capped_next sums (level sums q), capped_full sums each, capped_mono sums 1000000 (level sums q))

within_capped : (sums : List ℕ) (t : ℕ) → Within sums (capped sums t)
within_capped sums t = within_map (λ v. min v t) (λ v. omega arith) sums

pub parity_divides : (sums : List ℕ) (q : ℕ) → AllByRecursion VisibleSum sums → q ≤ sum sums → Divides sums q (parity_shares sums q)
parity_divides sums q each covered =
    divides_complete sums (capped sums (level sums q)) q (within_capped sums (level sums q)) (level_greatest sums q).fits
    (level_high sums q each covered)

-- the capped sums from place i on, one taken off
pub capped_drop : (sums : List ℕ) (i t : ℕ) → i < length sums → sum (capped (drop i sums) t) ≡ min (slice_index sums i) t + sum (capped (drop (i + 1) sums) t)
capped_drop sums i t l =
    at_drop_more (λ vs. sum (capped vs t)) sums i 0 l ∙ sum_by-cons (λ x. x) (min (slice_index sums i) t) (capped (drop (i + 1) sums) t)
