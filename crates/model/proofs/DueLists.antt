-- The due list has exactly the due orders, by activation and then by number.
use Rattle.std.proofs.Common.{◌≡◌, ℕ, zero, suc, ◌+◌, ◌<◌, ◌≤◌, true, cond, eqb, leb, ◌⊎◌, List, [], ◌∷◌, length, get_or, Decides, count_by, sym, refl, ap, ◌∙◌, subst, inl, inr, arith}
use Rattle.std.specs.List.{AllByRecursion}
use Rattle.std.proofs.ByRecursion.{All-get_or, All-weaker}
use Rattle.std.proofs.lemmas.List.Sums.{sum_by-cons}
use Rattle.std.proofs.lemmas.Bool.{true≢false, cases_lt, cond-true, cond_both, leb-true, leb-false, le-leb}
use Rattle.std.proofs.lemmas.Bool.Decides.{nat_tests, Decides-and}
use Rattle.orders.specs.declared.kinds.Order.{Order}
use Rattle.orders.specs.declared.kinds.State.{State}
use Rattle.orders.specs.declared.kinds.State.TheVariants.{Done, Waiting, Active}
use Rattle.model.specs.Clock.{is_waiting, is_due, activation_at, put_due, due_from, due}
use Rattle.model.specs.ClockLaw.{Due, Sooner, DueList}
use Rattle.model.specs.Market.{none, order_at}

-- the test of a due order says that it is one
pub decides_due : (time : ℕ) (o : Order) → Decides (is_due time o) (Due time o)
decides_due time o = Decides-and _ _ (waits o.state) (leb-true _ _, le-leb _ _)
  where
    waits : (s : State) → Decides (is_waiting s) (s ≡ Waiting)
    waits Done = (λ on. absurd (true≢false (sym on)), λ is. cc)
    waits Waiting = (λ _. refl, λ _. refl)
    waits Active = (λ on. absurd (true≢false (sym on)), λ is. cc)

-- what holds of a place and of a list holds of the list with the place put into it
put_all : (P : ℕ → Type 0) (orders : List Order) (k : ℕ) (js : List ℕ) → P k → AllByRecursion P js → AllByRecursion P (put_due orders k js)
unfolding put_due
put_all P orders k [] pk all = (pk, all)
put_all P orders k (j ∷ js) pk (pj, all) =
    cond_both (leb (activation_at orders k) (activation_at orders j)) (k ∷ j ∷ js) (j ∷ put_due orders k js) (AllByRecursion P)
    (λ _. (pk, (pj, all))) (λ _. (pj, put_all P orders k js pk all))

-- a place put into a list is there once more
put_count : (orders : List Order) (i k : ℕ) (js : List ℕ) → count_by (eqb i) (put_due orders k js) ≡ cond (eqb i k) 1 0 + count_by (eqb i) js
unfolding put_due
put_count orders i k [] = sum_by-cons (λ x. cond (eqb i x) 1 0) k []
put_count orders i k (j ∷ js) =
    cond_both (leb (activation_at orders k) (activation_at orders j)) (k ∷ j ∷ js) (j ∷ put_due orders k js)
    (λ (ks : List ℕ). count_by (eqb i) ks ≡ cond (eqb i k) 1 0 + count_by (eqb i) (j ∷ js))
    (λ _. sum_by-cons one k (j ∷ js))
    (λ _. omega (arith, sum_by-cons one j (put_due orders k js), put_count orders i k js, sum_by-cons one j js))
  where
    one : ℕ → ℕ
    one x = cond (eqb i x) 1 0

-- each comes before all that follow
abbrev pub Sorted : List Order → List ℕ → Type 0
Sorted orders [] = Unit {0}
Sorted orders (j ∷ js) = AllByRecursion (Sooner orders j) js × Sorted orders js

-- no order comes before itself
pub sooner_distinct : (orders : List Order) (j k : ℕ) → Sooner orders j k → j ≡ k → ⊥
sooner_distinct orders j k (inl less) e = omega (arith, ap (activation_at orders) e)
sooner_distinct orders j k (inr (same, less)) e = omega arith

sooner_le : (orders : List Order) (j k : ℕ) → Sooner orders j k → activation_at orders j ≤ activation_at orders k
sooner_le orders j k (inl less) = omega arith
sooner_le orders j k (inr (same, less)) = omega arith

le_sooner : (orders : List Order) (j k : ℕ) → activation_at orders j ≤ activation_at orders k → j < k → Sooner orders j k
le_sooner orders j k le below = by (cases_lt (activation_at orders j) (activation_at orders k))
  where
    by : (activation_at orders j < activation_at orders k) ⊎ (activation_at orders k ≤ activation_at orders j) → Sooner orders j k
    by (inl less) = inl less
    by (inr more) = inr (omega arith, below)

-- before the first of a sorted list of higher places, and so before all
before_all : (orders : List Order) (k j : ℕ) (js : List ℕ) → activation_at orders k ≤ activation_at orders j → AllByRecursion (Sooner orders j) js → AllByRecursion (λ i. k < i) js
    → AllByRecursion (Sooner orders k) js
before_all orders k j [] le after above = tt
before_all orders k j (i ∷ is) le (s, after) (lt, above) =
    (le_sooner orders k i (omega (arith, sooner_le orders j i s)) lt, before_all orders k j is le after above)

put_sorted : (orders : List Order) (k : ℕ) (js : List ℕ) → AllByRecursion (λ j. k < j) js → Sorted orders js → Sorted orders (put_due orders k js)
unfolding put_due
put_sorted orders k [] above sorted = (tt, tt)
put_sorted orders k (j ∷ js) (lt, above) (after, sorted) =
    cond_both (leb (activation_at orders k) (activation_at orders j)) (k ∷ j ∷ js) (j ∷ put_due orders k js) (Sorted orders)
    (λ on. ((le_sooner orders k j (leb-true _ _ on) lt, before_all orders k j js (leb-true _ _ on) after above), (after, sorted)))
    (λ off. (put_all (Sooner orders j) orders k js (inl (leb-false _ _ off)) after, put_sorted orders k js above sorted))

-- os are the orders from place k on
pub record From (orders : List Order) (k : ℕ) (os : List Order) : Type 0 where
  pub ends : k + length os ≡ length orders
  pub is : (i j : ℕ) → j ≡ k + i → i < length os → order_at orders j ≡ get_or os i none

from_start : (orders : List Order) → From orders 0 orders
from_start orders = record { ends = omega arith; is = λ i j e lt. ap (order_at orders) (omega arith) }

from_next : (orders : List Order) (k : ℕ) (o : Order) (os : List Order) → From orders k (o ∷ os) → From orders (suc k) os
from_next orders k o os f = record { ends = omega (arith, f.ends); is = λ i j e lt. f.is (suc i) j (omega arith) (omega arith) }

-- a place from k on, of a due order
abbrev DueAfter : List Order → ℕ → ℕ → ℕ → Type 0
DueAfter orders time k j = (k ≤ j) × (j < length orders) × Due time (order_at orders j)

due_after : (orders : List Order) (time k : ℕ) (os : List Order) → From orders k os → AllByRecursion (DueAfter orders time k) (due_from orders time k os)
unfolding due_from
due_after orders time k [] f = tt
due_after orders time k (o ∷ os) f =
    let rest : AllByRecursion (DueAfter orders time k) (due_from orders time (suc k) os) =
    All-weaker _ _ (λ j h. (omega (arith, h.0), h.1, h.2)) _ (due_after orders time (suc k) os (from_next orders k o os f)) in
    cond_both (is_due time o) (put_due orders k (due_from orders time (suc k) os)) (due_from orders time (suc k) os) (AllByRecursion (DueAfter orders time k))
    (λ on. put_all _ orders k _ (omega arith, omega (arith, f.ends), subst (Due time) (sym (f.is 0 k (omega arith) (omega arith))) ((decides_due time o).0 on)) rest)
    (λ _. rest)

-- the due places are those of the due orders
pub due_all : (time : ℕ) (orders : List Order) → AllByRecursion (λ j. (j < length orders) × Due time (order_at orders j)) (due time orders)
due_all time orders = All-weaker _ _ (λ j h. (h.1, h.2)) _ (due_after orders time 0 orders (from_start orders))

sorted_from : (orders : List Order) (time k : ℕ) (os : List Order) → From orders k os → Sorted orders (due_from orders time k os)
unfolding due_from
sorted_from orders time k [] f = tt
sorted_from orders time k (o ∷ os) f =
    let rest : Sorted orders (due_from orders time (suc k) os) = sorted_from orders time (suc k) os (from_next orders k o os f) in
    let above : AllByRecursion (λ j. k < j) (due_from orders time (suc k) os) =
    All-weaker _ _ (λ j h. omega (arith, h.0)) _ (due_after orders time (suc k) os (from_next orders k o os f)) in
    cond_both (is_due time o) (put_due orders k (due_from orders time (suc k) os)) (due_from orders time (suc k) os) (Sorted orders)
    (λ _. put_sorted orders k _ above rest) (λ _. rest)

-- the due list is sorted
pub due_sorted : (time : ℕ) (orders : List Order) → Sorted orders (due time orders)
due_sorted time orders = sorted_from orders time 0 orders (from_start orders)

count_below : (orders : List Order) (time k i : ℕ) (os : List Order) → i < k → count_by (eqb i) (due_from orders time k os) ≡ 0
unfolding due_from
count_below orders time k i [] lt = refl
count_below orders time k i (o ∷ os) lt =
    let rest : count_by (eqb i) (due_from orders time (suc k) os) ≡ 0 = count_below orders time (suc k) i os (omega arith) in
    cond_both (is_due time o) (put_due orders k (due_from orders time (suc k) os)) (due_from orders time (suc k) os) (λ (ks : List ℕ). count_by (eqb i) ks ≡ 0)
    (λ _. let put : count_by (eqb i) (put_due orders k (due_from orders time (suc k) os)) ≡ cond (eqb i k) 1 0 + count_by (eqb i) (due_from orders time (suc k) os) = put_count orders i k _ in grind (arith, nat_tests))
    (λ _. rest)

count_at : (orders : List Order) (time k i j : ℕ) (os : List Order) → j ≡ k + i → i < length os → is_due time (get_or os i none) ≡ true
    → count_by (eqb j) (due_from orders time k os) ≡ 1
unfolding due_from
count_at orders time k i j [] e lt on = absurd (omega arith)
count_at orders time k zero j (o ∷ os) e lt on =
    let none_yet : count_by (eqb j) (due_from orders time (suc k) os) ≡ 0 = count_below orders time (suc k) j os (omega arith) in
    let put : count_by (eqb j) (put_due orders k (due_from orders time (suc k) os)) ≡ cond (eqb j k) 1 0 + count_by (eqb j) (due_from orders time (suc k) os) = put_count orders j k _ in
    let here : j ≡ k = omega arith in
    let once : count_by (eqb j) (put_due orders k (due_from orders time (suc k) os)) ≡ 1 = grind (arith, nat_tests) in
    ap (count_by (eqb j)) (cond-true (is_due time o) (put_due orders k (due_from orders time (suc k) os)) (due_from orders time (suc k) os) on) ∙ once
count_at orders time k (suc i) j (o ∷ os) e lt on =
    let rest : count_by (eqb j) (due_from orders time (suc k) os) ≡ 1 = count_at orders time (suc k) i j os (omega arith) (omega arith) on in
    cond_both (is_due time o) (put_due orders k (due_from orders time (suc k) os)) (due_from orders time (suc k) os) (λ (ks : List ℕ). count_by (eqb j) ks ≡ 1)
    (λ _. let put : count_by (eqb j) (put_due orders k (due_from orders time (suc k) os)) ≡ cond (eqb j k) 1 0 + count_by (eqb j) (due_from orders time (suc k) os) = put_count orders j k _ in grind (arith, nat_tests))
    (λ _. rest)

-- of two places of a sorted list the earlier comes before
pub sorted_at : (orders : List Order) (ks : List ℕ) (i j : ℕ) → Sorted orders ks → i < j → j < length ks → Sooner orders (get_or ks i 0) (get_or ks j 0)
sorted_at orders [] i j sorted lt in' = absurd (omega arith)
sorted_at orders (k ∷ ks) zero zero sorted lt in' = absurd (omega arith)
sorted_at orders (k ∷ ks) zero (suc j) (after, sorted) lt in' = All-get_or (Sooner orders k) ks j 0 (omega arith) after
sorted_at orders (k ∷ ks) (suc i) zero sorted lt in' = absurd (omega arith)
sorted_at orders (k ∷ ks) (suc i) (suc j) (after, sorted) lt in' = sorted_at orders ks i j sorted (omega arith) (omega arith)

-- the due list is the law's
pub due_law : (time : ℕ) (orders : List Order) → DueList time orders (due time orders)
due_law time orders = record {
  due = λ i lt. All-get_or _ (due time orders) i 0 lt (due_all time orders);
  all = λ k lt is. count_at orders time 0 k k orders (omega arith) lt ((decides_due time (order_at orders k)).1 is);
  sorted = λ i j lt in'. sorted_at orders (due time orders) i j (due_sorted time orders) lt in';
}
