-- Lists of places: counts, and the orders by their places.
use Rattle.std.proofs.Common.{◌≡◌, ℕ, zero, suc, ◌+◌, ◌*◌, ◌<◌, ◌≤◌, Bool, true, false, cond, not, eqb, List, [], ◌∷◌, ◌++◌, map, length, get_or, sum, count_by, filter, sym, refl, ap, ◌∙◌, subst, inl, inr, arith}
use Rattle.std.specs.List.{AllByRecursion}
use Rattle.std.proofs.lemmas.List.Filters.{sum_by-filter_both}
use Rattle.std.proofs.lemmas.List.Sums.{sum_by-cons, sum_by-append}
use Rattle.std.proofs.lemmas.Bool.{cases_eq, cases_lt, cond_both}
use Rattle.std.proofs.lemmas.Bool.Decides.{nat_tests}
use Rattle.orders.specs.declared.kinds.Order.{Order}
use Rattle.model.specs.Choices.{total}
use Rattle.model.specs.Market.{order_at}
use Rattle.model.specs.Rounds.{each_from, share_at}
use Rattle.model.proofs.Totals.{total_same, total_le, total_add, total_zero, total_one, total_count_by}

-- the order at place k of those that f changed, from place i on
pub each_at : (f : ℕ → Order → Order) (i : ℕ) (orders : List Order) (k : ℕ) → k < length orders
    → order_at (each_from f i orders) k ≡ f (i + k) (order_at orders k)
unfolding each_from
each_at f i [] k inside = absurd (omega arith)
each_at f i (o ∷ os) zero inside = let e : i ≡ i + 0 = omega arith in ap (λ (j : ℕ). f j o) e
each_at f i (o ∷ os) (suc k) inside =
    let e : suc i + k ≡ i + suc k = omega arith in
    each_at f (suc i) os k (omega arith) ∙ ap (λ (j : ℕ). f j (order_at os k)) e

pub each_length : (f : ℕ → Order → Order) (i : ℕ) (orders : List Order) → length (each_from f i orders) ≡ length orders
unfolding each_from
each_length f i [] = refl
each_length f i (o ∷ os) = ap suc (each_length f (suc i) os)

pub each_count : (p : Order → Bool) (f : ℕ → Order → Order) → ((k : ℕ) (o : Order) → p (f k o) ≡ p o)
    → (i : ℕ) (orders : List Order) → count_by p (each_from f i orders) ≡ count_by p orders
unfolding each_from
each_count p f same i [] = refl
each_count p f same i (o ∷ os) =
    sum_by-cons (λ x. cond (p x) 1 0) (f i o) (each_from f (suc i) os)
    ∙ rw (same i o, each_count p f same (suc i) os) (sym (sum_by-cons (λ x. cond (p x) 1 0) o os))

-- how often place k stands in a list whose head is c
pub count_cons : (k c : ℕ) (cs : List ℕ) → count_by (eqb k) (c ∷ cs) ≡ cond (eqb k c) 1 0 + count_by (eqb k) cs
count_cons k c cs = sum_by-cons (λ x. cond (eqb k x) 1 0) c cs

pub count_here : (k : ℕ) (cs : List ℕ) → 1 ≤ count_by (eqb k) (k ∷ cs)
count_here k cs = rw (count_cons k k cs) (grind (arith, nat_tests))

pub count_behind : (k c : ℕ) (cs : List ℕ) → count_by (eqb k) cs ≤ count_by (eqb k) (c ∷ cs)
count_behind k c cs = omega (arith, count_cons k c cs)

-- and in what a test keeps of a list
pub count_kept : (q : ℕ → Bool) (k : ℕ) (ks : List ℕ) → count_by (eqb k) (filter q ks) ≡ cond (q k) (count_by (eqb k) ks) 0
count_kept q k [] = cond_both (q k) 0 0 (λ x. 0 ≡ x) (λ _. refl) (λ _. refl)
count_kept q k (c ∷ cs) = by_head (q c) refl (count_kept q k cs)
  where
    same : k ≡ c → q k ≡ q c
    same e = ap q e

    by_head : (b : Bool) → q c ≡ b → count_by (eqb k) (filter q cs) ≡ cond (q k) (count_by (eqb k) cs) 0
        → count_by (eqb k) (cond b (c ∷ filter q cs) (filter q cs)) ≡ cond (q k) (count_by (eqb k) (c ∷ cs)) 0
    by_head true e rest = count_cons k c (filter q cs) ∙ rw (count_cons k c cs, rest) (grind (arith, nat_tests, same))
    by_head false e rest = rest ∙ rw (count_cons k c cs) (grind (arith, nat_tests, same))

-- a list in two parts, one behind the other
pub count_parted : (q : ℕ → Bool) (k : ℕ) (ks : List ℕ)
    → count_by (eqb k) (filter (λ c. not (q c)) ks ++ filter q ks) ≡ count_by (eqb k) ks
count_parted q k ks =
    sum_by-append (λ x. cond (eqb k x) 1 0) (filter (λ c. not (q c)) ks) (filter q ks)
    ∙ sum_by-filter_both (λ c. not (q c)) q (λ c. twice (q c)) (λ x. cond (eqb k x) 1 0) ks
  where
    twice : (b : Bool) → b ≡ not (not b)
    twice true = refl
    twice false = refl

-- what holds of all holds of one that is there
pub all_counted : (P : ℕ → Type 0) (k : ℕ) (ks : List ℕ) → AllByRecursion P ks → 1 ≤ count_by (eqb k) ks → P k
all_counted P k [] all some = absurd (omega arith)
all_counted P k (c ∷ cs) all some =
    elim (cases_eq k c) [
      | inl e ↦ subst P (sym e) all.0
      | inr ne ↦ all_counted P k cs all.1 (let e : count_by (eqb k) (c ∷ cs) ≡ cond (eqb k c) 1 0 + count_by (eqb k) cs = count_cons k c cs in grind (arith, nat_tests))
    ]

-- and what holds of each that is there holds of all
pub all_from_counted : (P : ℕ → Type 0) (ks : List ℕ) → ((k : ℕ) → 1 ≤ count_by (eqb k) ks → P k) → AllByRecursion P ks
all_from_counted P [] each = tt
all_from_counted P (c ∷ cs) each = (each c (count_here c cs), all_from_counted P cs (λ k some. each k (omega (arith, count_behind k c cs))))

-- the length of a list of places below n, place by place
count_inside : (n c : ℕ) (cs : List ℕ) → ((k : ℕ) → n ≤ k → count_by (eqb k) (c ∷ cs) ≡ 0) → c < n
count_inside n c cs none =
    elim (cases_lt c n) [
      | inl below ↦ below
      | inr above ↦
          let e : cond (eqb c c) 1 0 + count_by (eqb c) cs ≡ 0 = sym (count_cons c c cs) ∙ none c above in
          grind (arith, nat_tests)
    ]

count_rest : (n c : ℕ) (cs : List ℕ) → ((k : ℕ) → n ≤ k → count_by (eqb k) (c ∷ cs) ≡ 0) → (k : ℕ) → n ≤ k → count_by (eqb k) cs ≡ 0
count_rest n c cs none k above = omega (arith, count_cons k c cs, none k above)

pub length_total : (n : ℕ) (ks : List ℕ) → ((k : ℕ) → n ≤ k → count_by (eqb k) ks ≡ 0) → length ks ≡ total n (λ k. count_by (eqb k) ks)
length_total n [] none = sym (total_zero n (λ k. 0) (λ _ _. refl))
length_total n (c ∷ cs) none =
    let one : total n (λ k. cond (eqb k c) 1 0) ≡ 1 = total_one n c 1 (count_inside n c cs none) in
    let rest : length cs ≡ total n (λ k. count_by (eqb k) cs) = length_total n cs (count_rest n c cs none) in
    let add : total n (λ k. cond (eqb k c) 1 0 + count_by (eqb k) cs) ≡ total n (λ k. cond (eqb k c) 1 0) + total n (λ k. count_by (eqb k) cs) =
    total_add n (λ k. cond (eqb k c) 1 0) (λ k. count_by (eqb k) cs) in
    let same : total n (λ k. count_by (eqb k) (c ∷ cs)) ≡ total n (λ k. cond (eqb k c) 1 0 + count_by (eqb k) cs) =
    total_same n (λ k. count_by (eqb k) (c ∷ cs)) (λ k. cond (eqb k c) 1 0 + count_by (eqb k) cs) (λ k _. count_cons k c cs) in
    omega arith

-- distinct places of orders that pass a test are at most as many as these orders
pub few_places : (p : Order → Bool) (orders : List Order) (none : Order) (ks : List ℕ) → ((k : ℕ) → length orders ≤ k → count_by (eqb k) ks ≡ 0)
    → ((k : ℕ) → k < length orders → count_by (eqb k) ks ≤ cond (p (get_or orders k none)) 1 0) → length ks ≤ count_by p orders
few_places p orders none ks inside each =
    let long : length ks ≡ total (length orders) (λ k. count_by (eqb k) ks) = length_total (length orders) ks inside in
    let le : total (length orders) (λ k. count_by (eqb k) ks) ≤ total (length orders) (λ k. cond (p (get_or orders k none)) 1 0) =
    total_le (length orders) (λ k. count_by (eqb k) ks) (λ k. cond (p (get_or orders k none)) 1 0) each in
    omega (arith, total_count_by p orders none)

-- all shares, place by place
pub share_total : (n : ℕ) (cs shares : List ℕ) → ((k : ℕ) → n ≤ k → count_by (eqb k) cs ≡ 0) → length shares ≡ length cs
    → total n (λ k. share_at k cs shares) ≡ sum shares
unfolding share_at
share_total n [] [] none long = total_zero n (λ k. 0) (λ _ _. refl)
share_total n [] (x ∷ xs) none long = absurd (omega arith)
share_total n (c ∷ cs) [] none long = absurd (omega arith)
share_total n (c ∷ cs) (x ∷ xs) none long =
    let one : total n (λ k. cond (eqb k c) x 0) ≡ x = total_one n c x (count_inside n c cs none) in
    let rest : total n (λ k. share_at k cs xs) ≡ sum xs = share_total n cs xs (count_rest n c cs none) (omega arith) in
    let add : total n (λ k. cond (eqb c k) x 0 + share_at k cs xs) ≡ total n (λ k. cond (eqb c k) x 0) + total n (λ k. share_at k cs xs) =
    total_add n (λ k. cond (eqb c k) x 0) (λ k. share_at k cs xs) in
    let same : total n (λ k. cond (eqb c k) x 0) ≡ total n (λ k. cond (eqb k c) x 0) =
    total_same n (λ k. cond (eqb c k) x 0) (λ k. cond (eqb k c) x 0) (λ k _. grind (arith, nat_tests)) in
    omega (arith, sum_by-cons (λ (y : ℕ). y) x xs)

-- a place's shares, if each share is within the sum of its place
pub share_within : (v : ℕ → ℕ) (k : ℕ) (cs shares : List ℕ) → length shares ≡ length (map v cs)
    → ((i : ℕ) → i < length (map v cs) → get_or shares i 0 ≤ get_or (map v cs) i 0) → share_at k cs shares ≤ count_by (eqb k) cs * v k
unfolding share_at
share_within v k [] shares long within = omega arith
share_within v k (c ∷ cs) [] long within = omega arith
share_within v k (c ∷ cs) (x ∷ xs) long within =
    let head : x ≤ v c = within 0 (omega arith) in
    let rest : share_at k cs xs ≤ count_by (eqb k) cs * v k = share_within v k cs xs (omega arith) (λ i below. within (suc i) (omega arith)) in
    elim (cases_eq k c) [
      | inl e ↦
          let share : cond (eqb c k) x 0 ≡ x = grind (arith, nat_tests) in
          let once : cond {A = ℕ} (eqb k c) 1 0 ≡ 1 = grind (arith, nat_tests) in
          let count : count_by (eqb k) (c ∷ cs) ≡ 1 + count_by (eqb k) cs = count_cons k c cs ∙ ap (λ (y : ℕ). y + count_by (eqb k) cs) once in
          let value : v k ≡ v c = ap v e in
          rw (count, share) (omega arith)
      | inr ne ↦
          let share : cond (eqb c k) x 0 ≡ 0 = grind (arith, nat_tests) in
          let never : cond {A = ℕ} (eqb k c) 1 0 ≡ 0 = grind (arith, nat_tests) in
          let count : count_by (eqb k) (c ∷ cs) ≡ 0 + count_by (eqb k) cs = count_cons k c cs ∙ ap (λ (y : ℕ). y + count_by (eqb k) cs) never in
          rw (count, share) (omega arith)
    ]
