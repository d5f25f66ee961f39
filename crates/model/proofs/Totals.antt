-- Sums over places, and what is admissible to an order that enters.
use Rattle.std.proofs.Common.{◌≡◌, ℕ, zero, suc, ◌+◌, ◌-◌, ◌*◌, ◌<◌, ◌≤◌, min, Bool, true, false, cond, eqb, ◌⊎◌, List, [], ◌∷◌, length, get_or, Decides, sum_by, count_by, sym, refl, ap, ◌∙◌, ap₂, inl, inr, mul-add, arith}
use Rattle.std.specs.List.{AllByRecursion}
use Rattle.std.proofs.lemmas.List.Sums.{sum_by-cons}
use Rattle.std.proofs.lemmas.Bool.{cases_lt, cases_Bool, cond-true, cond-false, false≢true}
use Rattle.std.proofs.lemmas.Bool.Decides.{nat_tests, not_from_Decides, Decides-and}
use Rattle.orders.specs.Admissible.{admissible, admissible_to}
use Rattle.orders.specs.Theorems.{MayMeet}
use Rattle.orders.specs.declared.kinds.Direction.{Direction}
use Rattle.orders.specs.declared.kinds.Direction.TheVariants.{Deposit, Repo}
use Rattle.orders.specs.declared.kinds.Order.{Order}
use Rattle.orders.specs.declared.kinds.State.{State}
use Rattle.orders.specs.declared.kinds.State.TheVariants.{Done, Waiting, Active}
use Rattle.orders.specs.declared.kinds.Terms.{Terms}
use Rattle.orders.proofs.Facts.{admissible_facts}
use Rattle.model.specs.Choices.{Admissible, Choice, Everything, TooLittle, total, taken}
use Rattle.model.specs.Market.{none, order_at, is_active, meets, lots_of, offered, admissible_lots}

-- sums of the same parts
pub total_same : (n : ℕ) (f g : ℕ → ℕ) → ((k : ℕ) → k < n → f k ≡ g k) → total n f ≡ total n g
total_same zero f g h = refl
total_same (suc n) f g h = ap₂ ◌+◌ (total_same n f g (λ k l. h k (omega arith))) (h n (omega arith))

-- sums of parts that are no more
pub total_le : (n : ℕ) (f g : ℕ → ℕ) → ((k : ℕ) → k < n → f k ≤ g k) → total n f ≤ total n g
total_le zero f g h = omega arith
total_le (suc n) f g h = let rest : total n f ≤ total n g = total_le n f g (λ k l. h k (omega arith)) in omega (arith, h n (omega arith))

-- a sum of sums, of nothing, and of multiples
pub total_add : (n : ℕ) (f g : ℕ → ℕ) → total n (λ k. f k + g k) ≡ total n f + total n g
total_add zero f g = refl
total_add (suc n) f g = let rest : total n (λ k. f k + g k) ≡ total n f + total n g = total_add n f g in omega arith

pub total_zero : (n : ℕ) (f : ℕ → ℕ) → ((k : ℕ) → k < n → f k ≡ 0) → total n f ≡ 0
total_zero zero f h = refl
total_zero (suc n) f h = let rest : total n f ≡ 0 = total_zero n f (λ k l. h k (omega arith)) in omega (arith, h n (omega arith))

pub total_mul : (n : ℕ) (x : ℕ) (f : ℕ → ℕ) → total n (λ k. x * f k) ≡ x * total n f
total_mul zero x f = omega arith
total_mul (suc n) x f = let rest : total n (λ k. x * f k) ≡ x * total n f = total_mul n x f in omega (arith, mul-add x (total n f) (f n))

-- a change at one place
pub total_put : (n : ℕ) (f g : ℕ → ℕ) (k : ℕ) → k < n → ((j : ℕ) → j < n → (j ≡ k → ⊥) → g j ≡ f j) → total n g + f k ≡ total n f + g k
total_put zero f g k l h = omega arith
total_put (suc n) f g k l h =
    elim (cases_lt k n) [
      | inl below ↦
          let rest : total n g + f k ≡ total n f + g k = total_put n f g k below (λ j m. h j (omega arith)) in
          omega (arith, h n (omega arith) (λ e. omega arith))
      | inr above ↦
          let same : total n g ≡ total n f = total_same n g f (λ j m. h j (omega arith) (λ e. omega arith)) in
          let is : k ≡ n = omega arith in
          omega (arith, ap f is, ap g is)
    ]

-- the only part that is not 0
pub total_one : (n : ℕ) (k x : ℕ) → k < n → total n (λ j. cond (eqb j k) x 0) ≡ x
total_one n k x l =
    let none : total n (λ j. 0) ≡ 0 = total_zero n (λ j. 0) (λ j m. refl) in
    let put : total n (λ j. cond (eqb j k) x 0) + 0 ≡ total n (λ j. 0) + cond (eqb k k) x 0 =
    total_put n (λ j. 0) (λ j. cond (eqb j k) x 0) k l (λ j m ne. grind (arith, nat_tests)) in
    let here : cond (eqb k k) x 0 ≡ x = grind (arith, nat_tests) in
    omega arith

-- no part exceeds the sum
pub part_le_total : (n : ℕ) (f : ℕ → ℕ) (k : ℕ) → k < n → f k ≤ total n f
part_le_total zero f k l = omega arith
part_le_total (suc n) f k l =
    elim (cases_lt k n) [
      | inl below ↦ omega (arith, part_le_total n f k below)
      | inr above ↦ let is : k ≡ n = omega arith in omega (arith, ap f is)
    ]

-- parts that are no more, with the same sum, are the same
pub total_tight : (n : ℕ) (f g : ℕ → ℕ) → ((k : ℕ) → k < n → f k ≤ g k) → total n f ≡ total n g → (k : ℕ) → k < n → f k ≡ g k
total_tight zero f g h e k l = omega arith
total_tight (suc n) f g h e k l =
    let rest : total n f ≤ total n g = total_le n f g (λ j m. h j (omega arith)) in
    elim (cases_lt k n) [
      | inl below ↦ total_tight n f g (λ j m. h j (omega arith)) (omega (arith, h n (omega arith))) k below
      | inr above ↦ let is : k ≡ n = omega arith in omega (arith, h n (omega arith), ap f is, ap g is)
    ]

-- the first part apart
pub total_first : (n : ℕ) (f : ℕ → ℕ) → total (suc n) f ≡ f 0 + total n (λ k. f (suc k))
total_first zero f = omega arith
total_first (suc n) f = let rest : total (suc n) f ≡ f 0 + total n (λ k. f (suc k)) = total_first n f in omega arith

-- a list's sum, place by place
pub total_sum_by : {X : Type 0} (f : X → ℕ) (xs : List X) (d : X) → total (length xs) (λ k. f (get_or xs k d)) ≡ sum_by f xs
total_sum_by f [] d = refl
total_sum_by f (x ∷ xs) d =
    total_first (length xs) (λ k. f (get_or (x ∷ xs) k d)) ∙ ap (λ (s : ℕ). f x + s) (total_sum_by f xs d) ∙ sym (sum_by-cons f x xs)

pub total_count_by : {X : Type 0} (p : X → Bool) (xs : List X) (d : X) → total (length xs) (λ k. cond (p (get_or xs k d)) 1 0) ≡ count_by p xs
total_count_by p xs d = total_sum_by (λ x. cond (p x) 1 0) xs d

-- equal parts of a list's sum
pub sum_by_same : {X : Type 0} (f g : X → ℕ) (xs : List X) → AllByRecursion (λ x. f x ≡ g x) xs → sum_by f xs ≡ sum_by g xs
sum_by_same f g [] h = refl
sum_by_same f g (x ∷ xs) h = sum_by-cons f x xs ∙ ap₂ ◌+◌ h.0 (sum_by_same f g xs h.1) ∙ sym (sum_by-cons g x xs)

pub sum_by_zero : {X : Type 0} (f : X → ℕ) (xs : List X) → AllByRecursion (λ x. f x ≡ 0) xs → sum_by f xs ≡ 0
sum_by_zero f [] h = refl
sum_by_zero f (x ∷ xs) h = sum_by-cons f x xs ∙ ap₂ ◌+◌ h.0 (sum_by_zero f xs h.1)

-- a sum over places of sums over a list, in the other order
pub total_swap : {X : Type 0} (n : ℕ) (f : ℕ → X → ℕ) (xs : List X) → total n (λ k. sum_by (f k) xs) ≡ sum_by (λ x. total n (λ k. f k x)) xs
total_swap n f [] = total_zero n (λ k. 0) (λ k l. refl)
total_swap n f (x ∷ xs) =
    total_same n _ _ (λ k l. sum_by-cons (f k) x xs)
    ∙ total_add n (λ k. f k x) (λ k. sum_by (f k) xs)
    ∙ ap (λ (s : ℕ). total n (λ k. f k x) + s) (total_swap n f xs)
    ∙ sym (sum_by-cons (λ y. total n (λ k. f k y)) x xs)

pub decides_active : (s : State) → Decides (is_active s) (s ≡ Active)
decides_active Done = (λ e. cc, λ e. cc)
decides_active Waiting = (λ e. cc, λ e. cc)
decides_active Active = (λ e. refl, λ e. refl)

-- the test of two orders, by their directions
decides_directions : (d c : Direction) (x y : Bool) (P Q : Type 0) → Decides x P → Decides y Q
    → Decides (elim d [ Deposit ↦ elim c [ Deposit ↦ false | Repo ↦ x ] | Repo ↦ elim c [ Deposit ↦ y | Repo ↦ false ] ])
    (((d ≡ Deposit) × (c ≡ Repo) × P) ⊎ ((d ≡ Repo) × (c ≡ Deposit) × Q))
decides_directions Deposit Deposit x y P Q p q = (λ e. elim (false≢true e) [ ], λ s. elim s [ inl a ↦ let is = a.1 in cc | inr b ↦ let is = b.0 in cc ])
decides_directions Deposit Repo x y P Q p q = (λ e. inl (refl, refl, p.0 e), λ s. elim s [ inl a ↦ p.1 a.2 | inr b ↦ let is = b.0 in cc ])
decides_directions Repo Deposit x y P Q p q = (λ e. inr (refl, refl, q.0 e), λ s. elim s [ inl a ↦ let is = a.0 in cc | inr b ↦ q.1 b.2 ])
decides_directions Repo Repo x y P Q p q = (λ e. elim (false≢true e) [ ], λ s. elim s [ inl a ↦ let is = a.0 in cc | inr b ↦ let is = b.1 in cc ])

-- the test of an order is exactly admissibility
pub decides_meets : (e : Terms) (o : Order) → Decides (meets e o) (Admissible e o)
decides_meets e o =
    Decides-and (is_active o.state) (admissible_to e o.terms) (decides_active o.state)
    (decides_directions e.direction o.terms.direction (admissible e o.terms) (admissible o.terms e)
    (MayMeet e o.terms) (MayMeet o.terms e) (admissible_facts e o.terms) (admissible_facts o.terms e))

pub meets_admissible : (e : Terms) (o : Order) → meets e o ≡ true → Admissible e o
meets_admissible e o = (decides_meets e o).0

pub admissible_meets : (e : Terms) (o : Order) → Admissible e o → meets e o ≡ true
admissible_meets e o = (decides_meets e o).1

-- an order is admissible or not, as the test says
pub admissible_tells : (e : Terms) (o : Order) → ((meets e o ≡ true) × Admissible e o) ⊎ ((meets e o ≡ false) × (Admissible e o → ⊥))
admissible_tells e o =
    elim (cases_Bool (meets e o)) [
      | inl t ↦ inl (t, meets_admissible e o t)
      | inr f ↦ inr (f, not_from_Decides (meets e o) (decides_meets e o) f)
    ]

-- an admissible order offers all its lots, any other none
pub offered_all : (e : Terms) (o : Order) → Admissible e o → offered e o ≡ lots_of o
offered_all e o met = cond-true (meets e o) (lots_of o) 0 (admissible_meets e o met)

pub offered_none : (e : Terms) (o : Order) → (Admissible e o → ⊥) → offered e o ≡ 0
offered_none e o not =
    elim (admissible_tells e o) [
      | inl met ↦ elim (not met.1) [ ]
      | inr other ↦ cond-false (meets e o) (lots_of o) 0 other.0
    ]

-- what all orders offer, place by place
pub admissible_total : (e : Terms) (orders : List Order) → admissible_lots e orders ≡ total (length orders) (λ k. offered e (order_at orders k))
unfolding admissible_lots
admissible_total e orders = sym (total_sum_by (offered e) orders none)

-- what all orders offer is everything, and nothing else is
pub everything : (e : Terms) (orders : List Order) → Everything e orders (λ k. offered e (order_at orders k))
everything e orders = record {
  all = λ k l met. offered_all e (order_at orders k) met;
  others = λ k l not. offered_none e (order_at orders k) not;
}

pub everything_unique : (e : Terms) (orders : List Order) (f : ℕ → ℕ) → Everything e orders f → (k : ℕ) → k < length orders → f k ≡ offered e (order_at orders k)
everything_unique e orders f every k l =
    elim (admissible_tells e (order_at orders k)) [
      | inl met ↦ every.all k l met.1 ∙ sym (offered_all e (order_at orders k) met.1)
      | inr other ↦ every.others k l other.1 ∙ sym (offered_none e (order_at orders k) other.1)
    ]

pub everything_taken : (e : Terms) (orders : List Order) (f : ℕ → ℕ) → Everything e orders f → taken orders f ≡ admissible_lots e orders
everything_taken e orders f every =
    total_same (length orders) _ _ (everything_unique e orders f every) ∙ sym (admissible_total e orders)

-- a choice takes at most what each order offers
pub choice_within : (e : Terms) (orders : List Order) (f : ℕ → ℕ) → Choice e orders f → (k : ℕ) → k < length orders → f k ≤ offered e (order_at orders k)
choice_within e orders f choice k l =
    elim (admissible_tells e (order_at orders k)) [
      | inl met ↦ omega (arith, choice.within k l met.1, offered_all e (order_at orders k) met.1)
      | inr other ↦ omega (arith, choice.others k l other.1)
    ]

-- and what takes at most that is a choice
pub choice_from : (e : Terms) (orders : List Order) (f : ℕ → ℕ) → ((k : ℕ) → k < length orders → f k ≤ offered e (order_at orders k)) → Choice e orders f
choice_from e orders f h = record {
  within = λ k l met. omega (arith, h k l, offered_all e (order_at orders k) met);
  others = λ k l not. omega (arith, h k l, offered_none e (order_at orders k) not);
}

-- so it takes at most all that is admissible
pub choice_le : (e : Terms) (orders : List Order) (f : ℕ → ℕ) → Choice e orders f → taken orders f ≤ admissible_lots e orders
choice_le e orders f choice =
    omega (arith, admissible_total e orders, total_le (length orders) _ _ (choice_within e orders f choice))

-- q lots taken from the first places on
abbrev greedy : (ℕ → ℕ) → ℕ → ℕ → ℕ
greedy f q k = min (f k) (q - total k f)

total_greedy : (n : ℕ) (f : ℕ → ℕ) (q : ℕ) → total n (greedy f q) ≡ min q (total n f)
total_greedy zero f q = omega arith
total_greedy (suc n) f q = let rest : total n (greedy f q) ≡ min q (total n f) = total_greedy n f q in omega arith

-- no choice makes up the sum exactly if fewer lots are admissible
pub too_little_from : (e : Terms) (orders : List Order) → admissible_lots e orders < e.sum → TooLittle e orders
too_little_from e orders less f choice is = omega (arith, choice_le e orders f choice)

pub too_little_to : (e : Terms) (orders : List Order) → TooLittle e orders → admissible_lots e orders < e.sum
too_little_to e orders never =
    elim (cases_lt (admissible_lots e orders) e.sum) [
      | inl less ↦ less
      | inr enough ↦
          let part : ℕ → ℕ = greedy (λ k. offered e (order_at orders k)) e.sum in
          let is : taken orders part ≡ e.sum =
          omega (arith, admissible_total e orders, total_greedy (length orders) (λ k. offered e (order_at orders k)) e.sum) in
          elim (never part (choice_from e orders part (λ k l. omega arith)) is) [ ]
    ]
