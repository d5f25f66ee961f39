-- A choice that takes the better rates first has the best worth of all choices of as many lots.
use Rattle.std.proofs.Common.{◌≡◌, ℕ, ◌+◌, ◌-◌, ◌*◌, ◌<◌, ◌≤◌, ◌⊎◌, List, length, sym, ap, ◌∙◌, inl, inr, arith}
use Rattle.std.proofs.lemmas.Bool.{cases_lt, cases_order}
use Rattle.orders.specs.declared.kinds.Direction.{Direction}
use Rattle.orders.specs.declared.kinds.Direction.TheVariants.{Deposit, Repo}
use Rattle.orders.specs.declared.kinds.Order.{Order}
use Rattle.orders.specs.declared.kinds.Terms.{Terms}
use Rattle.model.specs.Choices.{Admissible, Choice, NoBetter, total, taken, worth}
use Rattle.model.specs.Market.{order_at, lots_of, offered, admissible_lots}
use Rattle.model.proofs.Totals.{total_same, total_le, total_add, total_mul, total_tight, part_le_total, admissible_tells, admissible_total, choice_within}

-- the rate of the order at place k
abbrev pub rate_at : List Order → ℕ → ℕ
rate_at orders k = (order_at orders k).terms.rate.hundredths

-- a first rate is better than a second for an order that enters: higher for a deposit, lower for a repo order
abbrev pub Beats : Direction → ℕ → ℕ → Type 0
Beats Deposit a b = b < a
Beats Repo a b = a < b

-- each admissible order at a rate better than ρ is taken whole, each at a worse rate not at all
pub record Threshold (d : Direction) (e : Terms) (orders : List Order) (f : ℕ → ℕ) (ρ : ℕ) : Type 0 where
  pub better : (k : ℕ) → k < length orders → Admissible e (order_at orders k) → Beats d (rate_at orders k) ρ → f k ≡ lots_of (order_at orders k)
  pub worse : (k : ℕ) → k < length orders → Admissible e (order_at orders k) → Beats d ρ (rate_at orders k) → f k ≡ 0

-- products of numbers paired like with like are no less than crosswise
crossed : (a b c d : ℕ) → a ≤ b → c ≤ d → a * d + b * c ≤ a * c + b * d
crossed a b c d h l =
    let x : ℕ = b - a in
    let y : ℕ = d - c in
    let b_is : b ≡ a + x = omega arith in
    let d_is : d ≡ c + y = omega arith in
    rw (b_is, d_is) (omega arith)

-- at a rate r against ρ, f has at least as many lots as g where r is higher and at most as many where it is lower
abbrev Leans : ℕ → ℕ → ℕ → ℕ → Type 0
Leans r ρ f g = ((ρ ≤ r) × (g ≤ f)) ⊎ ((r ≤ ρ) × (f ≤ g))

leans_term : (r ρ f g : ℕ) → Leans r ρ f g → r * g + ρ * f ≤ r * f + ρ * g
leans_term r ρ f g (inl high) = omega (arith, crossed ρ r g f high.0 high.1)
leans_term r ρ f g (inr low) = omega (arith, crossed r ρ f g low.0 low.1)

-- of equal sums of lots, those that lean to the higher rates have the higher worth
leans_total : (n : ℕ) (rate f g : ℕ → ℕ) (ρ : ℕ) → ((k : ℕ) → k < n → Leans (rate k) ρ (f k) (g k)) → total n g ≡ total n f
    → total n (λ k. rate k * g k) ≤ total n (λ k. rate k * f k)
leans_total n rate f g ρ leans same =
    let factor : ρ * total n g ≡ ρ * total n f = ap (λ (x : ℕ). ρ * x) same in
    omega (
      arith,
      factor,
      total_mul n ρ f,
      total_mul n ρ g,
      total_add n (λ k. rate k * g k) (λ k. ρ * f k),
      total_add n (λ k. rate k * f k) (λ k. ρ * g k),
      total_le n (λ k. rate k * g k + ρ * f k) (λ k. rate k * f k + ρ * g k) (λ k l. leans_term (rate k) ρ (f k) (g k) (leans k l)),
    )

-- what is at a better rate is taken at least as much as by any choice
takes_better : (d : Direction) (e : Terms) (orders : List Order) (f g : ℕ → ℕ) (ρ : ℕ) → Threshold d e orders f ρ → Choice e orders g
    → (k : ℕ) → k < length orders → Beats d (rate_at orders k) ρ → g k ≤ f k
takes_better d e orders f g ρ threshold other k l beats =
    elim (admissible_tells e (order_at orders k)) [
      | inl met ↦ omega (arith, other.within k l met.1, threshold.better k l met.1 beats)
      | inr not ↦ omega (arith, other.others k l not.1)
    ]

-- what is at a worse rate is not taken
leaves_worse : (d : Direction) (e : Terms) (orders : List Order) (f : ℕ → ℕ) (ρ : ℕ) → Choice e orders f → Threshold d e orders f ρ
    → (k : ℕ) → k < length orders → Beats d ρ (rate_at orders k) → f k ≡ 0
leaves_worse d e orders f ρ choice threshold k l beats =
    elim (admissible_tells e (order_at orders k)) [
      | inl met ↦ threshold.worse k l met.1 beats
      | inr not ↦ choice.others k l not.1
    ]

-- at the rate itself either way will do
leans_level : (r ρ f g : ℕ) → r ≡ ρ → Leans r ρ f g
leans_level r ρ f g is = elim (cases_lt f g) [ inl less ↦ inr (omega arith, omega arith) | inr more ↦ inl (omega arith, more) ]

-- no choice of as many lots is better than one with a threshold; d is the direction of the entering order
pub exchange : (d : Direction) (e : Terms) (orders : List Order) (f : ℕ → ℕ) (ρ : ℕ) → Choice e orders f → Threshold d e orders f ρ
    → (g : ℕ → ℕ) → Choice e orders g → taken orders g ≡ taken orders f → NoBetter d (worth orders g) (worth orders f)
exchange Deposit e orders f ρ choice threshold g other same =
    leans_total (length orders) (rate_at orders) f g ρ
    (λ k l. elim (cases_order (rate_at orders k) ρ) [
      | inl level ↦ leans_level (rate_at orders k) ρ (f k) (g k) level
      | inr (inl low) ↦ inr (omega arith, omega (arith, leaves_worse Deposit e orders f ρ choice threshold k l low))
      | inr (inr high) ↦ inl (omega arith, takes_better Deposit e orders f g ρ threshold other k l high)
    ]) same
exchange Repo e orders f ρ choice threshold g other same =
    leans_total (length orders) (rate_at orders) g f ρ
    (λ k l. elim (cases_order (rate_at orders k) ρ) [
      | inl level ↦ leans_level (rate_at orders k) ρ (g k) (f k) level
      | inr (inl low) ↦ inr (omega arith, takes_better Repo e orders f g ρ threshold other k l low)
      | inr (inr high) ↦ inl (omega arith, omega (arith, leaves_worse Repo e orders f ρ choice threshold k l high))
    ]) (sym same)

-- the same lots have the same worth
pub no_better_same : (d : Direction) (orders : List Order) (f g : ℕ → ℕ) → ((k : ℕ) → k < length orders → g k ≡ f k) → NoBetter d (worth orders g) (worth orders f)
no_better_same d orders f g same =
    level d (worth orders g) (worth orders f)
    (total_same (length orders) _ _ (λ k l. ap (λ (x : ℕ). rate_at orders k * x) (same k l)))
  where
    level : (c : Direction) (a b : ℕ) → a ≡ b → NoBetter c a b
    level Deposit a b is = omega arith
    level Repo a b is = omega arith

-- where all is taken, there is one choice of as many lots
pub exchange_all : (d : Direction) (e : Terms) (orders : List Order) (f : ℕ → ℕ) → Choice e orders f → taken orders f ≡ admissible_lots e orders
    → (g : ℕ → ℕ) → Choice e orders g → taken orders g ≡ taken orders f → NoBetter d (worth orders g) (worth orders f)
exchange_all d e orders f choice all g other same =
    no_better_same d orders f g (λ k l. whole g other (same ∙ all) k l ∙ sym (whole f choice all k l))
  where
    whole : (h : ℕ → ℕ) → Choice e orders h → taken orders h ≡ admissible_lots e orders → (k : ℕ) → k < length orders → h k ≡ offered e (order_at orders k)
    whole h is every = total_tight (length orders) _ _ (choice_within e orders h is) (every ∙ admissible_total e orders)

-- where nothing is taken, there is one too
pub exchange_none : (d : Direction) (orders : List Order) (f : ℕ → ℕ) → taken orders f ≡ 0
    → (g : ℕ → ℕ) → taken orders g ≡ taken orders f → NoBetter d (worth orders g) (worth orders f)
exchange_none d orders f none g same = no_better_same d orders f g (λ k l. empty g (same ∙ none) k l ∙ sym (empty f none k l))
  where
    empty : (h : ℕ → ℕ) → taken orders h ≡ 0 → (k : ℕ) → k < length orders → h k ≡ 0
    empty h nothing k l = omega (arith, part_le_total (length orders) h k l)
