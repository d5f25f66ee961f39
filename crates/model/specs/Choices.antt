-- What an order may conclude when it enters, in the market's own words.
use Rattle.std.specs.Prelude.{◌≡◌, ℕ, zero, suc, ◌+◌, ◌*◌, ◌<◌, ◌≤◌, min, Bool, cond, ◌&&◌, ◌⊎◌, List, length, sum_by, ◌==◌, ◌≢◌}
use Rattle.orders.specs.Theorems.{MayMeet}
use Rattle.orders.specs.declared.kinds.Direction.{Direction}
use Rattle.orders.specs.declared.kinds.Direction.TheVariants.{Deposit, Repo}
use Rattle.orders.specs.declared.kinds.Order.{Order}
use Rattle.orders.specs.declared.kinds.Row.{Row}
use Rattle.orders.specs.declared.kinds.State.TheVariants.{Active}
use Rattle.orders.specs.declared.kinds.Terms.{Terms}
use Rattle.model.specs.Market.{order_at, lots_of}

-- of two orders' terms, one is a deposit's, the other a repo order's, and they may meet
abbrev pub TermsMeet : Terms → Terms → Type 0
TermsMeet e t =
    ((e.direction ≡ Deposit) × (t.direction ≡ Repo) × MayMeet e t)
    ⊎ ((e.direction ≡ Repo) × (t.direction ≡ Deposit) × MayMeet t e)

-- an active order that is admissible to one with the terms e
abbrev pub Admissible : Terms → Order → Type 0
Admissible e o = (o.state ≡ Active) × TermsMeet e o.terms

-- f 0 + .. + f (n - 1)
abbrev pub total : ℕ → (ℕ → ℕ) → ℕ
total zero f = 0
total (suc n) f = total n f + f n

-- lots taken from each order that is admissible: 0 up to all its visible and hidden lots
pub record Choice (e : Terms) (orders : List Order) (f : ℕ → ℕ) : Type 0 where
  pub within : (k : ℕ) → k < length orders → Admissible e (order_at orders k) → f k ≤ lots_of (order_at orders k)
  pub others : (k : ℕ) → k < length orders → (Admissible e (order_at orders k) → ⊥) → f k ≡ 0

-- all lots of each order that is admissible
pub record Everything (e : Terms) (orders : List Order) (f : ℕ → ℕ) : Type 0 where
  pub all : (k : ℕ) → k < length orders → Admissible e (order_at orders k) → f k ≡ lots_of (order_at orders k)
  pub others : (k : ℕ) → k < length orders → (Admissible e (order_at orders k) → ⊥) → f k ≡ 0

-- how many lots a choice takes
abbrev pub taken : List Order → (ℕ → ℕ) → ℕ
taken orders f = total (length orders) f

-- its rate times lots, at the orders' own rates
abbrev pub worth : List Order → (ℕ → ℕ) → ℕ
worth orders f = total (length orders) (λ k. (order_at orders k).terms.rate.hundredths * f k)

-- a first worth is no better than a second: for a deposit at most it, for a repo order at least it
abbrev pub NoBetter : Direction → ℕ → ℕ → Type 0
NoBetter Deposit a b = a ≤ b
NoBetter Repo a b = b ≤ a

-- a row names the pair of order n, which entered in direction d, and the order at place k
abbrev pub is_pair : Direction → ℕ → ℕ → Row → Bool
is_pair Deposit n k r = r.deposit == n && r.repo == suc k
is_pair Repo n k r = r.deposit == suc k && r.repo == n

-- the lots that order n concluded with the order at place k, as the rows say
abbrev pub concluded_with : Direction → ℕ → List Row → ℕ → ℕ
concluded_with d n rows k = sum_by (λ r. cond (is_pair d n k r) r.lots 0) rows

-- what order n concluded by its rows: a choice, of the lesser of its sum and all that is admissible, and none of as many lots is better
pub record Concludes (e : Terms) (n : ℕ) (orders : List Order) (rows : List Row) : Type 0 where
  pub choice : Choice e orders (concluded_with e.direction n rows)
  pub lesser : (f : ℕ → ℕ) → Everything e orders f → taken orders (concluded_with e.direction n rows) ≡ min e.sum (taken orders f)
  pub best : (f : ℕ → ℕ) → Choice e orders f → taken orders f ≡ taken orders (concluded_with e.direction n rows) → NoBetter e.direction (worth orders f) (worth orders (concluded_with e.direction n rows))

-- no choice makes up the order's sum
abbrev pub TooLittle : Terms → List Order → Type 0
TooLittle e orders = (f : ℕ → ℕ) → Choice e orders f → taken orders f ≢ e.sum
