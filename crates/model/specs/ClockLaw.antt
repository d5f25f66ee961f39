-- The law of clock.
use Rattle.std.specs.Prelude.{◌≡◌, ℕ, suc, ◌+◌, ◌-◌, ◌<◌, ◌≤◌, Bool, true, false, ◌⊎◌, List, [], ◌∷◌, length, count_by, nat_eq, slice_index}
use Rattle.orders.specs.declared.kinds.Order.{Order}
use Rattle.orders.specs.declared.kinds.Remainder.TheVariants.{FillOrReject}
use Rattle.orders.specs.declared.kinds.State.TheVariants.{Waiting}
use Rattle.model.specs.Choices.{TooLittle, taken, concluded_with}
use Rattle.model.specs.Clock.{clock_table, at_time}
use Rattle.model.specs.Days.{World, Outcome, written}
use Rattle.model.specs.Entry.{Enters}
use Rattle.model.specs.Judging.{Judged}
use Rattle.model.specs.Ledger.{value}
use Rattle.model.specs.Market.{Market, order_at, lots_of}
use Rattle.model.specs.Place.{market_of}
use Rattle.model.specs.WithdrawLaw.{OnlyEnded, Releases}

-- a waiting order whose activation is at most a time
abbrev pub Due : ℕ → Order → Type 0
Due time o = (o.state ≡ Waiting) × (o.terms.activation ≤ time)

-- one order is activated before another: earlier, or at the same time with a lower number
abbrev pub Sooner : List Order → ℕ → ℕ → Type 0
Sooner orders j k =
    ((order_at orders j).terms.activation < (order_at orders k).terms.activation)
    ⊎ (((order_at orders j).terms.activation ≡ (order_at orders k).terms.activation) × (j < k))

-- ks are exactly the places of the due orders, by activation and then by number
pub record DueList (time : ℕ) (orders : List Order) (ks : List ℕ) : Type 0 where
  pub due : (i : ℕ) → i < length ks → (slice_index ks i < length orders) × Due time (order_at orders (slice_index ks i))
  pub all : (k : ℕ) → k < length orders → Due time (order_at orders k) → count_by (nat_eq k) ks ≡ 1
  pub sorted : (i j : ℕ) → i < j → j < length ks → Sooner orders (slice_index ks i) (slice_index ks j)

-- the order at place k failed its volume test: no choice makes up its sum, and it ends with all its lots released
pub record FailsAt (k : ℕ) (w after : World) : Type 0 where
  pub mark : (order_at w.day.orders k).terms.remainder ≡ FillOrReject
  pub little : TooLittle (order_at w.day.orders k).terms w.day.orders
  pub orders : OnlyEnded k w.day.orders after.day.orders
  pub queue : after.day.queue ≡ w.day.queue
  pub used : after.day.used ≡ w.day.used
  pub register : after.register ≡ w.register
  pub cover : Releases (order_at w.day.orders k).owner (lots_of (order_at w.day.orders k)) w.cover after.cover

-- the order at place k failed no volume test: it enters the market that it finds and ends, its remainder released
pub record EntersAt (k lots : ℕ) (w after : World) : Type 0 where
  pub enough : (order_at w.day.orders k).terms.remainder ≡ FillOrReject → TooLittle (order_at w.day.orders k).terms w.day.orders → ⊥
  pub market : Market
  pub enters : Enters (order_at w.day.orders k).terms (suc k) (market_of w.day) market
  pub conclusion : lots ≡ taken w.day.orders (concluded_with (order_at w.day.orders k).terms.direction (suc k) market.rows)
  pub orders : OnlyEnded k market.orders after.day.orders
  pub queue : after.day.queue ≡ market.queue
  pub used : after.day.used ≡ w.day.used + length market.rows
  pub fits : after.day.used ≤ length w.register
  pub register : after.register ≡ written w.register w.day.used market.rows
  pub cover : Releases (order_at w.day.orders k).owner ((order_at w.day.orders k).terms.sum - lots) w.cover after.cover

-- an activation: whether its volume test failed, and what it concluded and left
pub record Activation (k : ℕ) (failed : Bool) (lots : ℕ) (w after : World) : Type 0 where
  pub settings : after.day.settings ≡ w.day.settings
  pub clock : after.day.clock ≡ w.day.clock
  pub fails : failed ≡ true → FailsAt k w after × (lots ≡ 0)
  pub enters : failed ≡ false → EntersAt k lots w after

-- activations one after another, each in the day that the earlier ones left
abbrev pub Activations : List ℕ → ℕ → World → World → Type 0
Activations [] lots w after = (lots ≡ 0) × (after ≡ w)
Activations (k ∷ ks) lots w after =
    (failed : Bool) × (first : ℕ) × (more : ℕ) × (mid : World) × Activation k failed first w mid × Activations ks more mid after × (lots ≡ first + more)

-- what an accepted clock call does
pub record Clocked (time : ℕ) (w : World) (o : Outcome) : Type 0 where
  pub places : List ℕ
  pub due : DueList time w.day.orders places
  pub count : value 0 o.answer ≡ length places
  pub activations : Activations places (value 1 o.answer) (at_time time w) o.world

-- the law of clock
abbrev pub ClockLaw : ℕ → World → Outcome → Type 0
ClockLaw time w o = Judged (clock_table w time) w o (Clocked time w o)
