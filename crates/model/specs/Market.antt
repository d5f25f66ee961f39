-- What rests in a day, and what of it an order that enters may meet.
use Rattle.std.specs.Prelude.{ℕ, ◌+◌, min, max, Bool, true, false, cond, ◌&&◌, List, [], ◌∷◌, map, sum_by, filter, nat_eq, slice_index_or}
use Rattle.orders.specs.Admissible.{admissible_to, row_rate}
use Rattle.orders.specs.declared.kinds.Direction.{Direction}
use Rattle.orders.specs.declared.kinds.Direction.TheVariants.{Deposit, Repo}
use Rattle.orders.specs.declared.kinds.Kind.TheVariants.{Limit}
use Rattle.orders.specs.declared.kinds.Order.{Order}
use Rattle.orders.specs.declared.kinds.Remainder.TheVariants.{Queue}
use Rattle.orders.specs.declared.kinds.Row.{Row}
use Rattle.orders.specs.declared.kinds.State.{State}
use Rattle.orders.specs.declared.kinds.State.TheVariants.{Done, Waiting, Active}
use Rattle.orders.specs.declared.kinds.Terms.{Terms}
use Rattle.orders.specs.declared.settings.Settings.{Settings}

-- the orders, number k + 1 at place k; the queue of their places; the rows that one entry made
pub record Market : Type 0 where
  pub orders : List Order
  pub queue : List ℕ
  pub rows : List Row

-- no order: done, with nothing asked
abbrev pub none : Order
none = record {
  number = 0;
  owner = 0;
  terms = record { direction = Deposit; kind = Limit; remainder = Queue; securities = 0; code = record { m = 0; term = 0 }; rate = record { hundredths = 0 }; sum = 0; percent = 0; return_mark = false; activation = 0 };
  state = Done;
  visible = 0;
  hidden = 0;
  withdrawn = 0;
}

-- the order at place k
abbrev pub order_at : List Order → ℕ → Order
order_at orders k = slice_index_or orders k none

-- an active order
abbrev pub is_active : State → Bool
is_active Done = false
is_active Waiting = false
is_active Active = true

-- an active order that is admissible to the entering one
abbrev pub meets : Terms → Order → Bool
meets e o = is_active o.state && admissible_to e o.terms

-- the visible and hidden lots of an order
abbrev pub lots_of : Order → ℕ
lots_of o = o.visible + o.hidden

-- the lots that an order offers to the entering one
abbrev pub offered : Terms → Order → ℕ
offered e o = cond (meets e o) (lots_of o) 0

-- the lots admissible to the entering order
unfoldable pub admissible_lots : Terms → List Order → ℕ
admissible_lots e orders = sum_by (offered e) orders

-- the places of the orders that the entering one may meet, in queue order
unfoldable pub offers : Terms → Market → List ℕ
offers e m = filter (λ k. meets e (order_at m.orders k)) m.queue

-- the rate at which a resting order concludes
abbrev pub resting_rate : Settings → Order → ℕ
resting_rate s o = (row_rate s o.terms).hundredths

-- the better of two rates for an order that enters: the higher for a deposit, the lower for a repo order
abbrev pub better : Direction → ℕ → ℕ → ℕ
better Deposit a b = max a b
better Repo a b = min a b

-- the best of some rates
unfoldable pub best : Direction → List ℕ → ℕ
best d [] = 0
best d (r ∷ []) = r
best d (r ∷ q ∷ rs) = better d r (best d (q ∷ rs))

-- the rates at some places
abbrev pub rates_at : Settings → List Order → List ℕ → List ℕ
rates_at s orders ks = map (λ k. resting_rate s (order_at orders k)) ks

-- the places of the best rate, in queue order
unfoldable pub front : Settings → Terms → Market → List ℕ
front s e m =
    filter (λ k. nat_eq (resting_rate s (order_at m.orders k)) (best e.direction (rates_at s m.orders (offers e m)))) (offers e m)

-- the visible sums at some places
abbrev pub visible_at : List Order → List ℕ → List ℕ
visible_at orders ks = map (λ k. (order_at orders k).visible) ks
