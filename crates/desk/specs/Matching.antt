-- What the steps of a round compute, and what they ask for.
use Rattle.std.specs.Prelude.{◌≡◌, ℕ, ◌+◌, ◌^◌, ◌<◌, ◌≤◌, Bool, false, cond, not, ◌&&◌, List, [], ◌∷◌, ◌++◌, length, take, drop, Some, None, sum_by, filter, Option, ◌==◌, slice_index}
use Rattle.orders.specs.declared.kinds.Direction.{Direction}
use Rattle.orders.specs.declared.kinds.Order.{Order}
use Rattle.orders.specs.declared.kinds.Row.{Row}
use Rattle.orders.specs.declared.kinds.Terms.{Terms}
use Rattle.orders.specs.declared.settings.Settings.{Settings}
use Rattle.model.specs.Sound.{SoundMarket}
use Rattle.model.specs.Market.{Market, order_at, lots_of, meets, offers, resting_rate, best}
use Rattle.model.specs.Place.{opposite}
use Rattle.model.specs.Rounds.{Rule, empty, refills, round}
use Rattle.model.specs.Rows.{add_row, row_with}

-- the market of these orders, this queue and these rows
abbrev pub market_of : List Order → List ℕ → List Row → Market
market_of orders queue rows = record { orders = orders; queue = queue; rows = rows }

-- the best of some rates, if there are any
abbrev pub best_of : Direction → List ℕ → Option ℕ
best_of d [] = None
best_of d (r ∷ rs) = Some (best d (r ∷ rs))

-- the entering order may meet a resting one, at this rate
abbrev pub at_rate : Settings → Terms → ℕ → Order → Bool
at_rate s e rate o = meets e o && resting_rate s o == rate

-- the places of the orders that the entering one may meet at this rate, in queue order
unfoldable pub places_at : Settings → Terms → ℕ → List Order → List ℕ → List ℕ
places_at s e rate orders queue = filter (λ k. at_rate s e rate (order_at orders k)) queue

-- the share of each order is among its visible lots, and its lots fit 32 bits
abbrev pub Fit : (ℕ → ℕ) → List Order → Type 0
Fit share orders = (k : ℕ) → k < length orders → (share k ≤ (order_at orders k).visible) × (lots_of (order_at orders k) < 2 ^ 32)

-- the same of shares by place
abbrev pub SharesFit : List ℕ → List Order → Type 0
SharesFit shares orders = Fit (λ k. slice_index shares k) orders

-- the order at a place shows lots again after its share
abbrev pub shows_again : List ℕ → List Order → ℕ → Bool
shows_again shares orders k = refills (slice_index shares k) (order_at orders k)

-- the first n rows are these, and the others are as they were
pub record RowsMade (made before after : List Row) (n : ℕ) : Type 0 where
  pub count : n ≡ length made
  pub written : take n after ≡ made
  pub rest : drop n after ≡ drop n before

-- the rows with the share of the order at place k; a share of 0 makes none
unfoldable pub with_share : Settings → Direction → ℕ → List Order → ℕ → ℕ → List Row → List Row
with_share s d n orders k lots rows = cond (lots == 0) rows (add_row (row_with s d n orders k lots) rows)

-- the queue with those that show lots again after their shares at the end, in queue order
unfoldable pub requeued : List ℕ → List Order → List ℕ → List ℕ
requeued shares orders queue = filter (λ k. not (shows_again shares orders k)) queue ++ filter (shows_again shares orders) queue

-- the orders and the queue are those of this market, and the first rows are its rows
pub record Stands (m : Market) (orders : List Order) (queue : List ℕ) (before after : List Row) (made : ℕ) : Type 0 where
  pub ordered : orders ≡ m.orders
  pub queued : queue ≡ m.queue
  pub rows : RowsMade m.rows before after made

-- a round may be held: the market is sound, lots are left and some order may be met, and its rows and their lots have room
pub record RoundReady (rule : Rule) (s : Settings) (e : Terms) (n left : ℕ) (m : Market) (rows : List Row) : Type 0 where
  pub sound : SoundMarket m
  pub few : length m.orders ≤ 128
  pub long : length m.queue ≡ length m.orders
  pub some : 1 ≤ left
  pub offered : empty (offers e m) ≡ false
  pub room : length (round rule s e n left m).rows ≤ length rows
  pub fits : sum_by (λ r. r.lots) m.rows + left < 2 ^ 32

-- an order with these terms may enter: the market is sound, the order's sum is no more than 1,000,000, and its rows have room
pub record EntryReady (e : Terms) (m : Market) (rows : List Row) : Type 0 where
  pub sound : SoundMarket m
  pub few : length m.orders ≤ 128
  pub long : length m.queue ≡ length m.orders
  pub most : e.sum ≤ 1000000
  pub room : opposite e.direction m.orders ≤ length rows
