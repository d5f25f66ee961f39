-- Register rows: a pair has one, and it grows.
use Rattle.std.specs.Prelude.{ℕ, suc, ◌+◌, Bool, cond, ◌&&◌, List, [], ◌∷◌, ◌==◌}
use Rattle.orders.specs.Admissible.{row_rate}
use Rattle.orders.specs.declared.kinds.Direction.{Direction}
use Rattle.orders.specs.declared.kinds.Direction.TheVariants.{Deposit, Repo}
use Rattle.orders.specs.declared.kinds.Order.{Order}
use Rattle.orders.specs.declared.kinds.Row.{Row}
use Rattle.orders.specs.declared.settings.Settings.{Settings}
use Rattle.model.specs.Market.{order_at}

-- the row of the order numbered n that enters in direction d, with the order at place k
abbrev pub row_with : Settings → Direction → ℕ → List Order → ℕ → ℕ → Row
row_with s Deposit n orders k lots = record { deposit = n; repo = suc k; rate = row_rate s (order_at orders k).terms; lots = lots }
row_with s Repo n orders k lots = record { deposit = suc k; repo = n; rate = row_rate s (order_at orders k).terms; lots = lots }

-- two rows of one pair
abbrev pub same_pair : Row → Row → Bool
same_pair a b = a.deposit == b.deposit && a.repo == b.repo

-- a row with more lots
abbrev pub grown : Row → ℕ → Row
grown r lots = record { deposit = r.deposit; repo = r.repo; rate = r.rate; lots = r.lots + lots }

-- the rows with one more conclusion: the pair's row grows, or it is new and last
unfoldable pub add_row : Row → List Row → List Row
add_row row [] = row ∷ []
add_row row (r ∷ rs) = cond (same_pair row r) (grown r row.lots ∷ rs) (r ∷ add_row row rs)

-- the rows with the conclusions of a round, in list order; a share of 0 makes none
unfoldable pub add_rows : Settings → Direction → ℕ → List Order → List ℕ → List ℕ → List Row → List Row
add_rows s d n orders [] shares rows = rows
add_rows s d n orders (k ∷ ks) [] rows = rows
add_rows s d n orders (k ∷ ks) (lots ∷ shares) rows =
    add_rows s d n orders ks shares (cond (lots == 0) rows (add_row (row_with s d n orders k lots) rows))
