-- Orders and lines of the final statement, by the orders' numbers.
use Rattle.std.specs.Prelude.{ℕ, pred, ◌-◌, Bool, cond, ◌||◌, List, length, Some, None, Option, ◌==◌, nat_lt, slice_index_or}
use Rattle.std.specs.Option.{option_map}
use Rattle.orders.specs.declared.kinds.Order.{Order}
use Rattle.model.specs.Close.{Stated, statement}
use Rattle.model.specs.CloseLaw.{unstated}
use Rattle.model.specs.Market.{order_at}
use Rattle.desk.specs.declared.statement.StatementLine.{StatementLine}

-- what a line says
abbrev pub stated : StatementLine → Stated
stated line = record { concluded = line.concluded; withdrawn = line.withdrawn }

-- an order's line: all lots that were not withdrawn were concluded
abbrev pub statement_line : Order → Stated
statement_line o = record { concluded = o.terms.sum - o.withdrawn; withdrawn = o.withdrawn }

-- what a line says, if there is one
abbrev pub stated_as : Option StatementLine → Option Stated
stated_as line = option_map stated line

-- no order has this number
abbrev pub unnumbered : List Order → ℕ → Bool
unnumbered orders n = n == 0 || nat_lt (length orders) n

-- the place of the order with a number, if there is one
abbrev pub place_of : List Order → ℕ → Option ℕ
place_of orders n = cond (unnumbered orders n) None (Some (pred n))

-- the order with a number, if there is one
abbrev pub numbered : List Order → ℕ → Option Order
numbered orders n = cond (unnumbered orders n) None (Some (order_at orders (pred n)))

-- the line of the statement for the order with a number, if there is one
abbrev pub stated_of : List Order → ℕ → Option Stated
stated_of orders n = cond (unnumbered orders n) None (Some (slice_index_or (statement orders) (pred n) unstated))
