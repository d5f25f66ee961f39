-- Close: all that rests or waits is withdrawn, and the closed day has its statement.
use Rattle.std.specs.Prelude.{ℕ, ◌-◌, List, [], ◌∷◌, map}
use Rattle.clearing.specs.Book.{Book, released}
use Rattle.orders.specs.declared.kinds.Order.{Order}
use Rattle.orders.specs.declared.lifecycle.Event.TheVariants.{Close}
use Rattle.model.specs.Days.{World}
use Rattle.model.specs.Market.{lots_of}
use Rattle.model.specs.Withdraw.{taken_out}

-- the cover with the lots of each order released, by rising number
unfoldable pub released_all : Book → List Order → Book
released_all b [] = b
released_all b (o ∷ os) = released_all (released b o.owner (lots_of o)) os

-- close
unfoldable pub closing : World → World
closing w = record {
  day = record {
    settings = w.day.settings;
    clock = w.day.clock;
    orders = map (taken_out Close) w.day.orders;
    queue = w.day.queue;
    used = w.day.used;
  };
  register = w.register;
  cover = released_all w.cover w.day.orders;
}

-- an order's concluded and withdrawn lots
pub record Stated : Type 0 where
  pub concluded : ℕ
  pub withdrawn : ℕ

-- the final statement of a closed day: all lots that were not withdrawn were concluded
abbrev pub statement : List Order → List Stated
statement orders = map (λ o. record { concluded = o.terms.sum - o.withdrawn; withdrawn = o.withdrawn }) orders
