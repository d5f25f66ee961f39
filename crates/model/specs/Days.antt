-- A day with its register and its cover.
use Rattle.std.specs.Prelude.{ℕ, ◌+◌, List, [], ◌++◌, length, take, drop, Some, None}
use Rattle.clearing.specs.Book.{Book}
use Rattle.orders.specs.Answers.{Answer, refused_for}
use Rattle.orders.specs.Checks.{opening_time}
use Rattle.orders.specs.Table.{Table, first}
use Rattle.orders.specs.declared.kinds.Order.{Order}
use Rattle.orders.specs.declared.kinds.Row.{Row}
use Rattle.orders.specs.declared.settings.Settings.{Settings}

-- an open day: order number k + 1 stands at place k, the queue is of places, and so many register rows are used
pub record Day : Type 0 where
  pub settings : Settings
  pub clock : ℕ
  pub orders : List Order
  pub queue : List ℕ
  pub used : ℕ

-- a day, the register handed to its calls, and the cover of its participants
pub record World : Type 0 where
  pub day : Day
  pub register : List Row
  pub cover : Book

-- a newly opened day: no order, every row free
abbrev pub opened : Settings → Day
opened s = record { settings = s; clock = opening_time; orders = []; queue = []; used = 0 }

-- what a call answers and leaves
pub record Outcome : Type 0 where
  pub answer : Answer
  pub world : World

-- rows written from the first free one on
abbrev pub written : List Row → ℕ → List Row → List Row
written register used rows = take used register ++ (rows ++ drop (used + length rows) register)

-- the first refusal that applies, which changes nothing, or what an accepted call does
abbrev pub judged : Table → World → Outcome → Outcome
judged table w done = elim (first table) [ Some r ↦ record { answer = refused_for r; world = w } | None ↦ done ]
