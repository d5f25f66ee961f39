-- The law of every list of calls.
use Rattle.std.specs.Prelude.{◌≡◌, ℕ, suc, ◌+◌, ◌<◌, ◌≤◌, cond, List, ◌++◌, length, drop, ◌==◌}
use Rattle.std.specs.List.{AllByRecursion}
use Rattle.clearing.specs.Book.{Book}
use Rattle.orders.specs.declared.kinds.Code.{Code}
use Rattle.orders.specs.declared.kinds.Direction.{Direction}
use Rattle.orders.specs.declared.kinds.Order.{Order}
use Rattle.orders.specs.declared.kinds.Remainder.TheVariants.{Queue}
use Rattle.orders.specs.declared.kinds.Row.{Row}
use Rattle.orders.specs.declared.kinds.State.TheVariants.{Done, Waiting, Active}
use Rattle.orders.specs.declared.settings.Settings.{Settings}
use Rattle.model.specs.Calls.{Call, place, withdraw, clock, LawfulCall, handed, given_back, step, after, opening}
use Rattle.model.specs.Choices.{TermsMeet, total}
use Rattle.model.specs.ClockLaw.{ClockLaw}
use Rattle.model.specs.Close.{closing}
use Rattle.model.specs.CloseLaw.{Closed, States}
use Rattle.model.specs.Days.{World, Outcome}
use Rattle.model.specs.Depth.{reporting}
use Rattle.model.specs.DepthLaw.{ReportLaw}
use Rattle.model.specs.Entry.{OneRowEach}
use Rattle.model.specs.Ledger.{made, added, named_lots, withdrawn_over}
use Rattle.model.specs.Market.{order_at, lots_of}
use Rattle.model.specs.PlaceLaw.{PlaceLaw, IsVisible}
use Rattle.model.specs.WithdrawLaw.{WithdrawLaw}

-- every registered sum is the lots of its rows and its visible, hidden and withdrawn lots; held cover is the opening one, and the registered less the withdrawn lots
pub record Balanced (start : World) (calls : List Call) (w : World) : Type 0 where
  pub sums : (k : ℕ) → k < length w.day.orders → (order_at w.day.orders k).terms.sum ≡ named_lots (suc k) (made w) + (order_at w.day.orders k).visible + (order_at w.day.orders k).hidden + withdrawn_over calls start (suc k)
  pub cover : (p : ℕ) → w.cover.held p + total (length w.day.orders) (λ k. cond ((order_at w.day.orders k).owner == p) (withdrawn_over calls start (suc k)) 0) ≡ start.cover.held p + total (length w.day.orders) (λ k. cond ((order_at w.day.orders k).owner == p) (order_at w.day.orders k).terms.sum 0)

-- no two active orders are admissible to each other
abbrev pub Apart : List Order → Type 0
Apart orders =
    (j k : ℕ) → j < length orders → k < length orders → (order_at orders j).state ≡ Active → (order_at orders k).state ≡ Active → TermsMeet (order_at orders j).terms (order_at orders k).terms → ⊥

-- an order's state says what is left of it
pub record StateOf (o : Order) : Type 0 where
  pub done : o.state ≡ Done → lots_of o ≡ 0
  pub none : lots_of o ≡ 0 → o.state ≡ Done
  pub waiting : o.state ≡ Waiting → (o.visible ≡ 0) × (o.hidden ≡ o.terms.sum)
  pub resting : o.state ≡ Active → (o.terms.remainder ≡ Queue) × (1 ≤ o.visible) × ((v : ℕ) → IsVisible o.terms v → o.visible ≤ v)

-- what holds of a day after every list of calls
pub record Holds (s : Settings) (start : World) (calls : List Call) (w : World) : Type 0 where
  pub balanced : Balanced start calls w
  pub apart : Apart w.day.orders
  pub states : (k : ℕ) → k < length w.day.orders → StateOf (order_at w.day.orders k)
  pub numbers : (k : ℕ) → k < length w.day.orders → (order_at w.day.orders k).number ≡ suc k
  pub settings : w.day.settings ≡ s
  pub fits : w.day.used ≤ length start.register
  pub register : w.register ≡ made w ++ drop w.day.used start.register
  pub single : OneRowEach (made w)

-- the law of one call, by its kind
abbrev pub CallLaw : Call → World → Outcome → Type 0
CallLaw (place rule rows p e) w o = (inner : Outcome) × PlaceLaw p e (handed rows w) inner × (o ≡ given_back rows w inner)
CallLaw (withdraw n p) w o = WithdrawLaw n p w o
CallLaw (clock rule rows time) w o = (inner : Outcome) × ClockLaw time (handed rows w) inner × (o ≡ given_back rows w inner)

-- the law: after every list of calls from a newly opened day the day holds, every further call obeys its law and leaves older rows alone, a close ends the day as it must, and depth tells what rests
pub record Law (s : Settings) (register : List Row) (cover : Book) (calls : List Call) : Type 0 where
  pub holds : Holds s (opening s register cover) calls (after calls (opening s register cover))
  pub next : (c : Call) → LawfulCall c → CallLaw c (after calls (opening s register cover)) (step c (after calls (opening s register cover)))
  pub older : (c : Call) → LawfulCall c → made (step c (after calls (opening s register cover))).world ≡ made (after calls (opening s register cover)) ++ added (after calls (opening s register cover)) (step c (after calls (opening s register cover))).world
  pub closed : Closed (after calls (opening s register cover)) (closing (after calls (opening s register cover)))
  pub stated : States calls (opening s register cover) (after calls (opening s register cover)) (closing (after calls (opening s register cover)))
  pub shown : (d : Direction) (security : ℕ) (code : Code) (rates totals : ℕ) → ReportLaw d security code rates totals (after calls (opening s register cover)).day.orders (reporting s d security code rates totals (after calls (opening s register cover)).day.orders)

-- the law of every list of calls, each with a lawful rule of its own, from every newly opened day over any register and any cover
abbrev pub EveryList : Type 0
EveryList = (s : Settings) (register : List Row) (cover : Book) (calls : List Call) → AllByRecursion LawfulCall calls → Law s register cover calls
