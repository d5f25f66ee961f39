-- Lots by the rows that name an order, and by what each call withdrew.
use Rattle.std.specs.Prelude.{ℕ, suc, pred, ◌+◌, ◌-◌, Bool, cond, not, ◌&&◌, ◌||◌, List, [], ◌∷◌, length, take, drop, sum_by, ◌==◌, slice_index}
use Rattle.orders.specs.Answers.{Answer}
use Rattle.orders.specs.Checks.{rests, waits_first}
use Rattle.orders.specs.declared.kinds.Row.{Row}
use Rattle.model.specs.Calls.{Call, place, withdraw, clock, step}
use Rattle.model.specs.Clock.{is_due}
use Rattle.model.specs.Days.{World, Outcome}
use Rattle.model.specs.Market.{order_at}

-- the rows that a day's calls made
abbrev pub made : World → List Row
made w = take w.day.used w.register

-- the rows that a call added
abbrev pub added : World → World → List Row
added before after = drop before.day.used (made after)

-- the lots of the rows that name order n
abbrev pub named_lots : ℕ → List Row → ℕ
named_lots n rows = sum_by (λ r. cond (r.deposit == n || r.repo == n) r.lots 0) rows

-- an answer that refuses nothing
abbrev pub is_accepted : Answer → Bool
is_accepted a = a.number == 0

-- the first and the second value of an answer
abbrev pub value : ℕ → Answer → ℕ
value i a = slice_index a.values i

-- the lots that a call withdrew from order n: by withdraw its answer, by place and clock the remainder of an order that ends there
abbrev pub withdrawn_by : Call → World → Outcome → ℕ → ℕ
withdrawn_by (place rule rows p e) w o n =
    cond (is_accepted o.answer && n == suc (length w.day.orders) && not (rests e.remainder) && not (waits_first w.day.settings.mode e)) (e.sum - value 1 o.answer) 0
withdrawn_by (withdraw m p) w o n = cond (is_accepted o.answer && n == m) (value 0 o.answer) 0
withdrawn_by (clock rule rows time) w o n =
    cond (is_accepted o.answer && not (n == 0) && is_due time (order_at w.day.orders (pred n))) ((order_at w.day.orders (pred n)).terms.sum - named_lots n (added w o.world)) 0

-- the lots that a list of calls withdrew from order n
abbrev pub withdrawn_over : List Call → World → ℕ → ℕ
withdrawn_over [] w n = 0
withdrawn_over (c ∷ cs) w n = withdrawn_by c w (step c w) n + withdrawn_over cs (step c w).world n
