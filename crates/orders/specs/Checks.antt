-- What an order's terms are refused for.
use Rattle.std.specs.Prelude.{ℕ, Bool, true, false, cond, not, ◌&&◌, ◌||◌, ◌==◌, count_ones, nat_le, nat_lt}
use Rattle.orders.specs.Admissible.{at_market}
use Rattle.orders.specs.Visible.{visible_sum}
use Rattle.orders.specs.declared.kinds.Code.{Code}
use Rattle.orders.specs.declared.kinds.Direction.{Direction}
use Rattle.orders.specs.declared.kinds.Direction.TheVariants.{Deposit, Repo}
use Rattle.orders.specs.declared.kinds.Mode.{Mode}
use Rattle.orders.specs.declared.kinds.Mode.TheVariants.{Unaddressed, Auction}
use Rattle.orders.specs.declared.kinds.Remainder.{Remainder}
use Rattle.orders.specs.declared.kinds.Remainder.TheVariants.{Queue, Withdraw, FillOrReject}
use Rattle.orders.specs.declared.kinds.Terms.{Terms}
use Rattle.orders.specs.declared.settings.Settings.{Settings}

-- the clock of a new day: 09:30
abbrev pub opening_time : ℕ
opening_time = 34200

-- the end of the session: 23:59
abbrev pub last_time : ℕ
last_time = 86340

-- a deposit order
abbrev pub is_deposit : Direction → Bool
is_deposit Deposit = true
is_deposit Repo = false

-- an auction day
abbrev pub in_auction : Mode → Bool
in_auction Unaddressed = false
in_auction Auction = true

-- the remainder rests in the queue
abbrev pub rests : Remainder → Bool
rests Queue = true
rests Withdraw = false
rests FillOrReject = false

-- the remainder is withdrawn
abbrev pub is_withdrawn : Remainder → Bool
is_withdrawn Queue = false
is_withdrawn Withdraw = true
is_withdrawn FillOrReject = false

-- a limit order whose remainder rests
abbrev pub limit_queue : Terms → Bool
limit_queue terms = not (at_market terms.kind) && rests terms.remainder

-- an auction deposit waits for its activation
abbrev pub waits_first : Mode → Terms → Bool
waits_first mode terms = in_auction mode && is_deposit terms.direction

-- a participant above 63
abbrev pub unknown_participant : ℕ → Bool
unknown_participant participant = nat_lt 63 participant

-- a limit rate outside 1 to 10,000, or a market rate other than 0
abbrev pub wrong_rate : Terms → Bool
wrong_rate terms =
    cond (at_market terms.kind) (not (terms.rate.hundredths == 0))
    (nat_lt terms.rate.hundredths 1 || nat_lt 10000 terms.rate.hundredths)

-- a sum below the least or above 1,000,000
abbrev pub wrong_sum : Settings → Terms → Bool
wrong_sum settings terms = nat_lt terms.sum settings.least_sum || nat_lt 1000000 terms.sum

-- m from 0 to 2 and a term from 0 to 13
abbrev pub lawful_code : Code → Bool
lawful_code code = nat_le code.m 2 && nat_le code.term 13

-- no security, or more than one in a repo order or in unaddressed mode
abbrev pub wrong_securities : Mode → Terms → Bool
wrong_securities mode terms =
    (count_ones terms.securities == 0)
    || (nat_lt 1 (count_ones terms.securities) && (not (is_deposit terms.direction) || not (in_auction mode)))

-- a market order whose remainder is not withdrawn
abbrev pub market_remains : Terms → Bool
market_remains terms = at_market terms.kind && not (is_withdrawn terms.remainder)

-- a percent on any but a limit queue order, or in an auction
abbrev pub misplaced_percent : Mode → Terms → Bool
misplaced_percent mode terms = nat_lt 0 terms.percent && (not (limit_queue terms) || in_auction mode)

-- a return mark on a deposit
abbrev pub returned_deposit : Terms → Bool
returned_deposit terms = terms.return_mark && is_deposit terms.direction

-- in an auction: a deposit that is market or queue, or a repo order that is not limit and queue
abbrev pub unfit_for_auction : Mode → Terms → Bool
unfit_for_auction mode terms =
    in_auction mode && cond (is_deposit terms.direction) (at_market terms.kind || rests terms.remainder) (not (limit_queue terms))

-- marks that do not go together
abbrev pub wrong_marks : Mode → Terms → Bool
wrong_marks mode terms =
    market_remains terms || misplaced_percent mode terms || returned_deposit terms || unfit_for_auction mode terms

-- only at a percent above 0: a percent outside the settings, a sum below the least iceberg sum, or a visible sum below the least sum
abbrev pub wrong_percent : Settings → Terms → Bool
wrong_percent settings terms =
    nat_lt 0 terms.percent
    && (nat_lt terms.percent settings.least_percent
    || nat_lt settings.greatest_percent terms.percent
    || nat_lt terms.sum settings.least_iceberg_sum
    || nat_lt (visible_sum terms.sum terms.percent) settings.least_sum)

-- an auction deposit's activation not after the clock or past the end of the session; any other order's not 0
abbrev pub wrong_time : Mode → ℕ → Terms → Bool
wrong_time mode clock terms =
    cond (waits_first mode terms) (nat_le terms.activation clock || nat_lt last_time terms.activation)
    (not (terms.activation == 0))
