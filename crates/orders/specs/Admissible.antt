-- Which orders may meet, and at which rate.
use Rattle.std.specs.Prelude.{ℕ, ◌/◌, ◌%◌, ◌^◌, Bool, true, false, not, ◌&&◌, ◌||◌, ◌==◌, bit_and, nat_le, nat_lt}
use Rattle.orders.specs.declared.kinds.Direction.TheVariants.{Deposit, Repo}
use Rattle.orders.specs.declared.kinds.Kind.{Kind}
use Rattle.orders.specs.declared.kinds.Kind.TheVariants.{Limit, Market}
use Rattle.orders.specs.declared.kinds.Rate.{Rate}
use Rattle.orders.specs.declared.kinds.Terms.{Terms}
use Rattle.orders.specs.declared.settings.Settings.{Settings}

-- the security, from 0 to 63, is in the set
abbrev pub names : ℕ → ℕ → Bool
names securities security = nat_lt security 64 && securities / 2 ^ security % 2 == 1

-- the codes are equal
abbrev pub same_code : Terms → Terms → Bool
same_code deposit repo = deposit.code.m == repo.code.m && deposit.code.term == repo.code.term

-- every security of the repo order, which has one, is in the deposit's set
abbrev pub security_held : Terms → Terms → Bool
security_held deposit repo = bit_and repo.securities deposit.securities == repo.securities

-- a market order
abbrev pub at_market : Kind → Bool
at_market Limit = false
at_market Market = true

-- the deposit's rate is at most the repo rate; a market order meets every rate
abbrev pub rates_meet : Terms → Terms → Bool
rates_meet deposit repo =
    at_market deposit.kind || at_market repo.kind || nat_le deposit.rate.hundredths repo.rate.hundredths

-- a deposit and a repo order that may meet
abbrev pub admissible : Terms → Terms → Bool
admissible deposit repo =
    same_code deposit repo && security_held deposit repo && not repo.return_mark && rates_meet deposit repo

-- the same of a newcomer and a resting order: one is a deposit, the other a repo order, and they may meet
abbrev pub admissible_to : Terms → Terms → Bool
admissible_to newcomer resting =
    elim newcomer.direction [
      | Deposit ↦ elim resting.direction [ Deposit ↦ false | Repo ↦ admissible newcomer resting ]
      | Repo ↦ elim resting.direction [ Deposit ↦ admissible resting newcomer | Repo ↦ false ]
    ]

-- the rate of a register row is the resting order's
abbrev pub row_rate : Settings → Terms → Rate
row_rate settings resting = resting.rate
