-- A purse as an account: a pot of money and a pot of securities.
use Rattle.std.specs.Prelude.{ℕ, ◌+◌, ◌-◌, min}
use Rattle.std.proofs.Common.{zero-le}
use Rattle.clearing.specs.Lines.{none, line_free, line_holding, line_letting_go}
use Rattle.clearing.specs.declared.purse.Purse.{Purse}

-- a purse with nothing in it
abbrev pub none_purse : Purse
none_purse = record { money = none; securities = none; within = zero-le }

-- what both pots have left
abbrev pub purse_free : Purse → ℕ
purse_free purse = line_free purse.money + line_free purse.securities

-- what was taken from both pots
abbrev pub purse_held : Purse → ℕ
purse_held purse = purse.money.held + purse.securities.held

-- n lots taken: money first, and what it lacks from the securities
abbrev pub purse_holding : Purse → ℕ → Purse
purse_holding purse n =
    record {
      money = line_holding purse.money (min n (line_free purse.money));
      securities = line_holding purse.securities (n - line_free purse.money);
      within = purse.within;
    }

-- n lots put back: securities first, and what is over into the money
abbrev pub purse_letting_go : Purse → ℕ → Purse
purse_letting_go purse n =
    record {
      money = line_letting_go purse.money (n - purse.securities.held);
      securities = line_letting_go purse.securities (min n purse.securities.held);
      within = purse.within;
    }
