-- The two pots of each participant as books.
use Rattle.std.specs.Prelude.{ℕ}
use Rattle.clearing.specs.Accounts.{account_of}
use Rattle.clearing.specs.Pots.{Pots}
use Rattle.clearing.specs.Purses.{none_purse}
use Rattle.clearing.specs.Sheet.{line_book, uniform}
use Rattle.clearing.specs.declared.purse.Purse.{Purse}
use Rattle.clearing.specs.declared.pots.TwoPots.{TwoPots}

-- each participant's purse as two books
abbrev pub purse_pots : (ℕ → Purse) → Pots
purse_pots purses =
    record {
      money = line_book (λ p. (purses p).money);
      securities = line_book (λ p. (purses p).securities);
    }

-- the purses' lines as two books
unfoldable pub pots_of : TwoPots → Pots
pots_of t = purse_pots (account_of none_purse t.purses)

-- the same purse for participants 0 to 63
abbrev pub uniform_pots : Purse → Pots
uniform_pots purse = record { money = uniform purse.money; securities = uniform purse.securities }
