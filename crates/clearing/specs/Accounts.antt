-- An account of each participant, and the book that the accounts show.
use Rattle.std.specs.Prelude.{ℕ, Bool, cond, ◌&&◌, ◌==◌, nat_lt}
use Rattle.clearing.specs.Book.{Book}
use Rattle.clearing.specs.Seats.{seat}
use Rattle.clearing.specs.declared.accounts.Accounts.{Accounts}

module _ {A : Type 0} where
  -- each participant's account; none above participant 63
  abbrev pub account_of : A → Accounts A → ℕ → A
  account_of none accounts = seat none accounts.of

  -- the same account for participants 0 to 63
  abbrev pub alike : A → A → ℕ → A
  alike none account p = cond (nat_lt p 64) account none

  -- what is free and what is held in each account
  abbrev pub book_of : (A → ℕ) → (A → ℕ) → (ℕ → A) → Book
  book_of free held accounts = record { free = λ p. free (accounts p); held = λ p. held (accounts p) }

  -- an account that may be opened anew: participant 0 to 63, nothing held
  abbrev pub replaceable : (A → ℕ) → (ℕ → A) → ℕ → Bool
  replaceable held accounts p = nat_lt p 64 && held (accounts p) == 0
