-- Two pots as two books, and what the calls make of them.
use Rattle.std.specs.Prelude.{ℕ, ◌+◌, ◌-◌, min, Bool, cond, ◌&&◌, ◌==◌, nat_le, nat_lt}
use Rattle.clearing.specs.Book.{Book, empty, to_held, to_free, with_free}

-- the money pots and the securities pots: what is left in a pot is free, what was taken from it is held
pub record Pots : Type 0 where
  pub money : Book
  pub securities : Book

-- every pot empty
abbrev pub empty_pots : Pots
empty_pots = record { money = empty; securities = empty }

-- both pots taken together
abbrev pub joint : Pots → Book
joint t =
    record {
      free = λ p. t.money.free p + t.securities.free p;
      held = λ p. t.money.held p + t.securities.held p;
    }

-- n lots taken for participant p: money first, and what it lacks from the securities
abbrev pub drawn : Pots → ℕ → ℕ → Pots
drawn t p n =
    record {
      money = to_held t.money p (min n (t.money.free p));
      securities = to_held t.securities p (n - t.money.free p);
    }

-- n lots put back for participant p: securities first, and what is over into the money
abbrev pub refilled : Pots → ℕ → ℕ → Pots
refilled t p n =
    record {
      money = to_free t.money p (n - t.securities.held p);
      securities = to_free t.securities p (min n (t.securities.held p));
    }

-- two figures that may be set: participant 0 to 63, together at most 1,000,000,000, nothing held
abbrev pub pots_settable : Pots → ℕ → ℕ → ℕ → Bool
pots_settable t p m s = nat_lt p 64 && nat_le (m + s) 1000000000 && (joint t).held p == 0

-- the pots after participant p's figures were to be m and s
abbrev pub pots_set : Pots → ℕ → ℕ → ℕ → Pots
pots_set t p m s =
    cond (pots_settable t p m s)
    (record { money = with_free t.money p m; securities = with_free t.securities p s })
    t
