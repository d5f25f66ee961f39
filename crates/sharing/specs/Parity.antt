-- Sharing by parity.
use Rattle.std.specs.Prelude.{ℕ, zero, suc, min, Bool, true, false, List, map, sum, nat_le}
use Rattle.sharing.specs.Missing.{complete}

-- each sum, or t where the sum is larger
abbrev pub capped : List ℕ → ℕ → List ℕ
capped sums t = map (λ v. min v t) sums

-- the greatest number up to n that passes the test, or 0
unfoldable pub greatest : (ℕ → Bool) → ℕ → ℕ
greatest test zero = zero
greatest test (suc n) = elim (test (suc n)) [ true ↦ suc n | false ↦ greatest test n ]

-- the greatest t up to 1,000,000 at which the capped sums come to at most q
abbrev pub level : List ℕ → ℕ → ℕ
level sums q = greatest (λ t. nat_le (sum (capped sums t)) q) 1000000

-- each gets up to the level, and the rest goes one each to those above it: a capped sum is below its sum exactly there
abbrev pub parity_shares : List ℕ → ℕ → List ℕ
parity_shares sums q = complete sums (capped sums (level sums q)) q
