-- Sharing pro rata.
use Rattle.std.specs.Prelude.{ℕ, ◌*◌, ◌/◌, List, map, sum}
use Rattle.sharing.specs.Missing.{complete}

-- each sum's proportion of q, rounded down
abbrev pub quotas : List ℕ → ℕ → List ℕ
quotas sums q = map (λ v. v * q / sum sums) sums

-- each gets its proportion, and the missing lots go one each to those below their sums
abbrev pub pro_rata_shares : List ℕ → ℕ → List ℕ
pro_rata_shares sums q = complete sums (quotas sums q) q
