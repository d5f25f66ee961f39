-- Theorems about the definitions.
use Rattle.std.specs.Prelude.{◌≡◌, ℕ, ◌≤◌, List, [], ◌∷◌, sum}
use Rattle.sharing.specs.Time.{time_shares}
use Rattle.sharing.specs.ProRata.{pro_rata_shares}
use Rattle.sharing.specs.Parity.{capped, level, parity_shares}

-- sums of 20 and 30 lots: how each rule divides 24, and parity 45
pub record Figures : Type 0 where
  pub time_24 : time_shares (20 ∷ 30 ∷ []) 24 ≡ 20 ∷ 4 ∷ []
  pub pro_rata_24 : pro_rata_shares (20 ∷ 30 ∷ []) 24 ≡ 10 ∷ 14 ∷ []
  pub parity_24 : parity_shares (20 ∷ 30 ∷ []) 24 ≡ 12 ∷ 12 ∷ []
  pub parity_45 : parity_shares (20 ∷ 30 ∷ []) 45 ≡ 20 ∷ 25 ∷ []

-- t is the greatest number up to 1,000,000 at which the capped sums come to at most q
pub record IsLevel (sums : List ℕ) (q t : ℕ) : Type 0 where
  pub bound : t ≤ 1000000
  pub fits : sum (capped sums t) ≤ q
  pub top : (u : ℕ) → u ≤ 1000000 → sum (capped sums u) ≤ q → u ≤ t

-- the parity level is that number, for every list and q
abbrev pub LevelIsGreatest : Type 0
LevelIsGreatest = (sums : List ℕ) (q : ℕ) → IsLevel sums q (level sums q)
