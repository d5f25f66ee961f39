-- What a sharing rule is asked, and what every answer keeps.
use Rattle.std.specs.Prelude.{◌≡◌, ℕ, ◌<◌, ◌≤◌, List, length, sum, slice_index}
use Rattle.std.specs.List.{AllByRecursion}

-- a visible sum is from 1 to 1,000,000 lots
abbrev pub VisibleSum : ℕ → Type 0
VisibleSum v = (1 ≤ v) × (v ≤ 1000000)

-- 1 to 64 visible sums in queue order, and from 1 to their total of lots to divide
pub record Lawful (sums : List ℕ) (q : ℕ) : Type 0 where
  pub some : 1 ≤ length sums
  pub few : length sums ≤ 64
  pub each : AllByRecursion VisibleSum sums
  pub least : 1 ≤ q
  pub covered : q ≤ sum sums

-- the parts divide q among the sums: a part for each sum, none above its sum, together q
pub record Divides (sums : List ℕ) (q : ℕ) (parts : List ℕ) : Type 0 where
  pub long : length parts ≡ length sums
  pub within : (k : ℕ) → k < length sums → slice_index parts k ≤ slice_index sums k
  pub whole : sum parts ≡ q
