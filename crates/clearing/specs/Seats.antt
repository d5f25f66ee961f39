-- An array with one element for each participant from 0 to 63.
use Rattle.std.specs.Prelude.{ℕ, cond, List, ◌==◌, nat_lt, slice_index_or}

-- participant p's element; none above participant 63
abbrev pub seat : {X : Type 0} → X → List X → ℕ → X
seat none xs p = cond (nat_lt p 64) (slice_index_or xs p none) none

-- participant p's element replaced by x
abbrev pub seated : {X : Type 0} → (ℕ → X) → ℕ → X → ℕ → X
seated elements p x q = cond (q == p) x (elements q)
