-- Sharing by time.
use Rattle.std.specs.Prelude.{ℕ, ◌-◌, min, List, [], ◌∷◌}

-- the earliest takes all it can, then the next
abbrev pub time_shares : List ℕ → ℕ → List ℕ
time_shares [] q = []
time_shares (v ∷ vs) q = min v q ∷ time_shares vs (q - min v q)
