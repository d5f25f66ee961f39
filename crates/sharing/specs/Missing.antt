-- How the lots that rounding down leaves over are given out.
use Rattle.std.specs.Prelude.{ℕ, ◌+◌, ◌-◌, min, cond, List, [], ◌∷◌, sum, nat_lt}

-- one of the missing lots, if there is one, for a part below its sum
abbrev pub extra : (v part missing : ℕ) → ℕ
extra v part missing = cond (nat_lt part v) (min 1 missing) 0

-- the missing lots go one each, in list order, to the parts below their sums
abbrev pub hand_out : (sums parts : List ℕ) (missing : ℕ) → List ℕ
hand_out [] parts missing = []
hand_out (v ∷ vs) [] missing = []
hand_out (v ∷ vs) (p ∷ ps) missing = (p + extra v p missing) ∷ hand_out vs ps (missing - extra v p missing)

-- the parts, with the lots that they lack to q handed out
abbrev pub complete : (sums parts : List ℕ) (q : ℕ) → List ℕ
complete sums parts q = hand_out sums parts (q - sum parts)
