-- Shares by place.
use Rattle.std.proofs.Common.{◌≡◌, ℕ, ◌+◌, ◌^◌, ◌<◌, ◌≤◌, cond, eqb, List, [], ◌∷◌, length, get_or, drop, set, sum, refl, arith}
use Rattle.std.proofs.lemmas.List.{drop_all, drop_more}
use Rattle.std.proofs.lemmas.List.Sums.{sum_by-cons}
use Rattle.std.proofs.lemmas.Bool.Decides.{nat_tests}
use Rattle.std.proofs.lemmas.Grind.{common_steps}
use Rattle.model.specs.Rounds.{share_at}

-- a place has no more than all shares
pub share_le_sum : (k : ℕ) (places shares : List ℕ) → share_at k places shares ≤ sum shares
unfolding share_at
share_le_sum k [] shares = omega arith
share_le_sum k (c ∷ cs) [] = omega arith
share_le_sum k (c ∷ cs) (n ∷ ns) =
    let rest : share_at k cs ns ≤ sum ns = share_le_sum k cs ns in
    let head : cond (eqb c k) n 0 ≤ n = grind (arith, nat_tests) in
    omega (arith, sum_by-cons (λ (x : ℕ). x) n ns)

-- what is added up by place, with the shares from i on, makes up all of them
abbrev pub Spread : List ℕ → List ℕ → ℕ → List ℕ → Type 0
Spread places shares i out = (k : ℕ) → get_or out k 0 + share_at k (drop i places) (drop i shares) ≡ share_at k places shares

-- a place and its share, in their turn
abbrev pub Turn : List ℕ → List ℕ → ℕ → ℕ → ℕ → Type 0
Turn places shares i place share = (i < length places) × (i < length shares) × ((d : ℕ) → place ≡ get_or places i d) × ((d : ℕ) → share ≡ get_or shares i d)

module _ (places shares : List ℕ) (i : ℕ) (out : List ℕ) (c x : ℕ) (turn : Turn places shares i c x) where
  head_share : (k : ℕ) → share_at k (drop i places) (drop i shares) ≡ cond (eqb c k) x 0 + share_at k (drop (i + 1) places) (drop (i + 1) shares)
  unfolding share_at
  head_share k = rw (drop_more places i 0 turn.0, drop_more shares i 0 turn.1, turn.2 0, turn.3 0) refl

  pub spread_fits : Spread places shares i out → sum shares < 2 ^ 32 → get_or out c 0 + x < 2 ^ 32
  spread_fits s fits =
      let self : cond (eqb c c) x 0 ≡ x = grind (arith, nat_tests) in
      omega (arith, s c, head_share c, share_le_sum c places shares)

  pub spread_more : Spread places shares i out → c < length out → Spread places shares (i + 1) (set out c (get_or out c 0 + x))
  spread_more s inside k = let head = head_share k in let was = s k in grind (arith, nat_tests, common_steps)

pub spread_all : (places shares : List ℕ) (i : ℕ) (out : List ℕ) → length places ≤ i → Spread places shares i out
    → (k : ℕ) → get_or out k 0 ≡ share_at k places shares
unfolding share_at
spread_all places shares i out past s k =
    let none : share_at k (drop i places) (drop i shares) ≡ 0 = rw (drop_all i places past) refl in
    omega (arith, s k)
