-- The best rate of some places: one of them has it, and none has a better one.
use Rattle.std.proofs.Common.{◌≡◌, ℕ, ◌≤◌, eqb, ◌⊎◌, List, [], ◌∷◌, map, count_by, sym, refl, ◌∙◌, inl, inr, le_trans, arith}
use Rattle.std.specs.List.{AllByRecursion}
use Rattle.std.proofs.lemmas.Bool.{cases_lt}
use Rattle.orders.specs.declared.kinds.Direction.{Direction}
use Rattle.orders.specs.declared.kinds.Direction.TheVariants.{Deposit, Repo}
use Rattle.model.specs.Choices.{NoBetter}
use Rattle.model.specs.Market.{better, best}
use Rattle.model.proofs.Places.{count_here, count_behind}

-- no better, as an order of rates
pub no_better_same : (d : Direction) (a b : ℕ) → a ≡ b → NoBetter d a b
no_better_same Deposit a b e = omega arith
no_better_same Repo a b e = omega arith

pub no_better_chain : (d : Direction) (a b c : ℕ) → NoBetter d a b → NoBetter d b c → NoBetter d a c
no_better_chain Deposit a b c x y = omega arith
no_better_chain Repo a b c x y = omega arith

-- the better of two rates is one of them, and neither is better than it
better_top : (d : Direction) (a b : ℕ) → NoBetter d a (better d a b) × NoBetter d b (better d a b)
better_top Deposit a b = omega arith
better_top Repo a b = omega arith

better_one : (d : Direction) (a b : ℕ) → (better d a b ≡ a) ⊎ (better d a b ≡ b)
better_one Deposit a b = elim (cases_lt a b) [ inl lt ↦ inr (omega arith) | inr le ↦ inl (omega arith) ]
better_one Repo a b = elim (cases_lt a b) [ inl lt ↦ inl (omega arith) | inr le ↦ inr (omega arith) ]

-- no place has a rate better than one that the best is no better than
pub best_top : {X : Type 0} (d : Direction) (r : X → ℕ) (ks : List X) (b : ℕ) → NoBetter d (best d (map r ks)) b → AllByRecursion (λ k. NoBetter d (r k) b) ks
unfolding best
best_top d r [] b top = tt
best_top d r (k ∷ []) b top = (top, tt)
best_top d r (k ∷ j ∷ ks) b top =
    let two = better_top d (r k) (best d (map r (j ∷ ks))) in
    (no_better_chain d (r k) _ b two.0 top, best_top d r (j ∷ ks) b (no_better_chain d (best d (map r (j ∷ ks))) _ b two.1 top))

-- some place has it
pub best_attained : (d : Direction) (r : ℕ → ℕ) (c : ℕ) (cs : List ℕ)
    → (k : ℕ) × (1 ≤ count_by (eqb k) (c ∷ cs)) × (r k ≡ best d (map r (c ∷ cs)))
unfolding best
best_attained d r c [] = (c, count_here c [], refl)
best_attained d r c (j ∷ ks) =
    let rest = best_attained d r j ks in
    elim (better_one d (r c) (best d (map r (j ∷ ks)))) [
      | inl first ↦ (c, count_here c (j ∷ ks), sym first)
      | inr later ↦ (rest.0, le_trans rest.1 (count_behind rest.0 c (j ∷ ks)), rest.2 ∙ sym later)
    ]
