use Rattle.std.proofs.Common.{ℕ, List, [], ◌∷◌, refl, ap, lit<, lit≤}
use Rattle.sharing.specs.Missing.{complete}
use Rattle.sharing.specs.Parity.{capped}
use Rattle.sharing.specs.Levels.{level_is}
use Rattle.sharing.proofs.theorems.figures_hold.Goals as goal

pub returns : goal.returns
returns c =
    let sums : List ℕ = 20 ∷ 30 ∷ [] in
    let at_level : ℕ → ℕ → List ℕ = λ q t. complete (20 ∷ 30 ∷ []) (capped (20 ∷ 30 ∷ []) t) q in
    record {
      time_24 = refl;
      pro_rata_24 = refl;
      parity_24 = ap (at_level 24) (level_is sums 24 12 (lit≤ tt) (lit≤ tt) (lit< tt));
      parity_45 = ap (at_level 45) (level_is sums 45 25 (lit≤ tt) (lit≤ tt) (lit< tt));
    }
