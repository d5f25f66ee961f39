-- Two lists, place by place, the second a function of the first.
use Rattle.std.proofs.Common.{◌≡◌, ℕ, List, [], ◌∷◌, map, refl}
use Rattle.std.specs.List.{AllZip}

-- where each pair shows that the second is f of the first, the second list is f of the first list
pub map_from_all_zip : (R : ℕ → ℕ → Type 0) (f : ℕ → ℕ) (xs ys : List ℕ) → ((x y : ℕ) → R x y → y ≡ f x) → AllZip R xs ys → ys ≡ map f xs
map_from_all_zip R f [] [] is each = refl
map_from_all_zip R f [] (y ∷ ys) is each = absurd each
map_from_all_zip R f (x ∷ xs) [] is each = absurd each
map_from_all_zip R f (x ∷ xs) (y ∷ ys) is each =
    let first = is x y each.0 in
    let rest = map_from_all_zip R f xs ys is each.1 in
    cc
