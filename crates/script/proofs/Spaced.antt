-- Numbers written one after another, each after a space.
use Rattle.std.proofs.Common.{◌≡◌, ℕ, ◌+◌, ◌<◌, List, [], ◌∷◌, ◌++◌, length, get_or, take, decimal, sym, refl, ap, ◌∙◌, append_assoc, append-nil}
use Rattle.std.proofs.lemmas.List.{take_more}
use Rattle.script.specs.Answers.{each_spaced}

each_spaced-append : (xs ys : List ℕ) → each_spaced xs ++ each_spaced ys ≡ each_spaced (xs ++ ys)
each_spaced-append [] ys = refl
each_spaced-append (x ∷ xs) ys =
    ap (λ (l : List ℕ). 32 ∷ l) (append_assoc (decimal x) (each_spaced xs) (each_spaced ys) ∙ ap (λ (l : List ℕ). decimal x ++ l) (each_spaced-append xs ys))

-- one more number written
pub spaced_more : (xs : List ℕ) (i : ℕ) → i < length xs → each_spaced (take i xs) ++ (32 ∷ decimal (get_or xs i 0)) ≡ each_spaced (take (i + 1) xs)
spaced_more xs i within =
    ap (λ (l : List ℕ). each_spaced (take i xs) ++ (32 ∷ l)) (sym (append-nil (decimal (get_or xs i 0))))
    ∙ each_spaced-append (take i xs) (get_or xs i 0 ∷ [])
    ∙ ap each_spaced (sym (take_more xs i 0 within))
