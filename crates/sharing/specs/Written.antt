-- A loop that writes a list from its front on: what is written and what is coming make up the whole.
use Rattle.std.specs.Prelude.{◌≡◌, ℕ, ◌+◌, ◌<◌, ◌≤◌, List, [], ◌∷◌, ◌++◌, map, length, take, drop, slice_index, slice_set}
use Rattle.std.proofs.Common.{sym, ap, ◌∙◌, append_assoc}
use Rattle.std.proofs.lemmas.List.{append-nil, at_drop_all, at_drop_more, take_all, take_more_set}

-- one more is written
pub written_more : (out coming rest whole : List ℕ) (i x : ℕ) → i < length out → coming ≡ x ∷ rest → take i out ++ coming ≡ whole → take (i + 1) (slice_set out i x) ++ rest ≡ whole
written_more out coming rest whole i x l next e =
    ap (λ xs. xs ++ rest) (take_more_set out i x l) ∙ append_assoc (take i out) (x ∷ []) rest ∙ ap (λ xs. take i out ++ xs) (sym next) ∙ e

-- all is written
pub written_all : (out coming whole : List ℕ) (i : ℕ) → length out ≤ i → coming ≡ [] → take i out ++ coming ≡ whole → out ≡ whole
written_all out coming whole i l none e =
    sym (take_all i out l) ∙ sym (append-nil (take i out)) ∙ ap (λ xs. take i out ++ xs) (sym none) ∙ e

-- the same for a loop that writes a function of each element
pub mapped_more : (f : ℕ → ℕ) (xs out whole : List ℕ) (i x : ℕ) → i < length xs → i < length out → x ≡ f (slice_index xs i) → take i out ++ map f (drop i xs) ≡ whole → take (i + 1) (slice_set out i x) ++ map f (drop (i + 1) xs) ≡ whole
mapped_more f xs out whole i x l m is e =
    written_more out (map f (drop i xs)) (map f (drop (i + 1) xs)) whole i x m
    (at_drop_more (map f) xs i 0 l ∙ ap (λ y. y ∷ map f (drop (i + 1) xs)) (sym is)) e

pub mapped_all : (f : ℕ → ℕ) (xs out whole : List ℕ) (i : ℕ) → length xs ≤ i → length out ≤ i → take i out ++ map f (drop i xs) ≡ whole → out ≡ whole
mapped_all f xs out whole i l m e = written_all out (map f (drop i xs)) whole i m (at_drop_all (map f) xs i l) e
