-- Parts that are at most their sums, and the missing lots handed out among them.
use Rattle.std.specs.Prelude.{◌≡◌, ℕ, ◌+◌, ◌-◌, ◌<◌, ◌≤◌, cond, List, [], ◌∷◌, ◌++◌, map, length, take, drop, sum, nat_lt, slice_index, slice_index_or, slice_set}
use Rattle.std.proofs.Common.{sym, ◌∙◌, arith}
use Rattle.std.proofs.lemmas.List.{at_drop_all, at_drop_more, drop-set-lt}
use Rattle.sharing.specs.Written.{written_all, written_more}
use Rattle.std.specs.List.{AllZip}
use Rattle.std.proofs.lemmas.List.Elements.{length_all_zip, AllZip-get_or}
use Rattle.std.proofs.lemmas.List.Sums.{sum_by-cons}
use Rattle.std.proofs.lemmas.Bool.Decides.{nat_tests}
use Rattle.sharing.specs.Request.{Divides}
use Rattle.sharing.specs.Missing.{extra, hand_out, complete}

-- a part for each sum, none above its sum
abbrev pub Within : List ℕ → List ℕ → Type 0
Within sums parts = AllZip (λ v p. p ≤ v) sums parts

-- a part of each sum that is a function of it
pub within_map : (f : ℕ → ℕ) → ((v : ℕ) → f v ≤ v) → (sums : List ℕ) → Within sums (map f sums)
within_map f le [] = tt
within_map f le (v ∷ vs) = (le v, within_map f le vs)

pub divides_from_within : (sums parts : List ℕ) (q : ℕ) → Within sums parts → sum parts ≡ q → Divides sums q parts
divides_from_within sums parts q within whole = record {
  long = sym (length_all_zip (λ v p. p ≤ v) sums parts within);
  within = λ k l. AllZip-get_or (λ v p. p ≤ v) sums parts k 0 0 within l;
  whole = whole;
}

-- one for a part below its sum
abbrev pub short : ℕ → ℕ → ℕ
short v p = cond (nat_lt p v) 1 0

-- how many parts are below their sums
abbrev pub below : List ℕ → List ℕ → ℕ
below [] parts = 0
below (v ∷ vs) [] = 0
below (v ∷ vs) (p ∷ ps) = short v p + below vs ps

within_extra : (v p m : ℕ) → p ≤ v → p + extra v p m ≤ v
within_extra v p m h = grind (arith, nat_tests)

within_hand_out : (sums parts : List ℕ) (m : ℕ) → Within sums parts → Within sums (hand_out sums parts m)
within_hand_out [] parts m w = tt
within_hand_out (v ∷ vs) [] m w = absurd w
within_hand_out (v ∷ vs) (p ∷ ps) m w = (within_extra v p m w.0, within_hand_out vs ps (m - extra v p m) w.1)

-- what is left to hand out has a part to go to
extra_left : (v p m b : ℕ) → m ≤ short v p + b → m - extra v p m ≤ b
extra_left v p m b h = grind (arith, nat_tests)

extra_le : (v p m : ℕ) → extra v p m ≤ m
extra_le v p m = grind (arith, nat_tests)

sum_hand_out : (sums parts : List ℕ) (m : ℕ) → Within sums parts → m ≤ below sums parts → sum (hand_out sums parts m) ≡ sum parts + m
sum_hand_out [] [] m w h = omega arith
sum_hand_out [] (p ∷ ps) m w h = absurd w
sum_hand_out (v ∷ vs) [] m w h = absurd w
sum_hand_out (v ∷ vs) (p ∷ ps) m w h =
    let rest = sum_hand_out vs ps (m - extra v p m) w.1 (extra_left v p m (below vs ps) h) in
    omega (arith, rest, extra_le v p m, sum_by-cons (λ x. x) p ps, sum_by-cons (λ x. x) (p + extra v p m) (hand_out vs ps (m - extra v p m)))

-- completed parts divide q where enough of them are below their sums
pub divides_complete : (sums parts : List ℕ) (q : ℕ) → Within sums parts → sum parts ≤ q → q ≤ sum parts + below sums parts → Divides sums q (complete sums parts q)
divides_complete sums parts q w low high =
    divides_from_within sums (complete sums parts q) q (within_hand_out sums parts (q - sum parts) w)
    (omega (arith, sum_hand_out sums parts (q - sum parts) w (omega arith)))

-- a loop that hands out: one more part is done
pub handed_more : (sums parts whole : List ℕ) (i m x : ℕ) → i < length sums → i < length parts → x ≡ extra (slice_index sums i) (slice_index parts i) m → take i parts ++ hand_out (drop i sums) (drop i parts) m ≡ whole → take (i + 1) (slice_set parts i (slice_index parts i + x)) ++ hand_out (drop (i + 1) sums) (drop (i + 1) (slice_set parts i (slice_index parts i + x))) (m - x) ≡ whole
handed_more sums parts whole i m x l k is e =
    let v : ℕ = slice_index_or sums i 0 in
    let p : ℕ = slice_index_or parts i 0 in
    let here : hand_out (drop i sums) (drop i parts) m ≡ (p + extra v p m) ∷ hand_out (drop (i + 1) sums) (drop (i + 1) parts) (m - extra v p m) =
    at_drop_more (λ vs. hand_out vs (drop i parts) m) sums i 0 l ∙ at_drop_more (λ ps. hand_out (v ∷ drop (i + 1) sums) ps m) parts i 0 k in
    let kept : drop (i + 1) (slice_set parts i (slice_index parts i + x)) ≡ drop (i + 1) parts = drop-set-lt (i + 1) parts i (slice_index parts i + x) (omega arith) in
    written_more parts (hand_out (drop i sums) (drop i parts) m) _ whole i (p + x) k (cc) e

-- all are done
pub handed_all : (sums parts whole : List ℕ) (i m : ℕ) → length sums ≤ i → length parts ≤ i → take i parts ++ hand_out (drop i sums) (drop i parts) m ≡ whole → parts ≡ whole
handed_all sums parts whole i m l k e =
    written_all parts (hand_out (drop i sums) (drop i parts) m) whole i k (at_drop_all (λ vs. hand_out vs (drop i parts) m) sums i l) e
