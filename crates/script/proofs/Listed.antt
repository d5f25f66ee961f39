-- Numbers with a space between each two.
use Rattle.std.proofs.Common.{◌≡◌, ℕ, zero, suc, ◌^◌, ◌<◌, false, eqb, List, [], ◌∷◌, length, map, get_or, decimal, refl, ap, ◌∙◌, arith}
use Rattle.std.specs.List.{All, AllByRecursion, slice_split}
use Rattle.std.proofs.lemmas.Bool.Decides.{nat_tests}
use Rattle.std.proofs.lemmas.List.{get_or_default}
use Rattle.std.proofs.lemmas.List.Splits.{slice_split_none, slice_split_at}
use Rattle.script.specs.Words.{numbers}
use Rattle.script.specs.Numbers.{number_lacks_space}

abbrev pub Small : ℕ → Type 0
Small n = n < 2 ^ 32

-- the words of a text: what stands between spaces
abbrev pub spaced_words : List ℕ → List (List ℕ)
spaced_words text = slice_split (λ b. eqb b 32) text

no_space : (n : ℕ) → Small n → All (λ b. eqb b 32 ≡ false) (decimal n)
no_space n small k d within =
    let other : get_or (decimal n) k 0 ≡ 32 → ⊥ = number_lacks_space n small k within in
    rw (get_or_default (decimal n) k d 0 within) (grind (arith, nat_tests))

-- the words of written numbers are their forms
words_of : (ns : List ℕ) → 0 < length ns → AllByRecursion Small ns → spaced_words (numbers ns) ≡ map decimal ns
words_of [] some small = absurd (omega arith)
words_of (n ∷ []) some small = slice_split_none (λ b. eqb b 32) (decimal n) (no_space n small.0)
words_of (n ∷ m ∷ ms) some small =
    slice_split_at (λ b. eqb b 32) (decimal n) 32 (numbers (m ∷ ms)) (no_space n small.0) refl ∙ ap (λ l. decimal n ∷ l) (words_of (m ∷ ms) (omega arith) small.1)

nth_form : (ns : List ℕ) (k : ℕ) (d : List ℕ) → k < length (map decimal ns) → AllByRecursion Small ns → (n : ℕ) × Small n × (get_or (map decimal ns) k d ≡ decimal n)
nth_form [] k d within small = absurd (omega arith)
nth_form (n ∷ ns) zero d within small = (n, small.0, refl)
nth_form (n ∷ ns) (suc k) d within small = nth_form ns k d (omega arith) small.1

-- a word that is no number's form stands in no row of numbers
pub no_numbers : (text word : List ℕ) (k : ℕ) → (k < length (spaced_words text)) × (word ≡ get_or (spaced_words text) k word) → ((n : ℕ) → Small n → word ≡ decimal n → ⊥) → (ns : List ℕ) → 0 < length ns → AllByRecursion Small ns → text ≡ numbers ns → ⊥
no_numbers text word k at unread ns some small is =
    let same : spaced_words text ≡ map decimal ns = ap spaced_words is ∙ words_of ns some small in
    let within : k < length (map decimal ns) = rw same at at.0 in
    let n = nth_form ns k word within small in
    unread n.0 n.1 (at.1 ∙ ap (λ l. get_or l k word) same ∙ n.2)
