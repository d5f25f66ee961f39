-- A number and its written form.
use Rattle.std.specs.Prelude.{◌≡◌, ℕ, zero, suc, ◌^◌, ◌<◌, true, false, List, length, Some, None, Ok, Err, decimal, Option, Result, ◌≢◌, slice_index_or, refl}
use Rattle.std.proofs.Common.{sym, ap, ◌∙◌, arith}
use Rattle.std.proofs.lemmas.Bool.Decides.{nat_tests}
use Rattle.std.specs.Str.Iter.{LacksByte}
use Rattle.std.specs.Str.Parse.{ParsesUnsigned, AllDigits, digits_value}
use Rattle.std.proofs.lemmas.Fmt.{decimal_nonempty, first_decimal, decimal_digit, decimal-digits_value, parse-decimal, digits_decimal}
use Rattle.std.proofs.lemmas.Str.Parse.{IsNumeralModel, numerals_by_value, tells_digits, digit_at, parse_plain}
use Rattle.std.proofs.lemmas.Result.{OkIff-at_ok}
use Rattle.std.specs.Result.{result_ok}
use Rattle.script.specs.Reads.{ReadsWord, begins_plain}

own : IsNumeralModel (AllDigits 10) (digits_value 10)
own = numerals_by_value (AllDigits 10) tells_digits

pub number_lacks_space : (n : ℕ) → n < 2 ^ 32 → LacksByte 32 (decimal n)
number_lacks_space n small k within is =
    let d = digit_at (decimal n) k (digits_decimal own n (omega arith)) within in omega (arith, d.0)

pub number_begins : (n : ℕ) → n < 2 ^ 32 → begins_plain (decimal n) ≡ true
number_begins zero small = rw (decimal_digit 0 (omega arith)) refl
number_begins (suc n) small =
    let some : 0 < length (decimal (suc n)) = decimal_nonempty (suc n) (omega arith) in
    let first : 48 < slice_index_or (decimal (suc n)) 0 0 = first_decimal (suc n) (omega arith) (omega arith) in
    grind (arith, nat_tests)

pub number_not_plain : (n : ℕ) (bs : List ℕ) → n < 2 ^ 32 → false ≡ begins_plain bs → bs ≢ decimal n
number_not_plain n bs small not e =
    let wrong : true ≡ false = sym (number_begins n small) ∙ ap begins_plain (sym e) ∙ sym not in
    let z : ◌≡◌ {A = ℕ} 0 1 = cc in omega arith

pub number_read : {E : Type 0} (n : ℕ) (bs : List ℕ) (r : Result ℕ E) → ParsesUnsigned 32 10 bs r → r ≡ Ok n → true ≡ begins_plain bs → (n < 2 ^ 32) × (bs ≡ decimal n)
number_read n bs r reads ok plain =
    let sign : slice_index_or bs 0 0 ≡ 43 → ⊥ = grind (arith, nat_tests) in
    let p = OkIff-at_ok r _ _ n (parse_plain own 32 bs r reads sign) ok in
    let zero_alone : slice_index_or bs 0 0 ≡ 48 → length bs ≡ 1 = grind (arith, nat_tests) in
    let small : digits_value 10 bs < 2 ^ 32 = p.0.2 in
    let d = decimal-digits_value own bs p.0.0 p.0.1 zero_alone (omega arith) in
    (rw p.1 small, sym d ∙ ap decimal (sym p.1))

pub number_unread : {E : Type 0} (n : ℕ) (bs : List ℕ) (r : Result ℕ E) (e : E) → ParsesUnsigned 32 10 bs r → r ≡ Err e → n < 2 ^ 32 → bs ≢ decimal n
number_unread n bs r e reads err small is =
    let ok = parse-decimal 32 n bs r small (omega arith) is reads in
    let z : ◌≡◌ {A = ℕ} 0 1 = cc in omega arith

pub number_word : {E : Type 0} (bs : List ℕ) (r : Result ℕ E) (o : Option ℕ) → ParsesUnsigned 32 10 bs r → o ≡ result_ok r → true ≡ begins_plain bs → ReadsWord (λ n. n < 2 ^ 32) decimal bs o
number_word {E = E} bs (Ok n) (Some m) reads is plain =
    let same : m ≡ n = cc in
    let ok : ◌≡◌ {A = Result ℕ E} (Ok n) (Ok n) = refl in
    rw same (number_read n bs (Ok n) reads ok plain)
number_word bs (Ok n) None reads is plain = absurd (cc)
number_word bs (Err e) (Some m) reads is plain = absurd (cc)
number_word {E = E} bs (Err e) None reads is plain = λ n small.
    let err : ◌≡◌ {A = Result ℕ E} (Err e) (Err e) = refl in
    number_unread n bs (Err e) e reads err small
