-- Sets of securities, bit by bit.
use Rattle.std.proofs.Common.{◌≡◌, ℕ, zero, suc, ◌+◌, ◌*◌, ◌/◌, ◌%◌, ◌^◌, ◌<◌, min, eqb, Decides, sym, refl, ap, ◌∙◌, ap₂, add-zero, mod-lt, one-mul, div-add-mod', div-one, arith, lit<, pow_pos}
use native.Mathlib.Nat.{div-div-eq-div-mul, pow-succ'}
use lib.Arith.{bin_ind}
use lib.Bits.{bit_and, and_step, and_comm, and_le_r, and_mask, and_mod, and_shr, and_block}
use Rattle.std.proofs.lemmas.Bool.Decides.{Decides-eqb, Decides-like}
use Rattle.orders.specs.Theorems.{In, OneSecurity}

-- what a set of one security has in common with another
one_bit : (s d : ℕ) → bit_and (2 ^ s) d ≡ d / 2 ^ s % 2 * 2 ^ s
one_bit s d =
    ap₂ bit_and (sym (add-zero (1 * 2 ^ s) ∙ one-mul (2 ^ s))) (sym (div-add-mod' d (2 ^ s)))
    ∙ and_block s 1 (d / 2 ^ s) 0 (d % 2 ^ s) (pow_pos s) (mod-lt d (pow_pos s))
    ∙ add-zero (bit_and 1 (d / 2 ^ s) * 2 ^ s)
    ∙ ap (λ (x : ℕ). x * 2 ^ s) (and_comm 1 (d / 2 ^ s) ∙ and_mask (d / 2 ^ s) 1)

-- a bit times a power is the power only if the bit is 1
whole_bit : (x p : ℕ) → x < 2 → 0 < p → x * p ≡ p → x ≡ 1
whole_bit zero p few some e = omega arith
whole_bit (suc zero) p few some e = refl
whole_bit (suc (suc x)) p few some e = omega arith

one_held : (s d : ℕ) → Decides (eqb (bit_and (2 ^ s) d) (2 ^ s)) (In s d)
one_held s d =
    rw (one_bit s d)
    (Decides-like _ (whole_bit (d / 2 ^ s % 2) (2 ^ s) (mod-lt (d / 2 ^ s) (lit< tt)) (pow_pos s))
    (λ e. ap (λ (x : ℕ). x * 2 ^ s) e ∙ one-mul (2 ^ s)) (Decides-eqb (d / 2 ^ s % 2 * 2 ^ s) (2 ^ s)))

pub one_security : OneSecurity
one_security deposit repo s e = rw e (one_held s deposit.securities)

-- the bits of a set's half are its bits from 1 on
half_bit : (n s : ℕ) → n / 2 / 2 ^ s % 2 ≡ n / 2 ^ suc s % 2
half_bit n s = ap (λ (x : ℕ). x % 2) (div-div-eq-div-mul n 2 (2 ^ s) ∙ ap (λ (x : ℕ). n / x) (sym (pow-succ' 2 s)))

-- a set that has all of its securities in common with another is in it
from_and : (a b : ℕ) → bit_and a b ≡ a → (s : ℕ) → In s a → In s b
from_and a b e s one =
    let at : bit_and a b / 2 ^ s % 2 ≡ bit_and (a / 2 ^ s % 2) (b / 2 ^ s % 2) =
    ap (λ (x : ℕ). x % 2) (and_shr a b s) ∙ and_mod (a / 2 ^ s) (b / 2 ^ s) 1 in
    let same : bit_and a b / 2 ^ s % 2 ≡ a / 2 ^ s % 2 = ap (λ (x : ℕ). x / 2 ^ s % 2) e in
    omega (arith, at, same, one, and_le_r (a / 2 ^ s % 2) (b / 2 ^ s % 2), mod-lt (b / 2 ^ s) {m = 2} (lit< tt))

-- a set in another has all of its securities in common with it
abbrev Within : ℕ → Type 0
Within a = (b : ℕ) → ((s : ℕ) → In s a → In s b) → bit_and a b ≡ a

low_bit : (n b : ℕ) → (In 0 n → In 0 b) → min (n % 2) (b % 2) ≡ n % 2
low_bit n b h =
    let h' : n % 2 ≡ 1 → b % 2 ≡ 1 = λ e. ap (λ (x : ℕ). x % 2) (sym (div-one b)) ∙ h (ap (λ (x : ℕ). x % 2) (div-one n) ∙ e) in
    least_bit (n % 2) (b % 2) (mod-lt n (lit< tt)) h'
  where
    least_bit : (x y : ℕ) → x < 2 → (x ≡ 1 → y ≡ 1) → min x y ≡ x
    least_bit zero y few one = omega arith
    least_bit (suc zero) y few one = omega (arith, one refl)
    least_bit (suc (suc x)) y few one = omega arith

to_and : (a : ℕ) → Within a
to_and =
    bin_ind Within (λ b h. refl)
    (λ n ih b h.
    and_step n b
    ∙ ap₂ (λ (x y : ℕ). x * 2 + y)
    (ih (b / 2) (λ s one. half_bit b s ∙ h (suc s) (sym (half_bit n s) ∙ one)))
    (low_bit n b (h 0))
    ∙ div-add-mod' n 2)

-- a set is in another if each of its bits is
pub held_by_bit : (a b : ℕ) → Decides (eqb (bit_and a b) a) ((s : ℕ) → In s a → In s b)
held_by_bit a b = Decides-like _ (from_and a b) (to_and a b) (Decides-eqb (bit_and a b) a)
