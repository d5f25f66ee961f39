-- The test of admissibility, fact by fact.
use Rattle.std.proofs.Common.{◌≡◌, ℕ, ◌≤◌, Bool, true, false, not, ◌&&◌, ◌||◌, eqb, leb, Decides, refl, ap, ap₂, arith}
use Rattle.std.proofs.lemmas.Bool.Decides.{nat_tests, Decides-and, Decides-eqb, Decides-like}
use Rattle.orders.specs.Admissible.{at_market}
use Rattle.orders.specs.Theorems.{AdmissibleFacts}
use Rattle.orders.specs.declared.kinds.Code.{Code}
use Rattle.orders.specs.declared.kinds.Kind.{Kind}
use Rattle.orders.specs.declared.kinds.Kind.TheVariants.{Limit, Market}
use Rattle.orders.proofs.Sets.{held_by_bit}

abbrev code : ℕ → ℕ → Code
code m term = record { m = m; term = term }

codes : (a b : Code) → Decides (eqb a.m b.m && eqb a.term b.term) (a ≡ b)
codes a b =
    Decides-like _ (λ e. ap₂ code e.0 e.1) (λ e. (ap (λ (c : Code). c.m) e, ap (λ (c : Code). c.term) e))
    (Decides-and _ _ (Decides-eqb a.m b.m) (Decides-eqb a.term b.term))

-- a test of no is a proof of no
pub unmarked : (b : Bool) → Decides (not b) (b ≡ false)
unmarked true = (λ e. cc, λ e. cc)
unmarked false = (λ _. refl, λ _. refl)

rates : (k l : Kind) (x y : ℕ) → Decides (at_market k || at_market l || leb x y) (k ≡ Limit → l ≡ Limit → x ≤ y)
rates Limit Limit x y = (λ e _ _. grind (arith, nat_tests), λ h. let le : x ≤ y = h refl refl in grind (arith, nat_tests))
rates Limit Market x y = (λ _ _ e. let z : ◌≡◌ {A = ℕ} 0 1 = cc in omega arith, λ _. refl)
rates Market l x y = (λ _ e _. let z : ◌≡◌ {A = ℕ} 0 1 = cc in omega arith, λ _. refl)

pub admissible_facts : AdmissibleFacts
admissible_facts deposit repo =
    Decides-like _ (λ f. record { code = f.0.0.0; securities = f.0.0.1; unmarked = f.0.1; rates = f.1 })
    (λ m. (((m.code, m.securities), m.unmarked), m.rates))
    (Decides-and _ _
    (Decides-and _ _
    (Decides-and _ _ (codes deposit.code repo.code) (held_by_bit repo.securities deposit.securities))
    (unmarked repo.return_mark))
    (rates deposit.kind repo.kind deposit.rate.hundredths repo.rate.hundredths))
