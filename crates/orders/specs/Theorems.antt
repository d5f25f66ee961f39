-- Theorems about the definitions.
use Rattle.std.specs.Prelude.{◌≡◌, ℕ, ◌+◌, ◌*◌, ◌/◌, ◌%◌, ◌^◌, ◌<◌, ◌≤◌, false, Decides}
use Rattle.orders.specs.Admissible.{admissible, security_held}
use Rattle.orders.specs.Visible.{visible_sum}
use Rattle.orders.specs.declared.kinds.Kind.TheVariants.{Limit}
use Rattle.orders.specs.declared.kinds.Terms.{Terms}

-- v is sum × percent / 100 rounded up, at least 1 and at most the sum
pub record RoundedUp (sum percent v : ℕ) : Type 0 where
  pub some : 1 ≤ v
  pub within : v ≤ sum
  pub enough : sum * percent ≤ 100 * v
  pub least : 100 * v < sum * percent + 100

-- that is the visible sum, for a sum of at least 1 and a percent from 1 to 100
abbrev pub VisibleBounds : Type 0
VisibleBounds = (sum percent : ℕ) → 1 ≤ sum → 1 ≤ percent → percent ≤ 100 → RoundedUp sum percent (visible_sum sum percent)

-- the security is in the set: its bit is 1
abbrev pub In : ℕ → ℕ → Type 0
In security securities = securities / 2 ^ security % 2 ≡ 1

-- a repo order with the one security s has it held by exactly the deposits with s in their set
abbrev pub OneSecurity : Type 0
OneSecurity =
    (deposit repo : Terms) (s : ℕ) → repo.securities ≡ 2 ^ s → Decides (security_held deposit repo) (In s deposit.securities)

-- a deposit and a repo order that may meet, fact by fact
pub record MayMeet (deposit repo : Terms) : Type 0 where
  -- they settle alike
  pub code : deposit.code ≡ repo.code
  -- every security of the repo order is in the deposit's set
  pub securities : (s : ℕ) → In s repo.securities → In s deposit.securities
  -- the repo order has no return mark
  pub unmarked : repo.return_mark ≡ false
  -- of two limit orders, the deposit's rate is at most the repo rate
  pub rates : deposit.kind ≡ Limit → repo.kind ≡ Limit → deposit.rate.hundredths ≤ repo.rate.hundredths

-- the test of admissibility says exactly that
abbrev pub AdmissibleFacts : Type 0
AdmissibleFacts = (deposit repo : Terms) → Decides (admissible deposit repo) (MayMeet deposit repo)
