-- Sharing by the rule that is chosen.
use Rattle.std.specs.Prelude.{ℕ, List}
use Rattle.sharing.specs.declared.chosen.Rule.{Rule}
use Rattle.sharing.specs.declared.chosen.Rule.TheVariants.{Time, ProRata, Parity}
use Rattle.sharing.specs.Time.{time_shares}
use Rattle.sharing.specs.ProRata.{pro_rata_shares}
use Rattle.sharing.specs.Parity.{parity_shares}

-- the shares of the rule that is chosen
abbrev pub chosen_shares : Rule → List ℕ → ℕ → List ℕ
chosen_shares Time sums q = time_shares sums q
chosen_shares ProRata sums q = pro_rata_shares sums q
chosen_shares Parity sums q = parity_shares sums q
