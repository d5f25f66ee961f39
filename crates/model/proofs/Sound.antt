-- The theorem of an entry.
use Rattle.std.proofs.Common.{◌≡◌, ℕ, ◌+◌, ◌<◌, ◌≤◌, false, [], length}
use Rattle.orders.specs.declared.kinds.Terms.{Terms}
use Rattle.orders.specs.declared.settings.Settings.{Settings}
use Rattle.model.specs.Calls.{LawfulRule}
use Rattle.model.specs.Choices.{taken, concluded_with}
use Rattle.model.specs.Entry.{Enters}
use Rattle.model.specs.Market.{Market, order_at, meets}
use Rattle.model.specs.Place.{opposite}
use Rattle.model.specs.Rounds.{Rule, Meeting, meeting}
use Rattle.model.specs.Sound.{SoundMarket}

-- an entry: the law of it, what is left of the order, that nothing admissible is left unless nothing is left of it, and that the market stays sound
pub record Met (e : Terms) (n : ℕ) (m : Market) (met : Meeting) : Type 0 where
  pub enters : Enters e n m met.market
  pub left : met.left + taken m.orders (concluded_with e.direction n met.market.rows) ≡ e.sum
  pub clear : 1 ≤ met.left → (k : ℕ) → k < length m.orders → meets e (order_at met.market.orders k) ≡ false
  pub sound : SoundMarket met.market
  pub few : length met.market.rows ≤ opposite e.direction m.orders

-- the theorem of an entry
abbrev pub EntryTheorem : Type 0
EntryTheorem = (rule : Rule) (s : Settings) (e : Terms) (n : ℕ) (m : Market) → LawfulRule rule → SoundMarket m → m.rows ≡ [] → Met e n m (meeting rule s e n m)
