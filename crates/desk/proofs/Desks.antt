-- The state of a desk.
use Rattle.std.proofs.Common.{◌+◌, List, ◌≡◌, ℕ, zero, suc, length, refl, ◌∙◌, subst, arith}
use Rattle.orders.specs.declared.kinds.Order.{Order}
use Rattle.orders.specs.declared.kinds.Row.{Row}
use Rattle.model.specs.Rounds.{Meeting}
use Rattle.desk.specs.Entry.{day_met}
use Rattle.desk.specs.Matching.{Stands}
use Rattle.model.specs.Choices.{total}
use Rattle.model.specs.Days.{Day}
use Rattle.model.specs.Market.{Market}
use Rattle.model.specs.Sound.{LawfulDay, SoundMarket}
use Rattle.model.proofs.Places.{length_total}
use Rattle.model.proofs.Totals.{total_same}

-- it is kept by a call that leaves the day of an outcome which is lawful
pub keeps : (left d : Day) → LawfulDay d → d ≡ left → ∥ LawfulDay left ∥₁
keeps left d lawful is = ∣ subst LawfulDay is lawful ∣₁

total_ones : (n : ℕ) → total n (λ k. 1) ≡ n
total_ones zero = refl
total_ones (suc n) = let rest = total_ones n in omega (arith, rest)

-- the queue has each order's place once
pub queue_long : (m : Market) → SoundMarket m → length m.queue ≡ length m.orders
queue_long m sound = length_total (length m.orders) m.queue sound.inside ∙ total_same (length m.orders) _ (λ _. 1) sound.queued ∙ total_ones (length m.orders)

-- the day that an entry leaves
pub day_met_lem : (d : Day) (met : Meeting) (orders : List Order) (queue : List ℕ) (before after : List Row) (made : ℕ) → Stands met.market orders queue before after made
    → record { settings = d.settings; clock = d.clock; orders = orders; queue = queue; used = d.used + made } ≡ day_met d met
day_met_lem d met orders queue before after made stands = rw (stands.ordered, stands.queued, stands.rows.count) refl
