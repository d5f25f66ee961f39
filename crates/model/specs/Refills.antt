-- Several orders that show lots again in one round.
use Rattle.std.specs.Prelude.{◌≡◌, ℕ, ◌<◌, ◌≤◌, not, ◌++◌, length, filter, ◌==◌, nat_eq}
use Rattle.orders.specs.declared.kinds.Order.{Order}
use Rattle.orders.specs.declared.kinds.Terms.{Terms}
use Rattle.orders.specs.declared.settings.Settings.{Settings}
use Rattle.model.specs.Market.{Market, order_at}
use Rattle.model.specs.Rounds.{Rule, round}

-- the queue after: first those whose hidden lots are as before, then the others, both in the order in which they stood
abbrev pub InTurn : Market → Market → Type 0
InTurn before after =
    after.queue ≡ filter (λ k. nat_eq (order_at after.orders k).hidden (order_at before.orders k).hidden) before.queue
    ++ filter (λ k. not ((order_at after.orders k).hidden == (order_at before.orders k).hidden)) before.queue

-- an order of at least one lot that shows at most all of them
abbrev pub Plain : Order → Type 0
Plain o = (1 ≤ o.terms.sum) × (o.terms.percent ≤ 100)

-- so it is after every round, whatever the rule shares
abbrev pub RefillsInTurn : Type 0
RefillsInTurn =
    (rule : Rule) (s : Settings) (e : Terms) (n left : ℕ) (m : Market) → ((k : ℕ) → k < length m.orders → Plain (order_at m.orders k)) → InTurn m (round rule s e n left m)
