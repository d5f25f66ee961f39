-- How an order that enters meets the queue, in rounds.
use Rattle.std.specs.Prelude.{ℕ, zero, suc, ◌+◌, ◌-◌, min, Bool, true, false, cond, not, ◌&&◌, ◌||◌, List, [], ◌∷◌, ◌++◌, sum, filter, ◌==◌, nat_lt}
use Rattle.orders.specs.Life.{next_state}
use Rattle.orders.specs.Visible.{visible_sum}
use Rattle.orders.specs.declared.kinds.Order.{Order}
use Rattle.orders.specs.declared.kinds.Terms.{Terms}
use Rattle.orders.specs.declared.lifecycle.Event.TheVariants.{Conclusion}
use Rattle.orders.specs.declared.settings.Settings.{Settings}
use Rattle.model.specs.Market.{Market, order_at, offers, front, visible_at}
use Rattle.model.specs.Rows.{add_rows}

-- the meaning of a sharing rule: the shares for each list of sums and each q
abbrev pub Rule : Type 0
Rule = List ℕ → ℕ → List ℕ

-- the shares of place k
unfoldable pub share_at : ℕ → List ℕ → List ℕ → ℕ
share_at k [] shares = 0
share_at k (c ∷ cs) [] = 0
share_at k (c ∷ cs) (n ∷ shares) = cond (c == k) n 0 + share_at k cs shares

-- an order with n of its visible lots concluded
abbrev pub concluded : ℕ → Order → Order
concluded n o = record {
  number = o.number;
  owner = o.owner;
  terms = o.terms;
  state = next_state o.state (Conclusion ((o.visible - n) + o.hidden));
  visible = o.visible - n;
  hidden = o.hidden;
  withdrawn = o.withdrawn;
}

-- its visible lots are spent, and it has hidden ones
abbrev pub spent : Order → Bool
spent o = o.visible == 0 && nat_lt 0 o.hidden

-- the lots that an order shows of so many
abbrev pub shows : Terms → ℕ → ℕ
shows terms lots = min (visible_sum terms.sum terms.percent) lots

-- an order that shows lots again
abbrev pub shown_again : Order → Order
shown_again o = record {
  number = o.number;
  owner = o.owner;
  terms = o.terms;
  state = o.state;
  visible = shows o.terms o.hidden;
  hidden = o.hidden - shows o.terms o.hidden;
  withdrawn = o.withdrawn;
}

-- an order shows lots again after a share of n
abbrev pub refills : ℕ → Order → Bool
refills n o = nat_lt 0 n && spent (concluded n o)

-- an order after its share of a round
abbrev pub after_share : ℕ → Order → Order
after_share n o = cond (n == 0) o (cond (spent (concluded n o)) (shown_again (concluded n o)) (concluded n o))

-- each order, by its place from k on
unfoldable pub each_from : (ℕ → Order → Order) → ℕ → List Order → List Order
each_from f k [] = []
each_from f k (o ∷ os) = f k o ∷ each_from f (suc k) os

-- the market after a round whose list cs got these shares: those that show lots again go to the end, in queue order
unfoldable pub after_round : Settings → Terms → ℕ → List ℕ → List ℕ → Market → Market
after_round s e n cs shares m = record {
  orders = each_from (λ k o. after_share (share_at k cs shares) o) 0 m.orders;
  queue = filter (λ k. not (refills (share_at k cs shares) (order_at m.orders k))) m.queue ++ filter (λ k. refills (share_at k cs shares) (order_at m.orders k)) m.queue;
  rows = add_rows s e.direction n m.orders cs shares m.rows;
}

-- the lots that a round divides: what is left, or all that is visible at the best rate
unfoldable pub round_lots : Settings → Terms → ℕ → Market → ℕ
round_lots s e left m = min left (sum (visible_at m.orders (front s e m)))

-- one round
unfoldable pub round : Rule → Settings → Terms → ℕ → ℕ → Market → Market
round rule s e n left m =
    after_round s e n (front s e m) (rule (visible_at m.orders (front s e m)) (round_lots s e left m)) m

-- no place at all
abbrev pub empty : List ℕ → Bool
empty [] = true
empty (k ∷ ks) = false

-- rounds stop when nothing is left or nothing is admissible
abbrev pub stops : Terms → ℕ → Market → Bool
stops e left m = left == 0 || empty (offers e m)

-- the market that an entry leaves, and the lots left of the order that entered
pub record Meeting : Type 0 where
  pub left : ℕ
  pub market : Market

-- at most so many rounds
unfoldable pub rounds : ℕ → Rule → Settings → Terms → ℕ → ℕ → Market → Meeting
rounds zero rule s e n left m = record { left = left; market = m }
rounds (suc more) rule s e n left m =
    elim (stops e left m) [
      | true ↦ record { left = left; market = m }
      | false ↦ rounds more rule s e n (left - round_lots s e left m) (round rule s e n left m)
    ]

-- all rounds of the order numbered n with these terms: each concludes at least one lot, so its sum bounds their number
unfoldable pub meeting : Rule → Settings → Terms → ℕ → Market → Meeting
meeting rule s e n m = rounds e.sum rule s e n e.sum m
