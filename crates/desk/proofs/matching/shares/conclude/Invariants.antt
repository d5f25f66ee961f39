use Rattle.std.proofs.Common.{◌≡◌, ℕ, ◌<◌, ◌≤◌, slice_index}
use Rattle.model.specs.Market.{order_at}
use Rattle.model.specs.Rounds.{after_share}
use Rattle.desk.proofs.matching.shares.conclude.Given as goal

abbrev pub invariant-loop-k : goal.invariant-loop-k
invariant-loop-k l =
    record {
      done : (k : ℕ) → k < l.k → order_at l.orders k ≡ after_share (slice_index l.shares k) (order_at l.initial.orders k);
      coming : (k : ℕ) → l.k ≤ k → order_at l.orders k ≡ order_at l.initial.orders k;
    }
