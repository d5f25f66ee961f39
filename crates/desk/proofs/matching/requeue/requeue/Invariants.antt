use Rattle.std.proofs.Common.{◌≡◌, not, take, filter}
use Rattle.desk.specs.Matching.{shows_again}
use Rattle.desk.proofs.matching.requeue.requeue.Given as goal

abbrev pub invariant-loop-place : goal.invariant-loop-place
invariant-loop-place l =
    record {
      kept : l.kept.items ≡ filter (λ k. not (shows_again l.shares l.orders k)) (take l.place-index l.place-items);
      again : l.again.items ≡ filter (shows_again l.shares l.orders) (take l.place-index l.place-items);
    }
