use Rattle.std.proofs.Common.{◌≡◌, []}
use Rattle.desk.specs.Matching.{market_of}
use Rattle.desk.proofs.Underway.{Underway}
use Rattle.desk.proofs.matching.Entering.meet.Given as goal

abbrev pub invariant-loop-left : goal.invariant-loop-left
invariant-loop-left g l =
    record {
      same : l.rows.all.ghost_name ≡ l.initial.rows.all.ghost_name;
      underway :
          Underway (g.R.SharingRule.shares l.rule) l.self.settings l.self.terms l.self.number
          (market_of l.initial.orders l.initial.queue []) l.initial.rows.all.now l.left l.orders l.queue l.rows.all.now l.rows.made;
    }

abbrev pub decreases-loop-left : goal.decreases-loop-left
decreases-loop-left g l = l.left
