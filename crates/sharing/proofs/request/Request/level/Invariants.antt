use Rattle.std.proofs.Common.{◌-◌, ◌≤◌}
use Rattle.sharing.specs.Parity.{level}
use Rattle.sharing.proofs.request.Request.level.Given as goal

-- the level is from low to high
abbrev pub invariant-loop-low : goal.invariant-loop-low
invariant-loop-low l = (l.low ≤ level l.self.sums.now l.self.lots) × (level l.self.sums.now l.self.lots ≤ l.high) × (l.high ≤ 1000000)

abbrev pub decreases-loop-low : goal.decreases-loop-low
decreases-loop-low l = l.high - l.low
