use Rattle.std.proofs.Common.{length}
use Rattle.desk.proofs.Spreading.{Spread}
use Rattle.desk.proofs.matching.shares.spread.Given as goal

abbrev pub invariant-loop-place : goal.invariant-loop-place
invariant-loop-place l = Spread l.places l.shares (length l.yielded) l.by_place
