use Rattle.std.proofs.Common.{◌≡◌, ◌++◌, take, drop}
use Rattle.sharing.specs.Time.{time_shares}
use Rattle.sharing.proofs.request.Request.take_in_turn.Given as goal

abbrev pub invariant-loop-i : goal.invariant-loop-i
invariant-loop-i l = take l.i l.out ++ time_shares (drop l.i l.self.sums.now) l.left ≡ time_shares l.self.sums.now l.self.lots
