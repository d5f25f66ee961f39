use Rattle.std.proofs.Common.{◌≡◌, ◌++◌, take, drop}
use Rattle.sharing.specs.Missing.{hand_out}
use Rattle.sharing.proofs.request.Request.hand_out.Given as goal

abbrev pub invariant-loop-i : goal.invariant-loop-i
invariant-loop-i l =
    take l.i l.parts ++ hand_out (drop l.i l.self.sums.now) (drop l.i l.parts) l.left ≡ hand_out l.self.sums.now l.initial.parts l.missing
