use Rattle.std.proofs.Common.{take}
use Rattle.std.specs.List.{AllZip}
use Rattle.sharing.proofs.request.Request.write_parts.Given as goal

abbrev pub invariant-loop-i : goal.invariant-loop-i
invariant-loop-i g l = AllZip (goal.F-post g l.part_of) (take l.i l.self.sums.now) (take l.i l.out)
