use Rattle.std.proofs.Common.{◌≤◌, sum, subst, arith}
use Rattle.sharing.specs.Parity.{capped}
use Rattle.sharing.specs.Levels.{level_greatest}
use Rattle.sharing.proofs.request.Request.level.Goals as goal

pub loop-low-init : goal.loop-low-init
loop-low-init c = omega (arith, (level_greatest c.args.self.now.sums.now c.args.self.now.lots).bound)

pub returns-clause-fits : goal.returns-clause-fits
returns-clause-fits c =
    subst (λ t. sum (capped c.args.self.now.sums.now t) ≤ c.args.self.now.lots) (omega arith) (level_greatest c.args.self.now.sums.now c.args.self.now.lots).fits
