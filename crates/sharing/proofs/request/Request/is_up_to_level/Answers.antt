use Rattle.sharing.specs.Levels.{level_test}
use Rattle.sharing.proofs.request.Request.is_up_to_level.Goals as goal

pub returns : goal.returns
returns c = cc (level_test c.args.self.now.sums.now c.args.self.now.lots c.args.t c.requires)
