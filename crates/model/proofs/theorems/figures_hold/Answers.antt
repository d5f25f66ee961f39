use Rattle.model.proofs.Figured.{figures}
use Rattle.model.proofs.theorems.figures_hold.Goals as goal

pub returns : goal.returns
returns c = figures c.figures_hold.ensures
