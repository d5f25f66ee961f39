use Rattle.sharing.specs.Levels.{level_greatest}
use Rattle.sharing.proofs.theorems.level_is_greatest.Goals as goal

pub returns : goal.returns
returns c = level_greatest
