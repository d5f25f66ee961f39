use Rattle.model.proofs.Laws.{every_list}
use Rattle.model.proofs.theorems.every_list_obeys.Goals as goal

pub returns : goal.returns
returns c = every_list
