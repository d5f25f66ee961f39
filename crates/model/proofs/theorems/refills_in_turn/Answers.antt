use Rattle.model.proofs.Refilled.{refills_in_turn}
use Rattle.model.proofs.theorems.refills_in_turn.Goals as goal

pub returns : goal.returns
returns c = refills_in_turn
