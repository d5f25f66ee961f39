use Rattle.orders.proofs.Facts.{admissible_facts}
use Rattle.orders.proofs.theorems.admissible_facts_hold.Goals as goal

pub returns : goal.returns
returns c = admissible_facts
