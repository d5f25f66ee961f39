use Rattle.orders.proofs.Sets.{one_security}
use Rattle.orders.proofs.theorems.one_security_holds.Goals as goal

pub returns : goal.returns
returns c = one_security
