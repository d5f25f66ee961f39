use Rattle.sharing.proofs.Bounds.{lawful_fit}
use Rattle.sharing.proofs.request.Request.new.Goals as goal

pub invariant_of-result-clause-fits : goal.invariant_of-result-clause-fits
invariant_of-result-clause-fits c = lawful_fit c.args.sums.now c.args.lots (c.is_lawful.ensures.0 c.if-is_lawful.true)
