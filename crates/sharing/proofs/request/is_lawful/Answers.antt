use Rattle.std.proofs.Common.{rules}
use Rattle.sharing.proofs.Bounds.{visible_fit}
use Rattle.sharing.proofs.request.is_lawful.Goals as goal

pub total-requires : goal.total-requires
total-requires c = search (rules, visible_fit)
