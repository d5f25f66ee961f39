use mathlib.Core.Path.{sym, subst}
use Rattle.model.proofs.Reached.{reached_opened}
use Rattle.model.specs.Reach.{Reached}
use Rattle.day.proofs.open_day.OpenDay.open.Goals as goal

pub invariant_of-result : goal.invariant_of-result
invariant_of-result c = record { reached = subst Reached (sym c.open-desk.ensures) (reached_opened c.args.settings) }
