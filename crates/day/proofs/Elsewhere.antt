-- Calls that are handed a register of another length than the settings say.
use mathlib.Core.List.{List}
use mathlib.Core.Path.{◌≡◌, ap, sym, subst}
use Rattle.orders.specs.declared.kinds.Row.{Row}
use Rattle.model.proofs.Handed.{refused_length}
use Rattle.model.specs.Calls.{Call}
use Rattle.model.specs.Days.{World, Outcome}
use Rattle.model.specs.Runs.{Extends}

-- a world with another register
abbrev pub over : List Row → World → World
over register w = record { day = w.day; register = register; cover = w.cover }

-- a call that changes nothing goes on with a list over any other register
pub extends_over : (c : Call) (w : World) (o : Outcome) (other : List Row) → o ≡ refused_length w → Extends c (over other w) (over other w) → Extends c (over other w) (over other o.world)
extends_over c w o other refuses goes = subst (Extends c (over other w)) (ap (λ (x : Outcome). over other x.world) (sym refuses)) goes
