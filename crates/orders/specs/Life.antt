-- The life of an order.
use Rattle.std.specs.Prelude.{cond, ◌==◌}
use Rattle.orders.specs.declared.kinds.State.{State}
use Rattle.orders.specs.declared.kinds.State.TheVariants.{Done, Waiting, Active}
use Rattle.orders.specs.declared.lifecycle.Event.{Event}
use Rattle.orders.specs.declared.lifecycle.Event.TheVariants.{Activation, Conclusion, Withdrawal, Close}

-- a waiting order becomes active; an active one with no lots left is done; a withdrawal or the close ends either
abbrev pub next_state : State → Event → State
next_state Waiting Activation = Active
next_state Waiting (Conclusion left) = Waiting
next_state Waiting Withdrawal = Done
next_state Waiting Close = Done
next_state Active Activation = Active
next_state Active (Conclusion left) = cond (left == 0) Done Active
next_state Active Withdrawal = Done
next_state Active Close = Done
next_state Done Activation = Done
next_state Done (Conclusion left) = Done
next_state Done Withdrawal = Done
next_state Done Close = Done
