use Rattle.desk.specs.Worlds.{world_of}
use Rattle.desk.proofs.Activations.{Ahead}
use Rattle.desk.proofs.desk.Desk.activate_each.Given as goal

abbrev pub invariant-loop-place : goal.invariant-loop-place
invariant-loop-place g l =
    Ahead (g.R.SharingRule.shares l.rule) l.places (world_of l.initial.self.state l.initial.register (g.C.Clearing.book l.initial.clearing)) (g.C.Clearing.makeup l.initial.clearing)
    l.place-index l.lots (world_of l.self.state l.register (g.C.Clearing.book l.clearing)) (g.C.Clearing.makeup l.clearing)
