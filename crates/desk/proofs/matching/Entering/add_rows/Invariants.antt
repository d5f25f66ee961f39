use Rattle.std.proofs.Common.{◌≡◌, length, take}
use Rattle.model.specs.Rows.{add_rows}
use Rattle.desk.proofs.AddingRows.{Adding}
use Rattle.desk.proofs.matching.Entering.add_rows.Given as goal

abbrev pub invariant-loop-place : goal.invariant-loop-place
invariant-loop-place l =
    record {
      same : l.rows.all.ghost_name ≡ l.initial.rows.all.ghost_name;
      adding :
          Adding l.self.settings l.self.terms.direction l.self.number l.orders l.places l.shares l.initial.rows.all.now
          (add_rows l.self.settings l.self.terms.direction l.self.number l.orders l.places l.shares (take l.initial.rows.made l.initial.rows.all.now)) (length l.yielded) l.rows.all.now l.rows.made;
    }
