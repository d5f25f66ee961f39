use Rattle.std.proofs.Common.{◌≡◌, map, vec_items, decimal}
use Rattle.std.specs.List.{AllByRecursion}
use Rattle.script.proofs.Listed.{Small}
use Rattle.script.proofs.form.NumbersWritten.read.Given as goal

abbrev pub invariant-loop-word : goal.invariant-loop-word
invariant-loop-word l =
    AllByRecursion Small (vec_items l.all) × (map decimal (vec_items l.all) ≡ map (λ word. word.now) l.yielded)
