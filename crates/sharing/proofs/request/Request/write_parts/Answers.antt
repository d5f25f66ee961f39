use Rattle.std.proofs.Common.{◌≡◌, ℕ, arith, slice_index_or}
use Rattle.std.proofs.lemmas.List.{get_or_default, take_more_set}
use Rattle.std.proofs.lemmas.List.Elements.{all_zip_more}
use Rattle.sharing.proofs.request.Request.write_parts.Goals as goal

pub loop-i-preserved : goal.loop-i-preserved
loop-i-preserved g c =
    let v : ℕ = slice_index_or c.args.self.now.sums.now c.loop-i.i 0 in
    let same : v ≡ slice_index_or c.args.self.now.sums.now c.loop-i.i v = get_or_default c.args.self.now.sums.now c.loop-i.i 0 v (omega arith) in
    rw (take_more_set c.loop-i.out c.loop-i.i c.part_of.result (omega arith))
    (all_zip_more _ _ _ c.loop-i.i v _ (omega arith) same c.loop-i.invariant c.part_of.ensures)
