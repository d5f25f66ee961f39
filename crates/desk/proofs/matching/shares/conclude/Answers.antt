use Rattle.std.proofs.Common.{slice_index, ap, ◌∙◌, arith}
use Rattle.std.proofs.lemmas.List.{get_or-set_other}
use Rattle.model.specs.Market.{none}
use Rattle.model.specs.Rounds.{after_share}
use Rattle.desk.proofs.Concluding.{changed_more, each_changed}
use Rattle.desk.proofs.matching.shares.conclude.Goals as goal

pub loop-k-preserved : goal.loop-k-preserved
loop-k-preserved c = record {
  done =
      changed_more (λ k o. after_share (slice_index c.args.shares.now k) o) c.args.orders.now c.loop-k.orders c.loop-k.k c.after_share.result (omega arith)
      c.loop-k.invariant.done
      (c.after_share.ensures ∙ ap (after_share (slice_index c.args.shares.now c.loop-k.k)) (c.loop-k.invariant.coming c.loop-k.k (omega arith)));
  coming = λ k past. get_or-set_other c.loop-k.orders c.loop-k.k k c.after_share.result none (omega arith) ∙ c.loop-k.invariant.coming k (omega arith);
}

pub returns : goal.returns
returns c =
    each_changed (λ k o. after_share (slice_index c.args.shares.now k) o) c.args.orders.now c.loop-k.orders (omega arith)
    (λ k inside. c.loop-k.invariant.done k (omega arith))
