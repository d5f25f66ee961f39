use Rattle.std.proofs.Common.{rules}
use Rattle.std.proofs.Output.{has_written_append, has_written_of_eq}
use Rattle.script.proofs.Spaced.{spaced_more}
use Rattle.script.proofs.answer.write_shares.Goals as goal

pub loop-share-preserved : goal.loop-share-preserved
loop-share-preserved g c plain =
    has_written_of_eq _ _ _ _ _ (spaced_more c.args.shares.now c.loop-share.share-index c.loop-share-test.true) (has_written_append _ _ _ _ _ _ (c.loop-share.invariant plain) (search rules))
