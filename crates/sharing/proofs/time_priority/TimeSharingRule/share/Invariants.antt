use Rattle.sharing.specs.Time.{time_shares}
use Rattle.sharing.proofs.time_priority.TimeSharingRule.share.Given as goal

abbrev pub ghost-answer : goal.ghost-answer
ghost-answer a = time_shares
