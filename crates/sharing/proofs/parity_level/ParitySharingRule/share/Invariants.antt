use Rattle.sharing.specs.Parity.{parity_shares}
use Rattle.sharing.proofs.parity_level.ParitySharingRule.share.Given as goal

abbrev pub ghost-answer : goal.ghost-answer
ghost-answer a = parity_shares
