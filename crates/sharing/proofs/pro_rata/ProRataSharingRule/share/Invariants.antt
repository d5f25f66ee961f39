use Rattle.sharing.specs.ProRata.{pro_rata_shares}
use Rattle.sharing.proofs.pro_rata.ProRataSharingRule.share.Given as goal

abbrev pub ghost-answer : goal.ghost-answer
ghost-answer a = pro_rata_shares
