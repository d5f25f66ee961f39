use Rattle.std.proofs.Common.{arith}
use Rattle.std.proofs.lemmas.Bool.Decides.{nat_tests}
use Rattle.std.proofs.lemmas.Grind.{common_steps}
use Rattle.desk.specs.Matching.{with_share}
use Rattle.desk.proofs.matching.Entering.add_share.Goals as goal

pub add-requires-clause-room : goal.add-requires-clause-room
unfolding with_share
add-requires-clause-room c = grind (arith, nat_tests, common_steps)

pub returns-then-lots-gt0-clause-rows : goal.returns-then-lots-gt0-clause-rows
unfolding with_share
returns-then-lots-gt0-clause-rows c = grind (arith, nat_tests, common_steps)

pub returns-else-lots-gt0-clause-rows : goal.returns-else-lots-gt0-clause-rows
unfolding with_share
returns-else-lots-gt0-clause-rows c = grind (arith, nat_tests, common_steps)
