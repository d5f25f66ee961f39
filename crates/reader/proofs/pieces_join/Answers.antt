use Rattle.reader.proofs.Feeding.{feeds_then}
use Rattle.reader.proofs.pieces_join.Goals as goal

pub returns : goal.returns
returns c = feeds_then
