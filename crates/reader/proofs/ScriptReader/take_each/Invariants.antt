use Rattle.std.proofs.Common.{take, vec_items}
use Rattle.reader.specs.Standings.{standing}
use Rattle.reader.specs.Transcript.{Fed}
use Rattle.reader.proofs.ScriptReader.take_each.Given as goal

abbrev pub invariant-loop-byte : goal.invariant-loop-byte
invariant-loop-byte l =
    Fed (standing l.initial.self) (take l.byte-index l.bytes) (vec_items l.initial.out) (vec_items l.out) (standing l.self)
