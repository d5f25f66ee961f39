use Rattle.std.proofs.Common.{vec_items}
use Rattle.reader.specs.Standings.{standing}
use Rattle.reader.proofs.Feeding.{fed_none, fed_more}
use Rattle.reader.proofs.ScriptReader.take_each.Goals as goal

pub loop-byte-init : goal.loop-byte-init
loop-byte-init c = fed_none (standing c.args.self.now) c.args.bytes.now (vec_items c.args.out.now)

pub loop-byte-preserved : goal.loop-byte-preserved
loop-byte-preserved c =
    fed_more (standing c.args.self.now) c.args.bytes.now (vec_items c.args.out.now) c.loop-byte.byte-index (vec_items c.loop-byte.out) (standing c.loop-byte.self) (vec_items c.take.new.out) (standing c.take.new.self) c.loop-byte-test.true c.loop-byte.invariant c.in_ok-take.ensures
