-- Where a reader stands.
use Rattle.std.specs.Prelude.{vec_items}
use Rattle.pile.specs.Piles.{pile_makeup}
use Rattle.reader.specs.declared.ScriptReader.{ScriptReader}
use Rattle.reader.specs.Transcript.{Standing}

-- where the reading of its script stands
abbrev pub standing : ScriptReader → Standing
standing reader =
    record {
      echo = reader.echo;
      makeup = pile_makeup reader.session.pile;
      lines = reader.session.lines;
      line = vec_items reader.line.bytes;
    }
