-- A line as an account: a limit, and what is held of it.
use Rattle.std.specs.Prelude.{ℕ, ◌+◌, ◌-◌, min}
use Rattle.std.proofs.Common.{arith, zero-le}
use Rattle.clearing.specs.declared.line.Line.{Line}

-- a line with nothing in it
abbrev pub none : Line
none = record { limit = 0; held = 0; within = (zero-le, zero-le) }

-- what is free of a line's limit
abbrev pub line_free : Line → ℕ
line_free line = line.limit - line.held

-- what is held of a line's limit
abbrev pub line_held : Line → ℕ
line_held line = line.held

-- a line with n lots more held, at most its limit
abbrev pub line_holding : Line → ℕ → Line
line_holding line n =
    record {
      limit = line.limit;
      held = min (line.held + n) line.limit;
      within = (omega arith, line.within.1);
    }

-- a line with n lots fewer held
abbrev pub line_letting_go : Line → ℕ → Line
line_letting_go line n =
    record {
      limit = line.limit;
      held = line.held - n;
      within = (omega (arith, line.within.0), line.within.1);
    }
