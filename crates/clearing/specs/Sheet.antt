-- A limit sheet as a book.
use Rattle.std.specs.Prelude.{ℕ, ◌-◌, cond, nat_lt}
use Rattle.clearing.specs.Accounts.{account_of, book_of}
use Rattle.clearing.specs.Book.{Book}
use Rattle.clearing.specs.Lines.{none, line_free, line_held}
use Rattle.clearing.specs.declared.line.Line.{Line}
use Rattle.clearing.specs.declared.sheet.LimitSheet.{LimitSheet}

-- each participant's line as a book: free is the limit less held
abbrev pub line_book : (ℕ → Line) → Book
line_book lines = book_of line_free line_held lines

-- a sheet's lines as a book
unfoldable pub sheet_book : LimitSheet → Book
sheet_book s = line_book (account_of none s.lines)

-- the same line for participants 0 to 63
abbrev pub uniform : Line → Book
uniform line =
    record { free = λ p. cond (nat_lt p 64) (line.limit - line.held) 0; held = λ p. cond (nat_lt p 64) line.held 0 }
