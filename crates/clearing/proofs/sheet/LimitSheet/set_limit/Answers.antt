use Rattle.std.proofs.Common.{◌≡◌, true, ltb, leb, eqb, sym, ap, ◌∙◌, arith}
use Rattle.std.proofs.lemmas.Bool.{eqb-true}
use Rattle.clearing.specs.Accounts.{account_of}
use Rattle.clearing.specs.Book.{with_free}
use Rattle.clearing.specs.Lines.{none, line_free, line_held}
use Rattle.clearing.specs.Seats.{seated}
use Rattle.clearing.specs.Sheet.{sheet_book, line_book}
use Rattle.clearing.proofs.Choices.{ap_cond-fits}
use Rattle.clearing.proofs.Seating.{book_of-opened}
use Rattle.clearing.proofs.sheet.LimitSheet.set_limit.Goals as goal

pub returns-clause-after : goal.returns-clause-after
unfolding sheet_book
returns-clause-after c =
    let lines = account_of none c.args.self.now.lines in
    let p = c.args.participant in
    let line = c.in_ok-new.field-0 in
    let is_limit = c.in_ok-new.ensures.line.0 in
    let is_held = c.in_ok-new.ensures.line.1 in
    let opened = λ (h : eqb (line_held (lines p)) 0 ≡ true). book_of-opened line_free line_held lines p line c.args.limit (omega arith) is_held (eqb-true _ _ h) in
    ap line_book c.open.ensures.after
    ∙ ap_cond-fits line_book (seated lines p line) lines (with_free (line_book lines) p c.args.limit) (ltb p 64) (leb c.args.limit 1000000000) (eqb (line_held (lines p)) 0) (sym c.in_ok-new.ensures.fits) opened
