use Rattle.std.proofs.Common.{◌≡◌, ltb, refl, ap, ◌∙◌}
use Rattle.clearing.specs.Accounts.{alike}
use Rattle.clearing.specs.Lines.{none, line_free, line_held}
use Rattle.clearing.specs.Sheet.{sheet_book, line_book, uniform}
use Rattle.clearing.specs.declared.line.Line.{Line}
use Rattle.clearing.proofs.Choices.{ap_cond}
use Rattle.clearing.proofs.sheet.LimitSheet.with_line.Goals as goal

same_line : (line : Line) → line_book (alike none line) ≡ uniform line
same_line line =
    λ i. record {
      free = λ p. ap_cond line_free line none (line_free line) (ltb p 64) (λ _. refl) i;
      held = λ p. ap_cond line_held line none (line_held line) (ltb p 64) (λ _. refl) i;
    }

pub returns : goal.returns
unfolding sheet_book
returns c = ap line_book c.each.ensures ∙ same_line c.args.line
