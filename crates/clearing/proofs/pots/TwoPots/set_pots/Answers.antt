use Rattle.std.proofs.Common.{◌≡◌, ◌+◌, true, ltb, leb, eqb, sym, ap, ◌∙◌, arith}
use Rattle.std.proofs.lemmas.Bool.{eqb-true}
use Rattle.clearing.specs.Accounts.{account_of}
use Rattle.clearing.specs.Book.{with_free}
use Rattle.clearing.specs.Lines.{line_free}
use Rattle.clearing.specs.Pots.{Pots}
use Rattle.clearing.specs.Purses.{none_purse, purse_held}
use Rattle.clearing.specs.Seats.{seated}
use Rattle.clearing.specs.TwoPots.{pots_of, purse_pots}
use Rattle.clearing.proofs.Choices.{ap_cond-fits}
use Rattle.clearing.proofs.Seating.{book_of-opened}
use Rattle.clearing.proofs.pots.TwoPots.set_pots.Goals as goal

pub returns-clause-after : goal.returns-clause-after
unfolding pots_of
returns-clause-after c =
    let purses = account_of none_purse c.args.self.now.purses in
    let p = c.args.participant in
    let m = c.args.money in
    let s = c.args.securities in
    let purse = c.in_ok-new.field-0 in
    let in_money = c.in_ok-new.ensures.money in
    let in_securities = c.in_ok-new.ensures.securities in
    let set : Pots = record { money = with_free (purse_pots purses).money p m; securities = with_free (purse_pots purses).securities p s } in
    let opened : eqb (purse_held (purses p)) 0 ≡ true → purse_pots (seated purses p purse) ≡ set =
    λ h i. record {
      money = book_of-opened (λ u. line_free u.money) (λ u. u.money.held) purses p purse m (omega arith) in_money.1 (omega (arith, eqb-true _ _ h)) i;
      securities = book_of-opened (λ u. line_free u.securities) (λ u. u.securities.held) purses p purse s (omega arith) in_securities.1 (omega (arith, eqb-true _ _ h)) i;
    }
    in
    ap purse_pots c.open.ensures.after
    ∙ ap_cond-fits purse_pots (seated purses p purse) purses set (ltb p 64) (leb (m + s) 1000000000) (eqb (purse_held (purses p)) 0) (sym c.in_ok-new.ensures.fits) opened
