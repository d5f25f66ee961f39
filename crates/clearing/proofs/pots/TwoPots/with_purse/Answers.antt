use Rattle.std.proofs.Common.{◌≡◌, ltb, refl, ap, ◌∙◌}
use Rattle.clearing.specs.Accounts.{alike}
use Rattle.clearing.specs.Lines.{line_free}
use Rattle.clearing.specs.Purses.{none_purse}
use Rattle.clearing.specs.TwoPots.{pots_of, purse_pots, uniform_pots}
use Rattle.clearing.specs.declared.purse.Purse.{Purse}
use Rattle.clearing.proofs.Choices.{ap_cond}
use Rattle.clearing.proofs.pots.TwoPots.with_purse.Goals as goal

same_purse : (purse : Purse) → purse_pots (alike none_purse purse) ≡ uniform_pots purse
same_purse purse =
    λ i. record {
      money =
          record {
            free = λ p. ap_cond (λ u. line_free u.money) purse none_purse (line_free purse.money) (ltb p 64) (λ _. refl) i;
            held = λ p. ap_cond (λ u. u.money.held) purse none_purse purse.money.held (ltb p 64) (λ _. refl) i;
          };
      securities =
          record {
            free = λ p. ap_cond (λ u. line_free u.securities) purse none_purse (line_free purse.securities) (ltb p 64) (λ _. refl) i;
            held = λ p. ap_cond (λ u. u.securities.held) purse none_purse purse.securities.held (ltb p 64) (λ _. refl) i;
          };
    }

pub returns : goal.returns
unfolding pots_of
returns c = ap purse_pots c.each.ensures ∙ same_purse c.args.purse
