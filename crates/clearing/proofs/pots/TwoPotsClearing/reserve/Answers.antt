use Rattle.std.proofs.Common.{refl, ap, ◌∙◌}
use Rattle.clearing.specs.Accounts.{account_of}
use Rattle.clearing.specs.Book.{can_reserve}
use Rattle.clearing.specs.Makeup.{pots}
use Rattle.clearing.specs.Pots.{joint, drawn}
use Rattle.clearing.specs.Purses.{none_purse}
use Rattle.clearing.specs.TwoPots.{pots_of, purse_pots}
use Rattle.clearing.proofs.Choices.{ap_cond}
use Rattle.clearing.proofs.Drawn.{purse_pots-reserved}
use Rattle.clearing.proofs.pots.TwoPotsClearing.reserve.Goals as goal

pub returns-clause-pots : goal.returns-clause-pots
unfolding pots_of
returns-clause-pots c = ap purse_pots c.reserve.ensures.accounts ∙ purse_pots-reserved (account_of none_purse c.args.self.now.purses) c.args.participant c.args.lots

pub returns-clause-inside : goal.returns-clause-inside
unfolding pots_of
returns-clause-inside c =
    let t = pots_of c.args.self.now in
    let p = c.args.participant in
    let n = c.args.lots in
    ap pots (returns-clause-pots c) ∙ ap_cond pots (drawn t p n) t (pots (drawn t p n)) (can_reserve (joint t) p n) (λ _. refl)
