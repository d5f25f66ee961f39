-- Lots taken from two pots and put back into them.
use Rattle.std.proofs.Common.{◌≡◌, ℕ, ◌+◌, ◌-◌, ◌≤◌, min, cond, ltb, leb, arith}
use Rattle.std.proofs.lemmas.Bool.{leb-true, and_parts}
use Rattle.clearing.specs.Book.{can_reserve, can_release}
use Rattle.clearing.specs.Lines.{line_free}
use Rattle.clearing.specs.Pots.{joint, drawn, refilled}
use Rattle.clearing.specs.Purses.{purse_free, purse_held, purse_holding, purse_letting_go}
use Rattle.clearing.specs.Seats.{seated}
use Rattle.clearing.specs.TwoPots.{purse_pots}
use Rattle.clearing.specs.declared.purse.Purse.{Purse}
use Rattle.clearing.proofs.Choices.{ap_cond}
use Rattle.clearing.proofs.Seating.{book_of-seated}

module _ (f : ℕ → Purse) (p n : ℕ) where
  -- a purse from which n lots were taken
  purse_pots-drawn : n ≤ purse_free (f p) → purse_pots (seated f p (purse_holding (f p) n)) ≡ drawn (purse_pots f) p n
  purse_pots-drawn enough =
      let money = (f p).money in
      let securities = (f p).securities in
      let in_money = money.within.0 in
      let in_securities = securities.within.0 in
      let after = purse_holding (f p) n in
      let from_money = min n (line_free money) in
      let lacks = n - line_free money in
      λ i. record {
        money = book_of-seated (λ u. line_free u.money) (λ u. u.money.held) f p after (line_free money - from_money) (money.held + from_money) (omega arith) (omega arith) i;
        securities = book_of-seated (λ u. line_free u.securities) (λ u. u.securities.held) f p after (line_free securities - lacks) (securities.held + lacks) (omega arith) (omega arith) i;
      }

  -- a purse into which n lots were put back
  purse_pots-refilled : n ≤ purse_held (f p) → purse_pots (seated f p (purse_letting_go (f p) n)) ≡ refilled (purse_pots f) p n
  purse_pots-refilled enough =
      let money = (f p).money in
      let securities = (f p).securities in
      let in_money = money.within.0 in
      let in_securities = securities.within.0 in
      let after = purse_letting_go (f p) n in
      let to_securities = min n securities.held in
      let over = n - securities.held in
      λ i. record {
        money = book_of-seated (λ u. line_free u.money) (λ u. u.money.held) f p after (line_free money + over) (money.held - over) (omega arith) (omega arith) i;
        securities = book_of-seated (λ u. line_free u.securities) (λ u. u.securities.held) f p after (line_free securities + to_securities) (securities.held - to_securities) (omega arith) (omega arith) i;
      }

  -- the pots after n lots were asked for
  pub purse_pots-reserved : let can = can_reserve (joint (purse_pots f)) p n in purse_pots (cond can (seated f p (purse_holding (f p) n)) f) ≡ cond can (drawn (purse_pots f) p n) (purse_pots f)
  purse_pots-reserved = ap_cond purse_pots _ f _ (can_reserve (joint (purse_pots f)) p n) (λ yes. purse_pots-drawn (leb-true n (purse_free (f p)) (and_parts (ltb p 64) (leb n (purse_free (f p))) yes).1))

  -- the pots after n lots were to be put back
  pub purse_pots-released : let can = can_release (joint (purse_pots f)) p n in purse_pots (cond can (seated f p (purse_letting_go (f p) n)) f) ≡ cond can (refilled (purse_pots f) p n) (purse_pots f)
  purse_pots-released = ap_cond purse_pots _ f _ (can_release (joint (purse_pots f)) p n) (λ yes. purse_pots-refilled (leb-true n (purse_held (f p)) (and_parts (ltb p 64) (leb n (purse_held (f p))) yes).1))
