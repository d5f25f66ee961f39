-- Those that show lots again in a round, and the others, each in the order in which they stood.
use Rattle.std.proofs.Common.{◌≡◌, ℕ, ◌<◌, ◌≤◌, Bool, true, false, cond, not, eqb, ◌⊎◌, List, ◌++◌, length, filter, sym, refl, ap, ◌∙◌, ap₂, inl, inr, zero-add, arith}
use mathlib.Core.Path.{fun_ext}
use Rattle.std.proofs.Math.Bool.{not-not}
use Rattle.std.proofs.lemmas.List.{get_or_past}
use Rattle.std.proofs.lemmas.Bool.{cases_lt}
use Rattle.std.proofs.lemmas.Bool.Decides.{nat_tests}
use Rattle.orders.specs.Visible.{visible_sum}
use Rattle.orders.specs.declared.kinds.Order.{Order}
use Rattle.model.specs.Market.{none, order_at, front, visible_at}
use Rattle.model.specs.Refills.{Plain, RefillsInTurn}
use Rattle.model.specs.Rounds.{share_at, concluded, spent, shown_again, refills, after_share, each_from, after_round, round, round_lots}
use Rattle.model.proofs.OneOrder.{visible_some}
use Rattle.model.proofs.Places.{each_at, each_length}

-- hidden lots stay exactly where none are shown again
hidden_same : (n : ℕ) (o : Order) → Plain o → eqb (after_share n o).hidden o.hidden ≡ not (refills n o)
hidden_same n o plain = by (eqb n 0) refl
  where
    spends : (b : Bool) → spent (concluded n o) ≡ b → eqb n 0 ≡ false → eqb (cond b (shown_again (concluded n o)) (concluded n o)).hidden o.hidden ≡ not (refills n o)
    spends true e some =
        let v : 1 ≤ visible_sum o.terms.sum o.terms.percent = visible_some o.terms.sum o.terms.percent plain.0 plain.1 in
        grind (arith, nat_tests)
    spends false e some = grind (arith, nat_tests)

    by : (b : Bool) → eqb n 0 ≡ b → eqb (after_share n o).hidden o.hidden ≡ not (refills n o)
    by true e = rw e (grind (arith, nat_tests))
    by false e = rw e (spends (spent (concluded n o)) refl e)

-- where no order stands, nothing is shown again
none_refills : (n : ℕ) → not (refills n none) ≡ true
none_refills n = grind (arith, nat_tests)

-- the same at every place, also where no order stands
same_at : (cs shares : List ℕ) (orders : List Order) → ((k : ℕ) → k < length orders → Plain (order_at orders k)) → (k : ℕ)
    → eqb (order_at (each_from (λ j o. after_share (share_at j cs shares) o) 0 orders) k).hidden (order_at orders k).hidden ≡ not (refills (share_at k cs shares) (order_at orders k))
same_at cs shares orders plain k = by (cases_lt k (length orders))
  where
    by : (k < length orders) ⊎ (length orders ≤ k) → eqb (order_at (each_from (λ j o. after_share (share_at j cs shares) o) 0 orders) k).hidden (order_at orders k).hidden ≡ not (refills (share_at k cs shares) (order_at orders k))
    by (inl inside) =
        ap (λ (o : Order). eqb o.hidden (order_at orders k).hidden) (each_at (λ j o. after_share (share_at j cs shares) o) 0 orders k inside)
        ∙ ap (λ (j : ℕ). eqb (after_share (share_at j cs shares) (order_at orders k)).hidden (order_at orders k).hidden) (zero-add k)
        ∙ hidden_same (share_at k cs shares) (order_at orders k) (plain k inside)
    by (inr past) =
        ap₂ (λ (o q : Order). eqb o.hidden q.hidden) (get_or_past (each_from (λ j o. after_share (share_at j cs shares) o) 0 orders) k none (rw (each_length (λ j o. after_share (share_at j cs shares) o) 0 orders) past)) (get_or_past orders k none past)
        ∙ sym (none_refills (share_at k cs shares))
        ∙ ap (λ (o : Order). not (refills (share_at k cs shares) o)) (sym (get_or_past orders k none past))

-- the queue after a round
pub refills_in_turn : RefillsInTurn
unfolding round after_round
refills_in_turn rule s e n left m plain =
    let cs : List ℕ = front s e m in
    let shares : List ℕ = rule (visible_at m.orders cs) (round_lots s e left m) in
    let after : List Order = each_from (λ j o. after_share (share_at j cs shares) o) 0 m.orders in
    let stays : (λ (k : ℕ). not (refills (share_at k cs shares) (order_at m.orders k))) ≡ (λ k. eqb (order_at after k).hidden (order_at m.orders k).hidden) =
    fun_ext (λ k. sym (same_at cs shares m.orders plain k)) in
    let goes : (λ (k : ℕ). refills (share_at k cs shares) (order_at m.orders k)) ≡ (λ k. not (eqb (order_at after k).hidden (order_at m.orders k).hidden)) =
    fun_ext (λ k. sym (not-not (refills (share_at k cs shares) (order_at m.orders k))) ∙ ap not (sym (same_at cs shares m.orders plain k))) in
    ap₂ (λ (p q : ℕ → Bool). filter p m.queue ++ filter q m.queue) stays goes
