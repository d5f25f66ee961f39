-- One order and its share of a round.
use Rattle.std.proofs.Common.{◌≡◌, ℕ, zero, suc, ◌+◌, ◌-◌, ◌<◌, ◌≤◌, Bool, true, false, cond, eqb, sym, refl, ap, ◌∙◌, arith}
use Rattle.std.proofs.lemmas.Bool.{cond-false, cond_both}
use Rattle.std.proofs.lemmas.Bool.Decides.{nat_tests}
use Rattle.orders.specs.Life.{next_state}
use Rattle.orders.specs.Visible.{visible_sum}
use Rattle.orders.specs.declared.kinds.Order.{Order}
use Rattle.orders.specs.declared.kinds.State.{State}
use Rattle.orders.specs.declared.kinds.State.TheVariants.{Done, Waiting, Active}
use Rattle.orders.specs.declared.lifecycle.Event.TheVariants.{Conclusion}
use Rattle.orders.proofs.Rounding.{visible_bounds}
use Rattle.model.specs.Entry.{Touched}
use Rattle.model.specs.Market.{lots_of}
use Rattle.model.specs.Rounds.{concluded, spent, shown_again, refills, after_share}
use Rattle.model.specs.Sound.{SoundOrder}

-- the visible sum is at least 1 and at most the sum
pub visible_some : (sum percent : ℕ) → 1 ≤ sum → percent ≤ 100 → 1 ≤ visible_sum sum percent
visible_some sum zero some most = some
visible_some sum (suc p) some most = (visible_bounds sum (suc p) some (omega arith) most).some

pub visible_within : (sum percent : ℕ) → visible_sum sum percent ≤ sum
visible_within sum percent = grind (arith, nat_tests)

-- an order after a share of n
pub record Shared (n : ℕ) (o after : Order) : Type 0 where
  pub touched : Touched n o after
  pub sound : SoundOrder o → SoundOrder after
  pub shows : refills n o ≡ true → after.hidden < o.hidden
  pub keeps : refills n o ≡ false → after.hidden ≡ o.hidden

pub untouched : (o : Order) → Touched 0 o o
untouched o = record {
  number = refl;
  owner = refl;
  terms = refl;
  withdrawn = refl;
  lots = omega arith;
  untouched = λ _. refl;
  ended = λ some. absurd (omega arith);
  goes_on = λ _. refl;
}

unshared : (o : Order) → Shared 0 o o
unshared o = record {
  touched = untouched o;
  sound = λ s. s;
  shows = λ e. let z : ◌≡◌ {A = ℕ} 0 1 = cc in absurd (omega arith);
  keeps = λ _. refl;
}

-- an active order after a conclusion
next_active : (s : State) (left : ℕ) → s ≡ Active → next_state s (Conclusion left) ≡ cond (eqb left 0) Done Active
next_active s left e = rw e refl

next_on : (s : State) (left : ℕ) → s ≡ Active → 1 ≤ left → next_state s (Conclusion left) ≡ Active
next_on s left e some = next_active s left e ∙ cond-false (eqb left 0) Done Active (grind (arith, nat_tests))

next_done : (s : State) (left : ℕ) → s ≡ Active → next_state s (Conclusion left) ≡ Done → left ≡ 0
next_done s zero e f = refl
next_done s (suc left) e f = let z : ◌≡◌ {A = ℕ} 0 1 = cc (next_on s (suc left) e (omega arith)) in absurd (omega arith)

next_never_waits : (s : State) (left : ℕ) → s ≡ Active → next_state s (Conclusion left) ≡ Waiting → ⊥
next_never_waits s zero e f = let z : ◌≡◌ {A = ℕ} 0 1 = cc (next_active s zero e) in omega arith
next_never_waits s (suc left) e f = let z : ◌≡◌ {A = ℕ} 0 1 = cc (next_on s (suc left) e (omega arith)) in omega arith

next_active_some : (s : State) (left : ℕ) → s ≡ Active → next_state s (Conclusion left) ≡ Active → 1 ≤ left
next_active_some s zero e f = let z : ◌≡◌ {A = ℕ} 0 1 = cc (next_active s zero e) in absurd (omega arith)
next_active_some s (suc left) e f = omega arith

-- its visible lots are spent, and it shows lots again
shared_again : (n : ℕ) (o : Order) → 1 ≤ n → n ≤ o.visible → SoundOrder o → o.state ≡ Active
    → spent (concluded n o) ≡ true → Shared n o (shown_again (concluded n o))
shared_again n o some within sound active is =
    let empty : o.visible - n ≡ 0 = grind (arith, nat_tests) in
    let more : 1 ≤ o.hidden = grind (arith, nat_tests) in
    let v : 1 ≤ visible_sum o.terms.sum o.terms.percent = visible_some o.terms.sum o.terms.percent sound.least sound.percent in
    let goes : next_state o.state (Conclusion ((o.visible - n) + o.hidden)) ≡ Active = next_on o.state _ active (omega arith) in
    let whole : lots_of o + o.withdrawn ≤ o.terms.sum = sound.whole in
    record {
      touched = record {
        number = refl;
        owner = refl;
        terms = refl;
        withdrawn = refl;
        lots = omega arith;
        untouched = λ e. absurd (omega arith);
        ended = λ _ e. absurd (omega arith);
        goes_on = λ _. goes ∙ sym active;
      };
      sound = λ _. record {
        least = sound.least;
        most = sound.most;
        percent = sound.percent;
        whole = omega arith;
        showing = λ _. omega arith;
        waiting = λ e. absurd (next_never_waits o.state _ active e);
        ended = λ e. let z : (o.visible - n) + o.hidden ≡ 0 = next_done o.state _ active e in absurd (omega arith);
      };
      shows = λ _. omega arith;
      keeps = λ e. let z : ◌≡◌ {A = ℕ} 0 1 = grind (arith, nat_tests) in absurd (omega arith);
    }

-- it has visible lots still, or none at all
shared_on : (n : ℕ) (o : Order) → 1 ≤ n → n ≤ o.visible → SoundOrder o → o.state ≡ Active
    → spent (concluded n o) ≡ false → Shared n o (concluded n o)
shared_on n o some within sound active is =
    let shows : (1 ≤ o.visible) × (o.visible ≤ visible_sum o.terms.sum o.terms.percent) = sound.showing active in
    let empty : o.visible - n ≡ 0 → o.hidden ≡ 0 = λ e. grind (arith, nat_tests) in
    let whole : lots_of o + o.withdrawn ≤ o.terms.sum = sound.whole in
    record {
      touched = record {
        number = refl;
        owner = refl;
        terms = refl;
        withdrawn = refl;
        lots = omega arith;
        untouched = λ e. absurd (omega arith);
        ended = λ _ e. rw e (next_active o.state 0 active);
        goes_on = λ lots. next_on o.state _ active lots ∙ sym active;
      };
      sound = λ _. record {
        least = sound.least;
        most = sound.most;
        percent = sound.percent;
        whole = omega arith;
        showing = λ e. let lots : 1 ≤ (o.visible - n) + o.hidden = next_active_some o.state _ active e in (grind (arith, nat_tests), omega arith);
        waiting = λ e. absurd (next_never_waits o.state _ active e);
        ended = λ e. next_done o.state _ active e;
      };
      shows = λ e. let z : ◌≡◌ {A = ℕ} 0 1 = grind (arith, nat_tests) in absurd (omega arith);
      keeps = λ _. refl;
    }

-- an order after its share: at most its visible lots, and only if it is sound and active
pub shared : (n : ℕ) (o : Order) → n ≤ o.visible → (1 ≤ n → SoundOrder o × (o.state ≡ Active)) → Shared n o (after_share n o)
shared zero o within if = unshared o
shared (suc p) o within if = by_spent (spent (concluded (suc p) o)) refl
  where
    some : 1 ≤ suc p
    some = omega arith

    is_none : eqb (suc p) 0 ≡ false
    is_none = grind (arith, nat_tests)

    by_spent : (b : Bool) → spent (concluded (suc p) o) ≡ b → Shared (suc p) o (after_share (suc p) o)
    by_spent true e = rw (is_none, e) (shared_again (suc p) o some within (if some).0 (if some).1 e)
    by_spent false e = rw (is_none, e) (shared_on (suc p) o some within (if some).0 (if some).1 e)

-- the terms are never touched
pub share_terms : (n : ℕ) (o : Order) → (after_share n o).terms ≡ o.terms
share_terms n o =
    cond_both (eqb n 0) o _ (λ x. x.terms ≡ o.terms) (λ _. refl)
    (λ _. cond_both (spent (concluded n o)) (shown_again (concluded n o)) (concluded n o) (λ x. x.terms ≡ o.terms) (λ _. refl) (λ _. refl))

-- two shares, one after the other
pub touched_more : (c n : ℕ) (o a b : Order) → Touched c o a → Touched n a b → Touched (c + n) o b
touched_more c n o a b s t = record {
  number = t.number ∙ s.number;
  owner = t.owner ∙ s.owner;
  terms = t.terms ∙ s.terms;
  withdrawn = t.withdrawn ∙ s.withdrawn;
  lots = omega arith;
  untouched = λ e. t.untouched (omega arith) ∙ s.untouched (omega arith);
  ended = λ some none. by_last n t some none;
  goes_on = λ some. t.goes_on some ∙ s.goes_on (omega arith);
}
  where
    by_last : (n : ℕ) → Touched n a b → 1 ≤ c + n → lots_of b ≡ 0 → b.state ≡ Done
    by_last zero t some none = ap (λ (o : Order). o.state) (t.untouched refl) ∙ s.ended (omega arith) (omega arith)
    by_last (suc n) t some none = t.ended (omega arith) none
