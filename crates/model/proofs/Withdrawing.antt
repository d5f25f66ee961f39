-- A withdrawal, and what its law says.
use Rattle.std.proofs.Common.{◌≡◌, ℕ, suc, pred, ◌+◌, ◌<◌, ◌≤◌, cond, eqb, List, [], length, set, sym, refl, ap, subst, inl, inr, arith}
use Rattle.std.proofs.lemmas.List.{append-nil, get_or-set_same, get_or-set_other, length-set}
use Rattle.std.proofs.lemmas.Bool.{cases_eq, eq-eqb, ne_eqb}
use Rattle.orders.specs.Life.{next_state}
use Rattle.orders.specs.declared.kinds.Order.{Order}
use Rattle.orders.specs.declared.kinds.Row.{Row}
use Rattle.orders.specs.declared.kinds.State.{State}
use Rattle.orders.specs.declared.kinds.State.TheVariants.{Done, Waiting, Active}
use Rattle.orders.specs.declared.kinds.Terms.{Terms}
use Rattle.orders.specs.declared.lifecycle.Event.TheVariants.{Withdrawal, Close}
use Rattle.orders.specs.declared.settings.Settings.{Settings}
use Rattle.clearing.specs.Book.{released}
use Rattle.model.specs.Days.{World}
use Rattle.model.specs.Ledger.{made, named_lots}
use Rattle.model.specs.Market.{none, order_at, lots_of}
use Rattle.model.specs.Withdraw.{taken_out, withdrawn}
use Rattle.model.specs.WithdrawLaw.{Ended, Releases, OnlyEnded, Withdrawn}
use Rattle.model.proofs.Covered.{releases_released}
use Rattle.model.specs.Sound.{SoundOrder}
use Rattle.model.proofs.SoundDays.{SoundPlace, SoundDay, lots_held}
use Rattle.model.proofs.Tables.{WithdrawPassed}
use Rattle.model.proofs.TurnedDays.{kept_by, kept_is, ended_sound}
use Rattle.model.proofs.Turns.{turned_none}

-- an order of the same terms that has ended
pub done_order : (o x : Order) → SoundOrder o → x.terms ≡ o.terms → x.state ≡ Done → lots_of x ≡ 0 → x.withdrawn ≤ o.terms.sum → SoundOrder x
done_order o x sound terms done nothing whole = record {
  least = subst (λ (t : Terms). 1 ≤ t.sum) (sym terms) sound.least;
  most = subst (λ (t : Terms). t.sum ≤ 1000000) (sym terms) sound.most;
  percent = subst (λ (t : Terms). t.percent ≤ 100) (sym terms) sound.percent;
  whole = omega (arith, ap (λ (t : Terms). t.sum) terms);
  showing = λ is. let z : ◌≡◌ {A = ℕ} 0 1 = cc in absurd (omega arith);
  waiting = λ is. let z : ◌≡◌ {A = ℕ} 0 1 = cc in absurd (omega arith);
  ended = λ _. nothing;
}

-- at its place
pub done_place : (rows : List Row) (k : ℕ) (x : Order) → x.owner ≤ 63 → x.number ≡ suc k → x.state ≡ Done → lots_of x ≡ 0
    → x.terms.sum ≡ named_lots (suc k) rows + x.withdrawn → SoundPlace rows k x
done_place rows k x owner number done nothing whole = record {
  owner = owner;
  number = number;
  waits = λ is. let z : ◌≡◌ {A = ℕ} 0 1 = cc in absurd (omega arith);
  rests = λ is. let z : ◌≡◌ {A = ℕ} 0 1 = cc in absurd (omega arith);
  sum = omega arith;
}

pub ends_withdrawal : (s : State) → next_state s Withdrawal ≡ Done
ends_withdrawal Done = refl
ends_withdrawal Waiting = refl
ends_withdrawal Active = refl

pub ends_close : (s : State) → next_state s Close ≡ Done
ends_close Done = refl
ends_close Waiting = refl
ends_close Active = refl

-- an order that is written over has ended, and no other differs
pub only_ended : (orders : List Order) (k : ℕ) (x : Order) → k < length orders → Ended (order_at orders k) x → OnlyEnded k orders (set orders k x)
only_ended orders k x stands ended = record {
  same = length-set orders k x;
  one = subst (Ended (order_at orders k)) (sym (get_or-set_same orders k x none stands)) ended;
  others = λ j other. get_or-set_other orders k j x none other;
}

pub taken_ended : (o : Order) → Ended o (taken_out Withdrawal o)
taken_ended o = record { number = refl; owner = refl; terms = refl; state = ends_withdrawal o.state; none = refl }

-- an order whose lots are all withdrawn and released
pub taken_sound : (s : Settings) (start w : World) (k : ℕ) → SoundDay s start w → k < length w.day.orders
    → SoundDay s start (kept_by w (set w.day.orders k (taken_out Withdrawal (order_at w.day.orders k))) w.day.queue
    (released w.cover (order_at w.day.orders k).owner (lots_of (order_at w.day.orders k))))
taken_sound s start w k sound stands =
    let order = sound.market.orders k stands in
    let place = sound.rows.places k stands in
    subst (SoundDay s start) (kept_is w _ _ _)
    (ended_sound s start w k w.day.orders w.day.queue [] (taken_out Withdrawal (order_at w.day.orders k)) (lots_of (order_at w.day.orders k)) _
    sound (turned_none s start w (suc k) sound) stands
    (done_order (order_at w.day.orders k) _ order refl (ends_withdrawal (order_at w.day.orders k).state) refl (omega (arith, order.whole)))
    (subst (λ (rows : List Row). SoundPlace rows k (taken_out Withdrawal (order_at w.day.orders k))) (sym (append-nil (made w)))
    (done_place (made w) k _ place.owner place.number (ends_withdrawal (order_at w.day.orders k).state) refl (omega (arith, place.sum))))
    (ends_withdrawal (order_at w.day.orders k).state) refl refl refl
    (releases_released w.cover _ _ place.owner (lots_held s start w sound k stands)))

pub withdrawn_sound : (s : Settings) (start w : World) (n p : ℕ) → SoundDay s start w → WithdrawPassed w.day n p → SoundDay s start (withdrawn n w).world
unfolding withdrawn
withdrawn_sound s start w n p sound passed = taken_sound s start w (pred n) sound (omega (arith, passed.stands))

pub withdrawn_law : (s : Settings) (start w : World) (n p : ℕ) → SoundDay s start w → WithdrawPassed w.day n p → Withdrawn n p w (withdrawn n w)
unfolding withdrawn
withdrawn_law s start w n p sound passed =
    let stands : pred n < length w.day.orders = omega (arith, passed.stands) in
    record {
      stands = passed.stands;
      own = passed.own;
      alive = passed.alive;
      lots = refl;
      orders = only_ended w.day.orders (pred n) _ stands (taken_ended (order_at w.day.orders (pred n)));
      settings = refl;
      clock = refl;
      queue = refl;
      used = refl;
      register = refl;
      cover = subst (λ (q : ℕ). Releases q (lots_of (order_at w.day.orders (pred n))) w.cover (withdrawn n w).world.cover) passed.own
          (releases_released w.cover _ _ (sound.rows.places (pred n) stands).owner (lots_held s start w sound (pred n) stands));
    }

-- what it withdrew from each order
pub withdrawn_each : (w : World) (n p : ℕ) → WithdrawPassed w.day n p → (k : ℕ)
    → (order_at (withdrawn n w).world.day.orders k).withdrawn ≡ (order_at w.day.orders k).withdrawn + cond (eqb (suc k) n) (lots_of (order_at w.day.orders (pred n))) 0
unfolding withdrawn
withdrawn_each w n p passed k =
    elim (cases_eq k (pred n)) [
      | inl is ↦
          rw (eq-eqb (suc k) n (omega (arith, passed.stands)))
          (subst (λ (j : ℕ). (order_at (withdrawn n w).world.day.orders j).withdrawn ≡ (order_at w.day.orders j).withdrawn + lots_of (order_at w.day.orders (pred n))) (sym is)
          (ap (λ (o : Order). o.withdrawn) (get_or-set_same w.day.orders (pred n) _ none (omega (arith, passed.stands)))))
      | inr other ↦
          rw (ne_eqb (suc k) n (λ same. other (omega arith)))
          (let same = ap (λ (o : Order). o.withdrawn) (get_or-set_other w.day.orders (pred n) k (taken_out Withdrawal (order_at w.day.orders (pred n))) none other) in omega arith)
    ]
