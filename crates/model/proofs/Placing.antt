-- An order that is placed, and what its law says.
use Rattle.std.proofs.Common.{◌≡◌, ℕ, zero, suc, ◌+◌, ◌-◌, ◌<◌, ◌≤◌, min, Bool, true, false, cond, eqb, ◌⊎◌, List, [], ◌∷◌, ◌++◌, length, sym, refl, ap, ◌∙◌, subst, inl, inr, arith}
use Rattle.std.proofs.lemmas.List.{append-nil}
use Rattle.std.proofs.lemmas.Bool.{cases_Bool, both_ways, eq-eqb, ne_eqb}
use Rattle.std.proofs.lemmas.Bool.Decides.{not_from_Decides}
use Rattle.clearing.specs.Book.{reserved, released}
use Rattle.orders.specs.Checks.{rests, waits_first}
use Rattle.orders.specs.Life.{next_state}
use Rattle.orders.specs.Visible.{visible_sum}
use Rattle.orders.specs.declared.kinds.Order.{Order}
use Rattle.orders.specs.declared.kinds.Remainder.TheVariants.{Queue}
use Rattle.orders.specs.declared.kinds.Row.{Row}
use Rattle.orders.specs.declared.kinds.State.TheVariants.{Done, Waiting, Active}
use Rattle.orders.specs.declared.kinds.Terms.{Terms}
use Rattle.orders.specs.declared.lifecycle.Event.TheVariants.{Withdrawal}
use Rattle.orders.specs.declared.settings.Settings.{Settings}
use Rattle.orders.proofs.Rounding.{visible_bounds}
use Rattle.model.specs.Choices.{taken, concluded_with}
use Rattle.model.specs.Days.{World}
use Rattle.model.specs.Ledger.{made, named_lots}
use Rattle.model.specs.Market.{none, order_at, lots_of, meets}
use Rattle.model.specs.Place.{same_direction, registered, withdrawn_of, entered, waiting, next_number, market_of, placed_waiting, placed_meeting}
use Rattle.model.specs.PlaceLaw.{IsVisible, Covers, Waits, PlacedWaiting, Remains, PlacedMeeting}
use Rattle.model.specs.Rounds.{Meeting}
use Rattle.model.proofs.Covered.{covers_reserved, releases_released, covers_part}
use Rattle.model.proofs.OneOrder.{visible_some}
use Rattle.model.proofs.NamedRows.{named_append}
use Rattle.model.proofs.RowSums.{named_entering}
use Rattle.model.specs.Sound.{SoundOrder}
use Rattle.model.proofs.Sound.{Met}
use Rattle.model.proofs.SoundDays.{SoundPlace, SoundDay, take_written}
use Rattle.model.proofs.Tables.{Passed, decides_rests}
use Rattle.model.proofs.Totals.{admissible_meets}
use Rattle.model.proofs.TurnedDays.{kept_is, pushed_sound}
use Rattle.model.proofs.Turns.{Turned, turned_none, turned_met}
use Rattle.model.proofs.Writes.{sums_same}

-- an order that waits
pub waiting_order : (w : World) (p n : ℕ) (e : Terms) → Passed w p e → SoundOrder (waiting n p e)
waiting_order w p n e passed = record {
  least = passed.least;
  most = passed.most;
  percent = passed.percent;
  whole = omega arith;
  showing = λ is. let z : ◌≡◌ {A = ℕ} 0 1 = cc in absurd (omega arith);
  waiting = λ _. (refl, refl);
  ended = λ is. let z : ◌≡◌ {A = ℕ} 0 1 = cc in absurd (omega arith);
}

pub waiting_sound : (s : Settings) (start w : World) (p : ℕ) (e : Terms) → SoundDay s start w → Passed w p e → Waits w.day e → SoundDay s start (placed_waiting w p e).world
unfolding placed_waiting
waiting_sound s start w p e sound passed waits =
    let fresh : named_lots (next_number w.day) (made w) ≡ 0 = sound.rows.unnamed (length w.day.orders) (omega arith) in
    subst (SoundDay s start) (kept_is w _ _ _)
    (pushed_sound s start w w.day.orders w.day.queue [] (waiting (next_number w.day) p e) e.sum _
    sound (turned_none s start w (next_number w.day) sound) (waiting_order w p (next_number w.day) e passed)
    (subst (λ (rows : List Row). SoundPlace rows (length w.day.orders) (waiting (next_number w.day) p e)) (sym (append-nil (made w))) (record {
      owner = passed.participant;
      number = refl;
      waits = λ _. (waits.1, (passed.waits waits).1);
      rests = λ is. let z : ◌≡◌ {A = ℕ} 0 1 = cc in absurd (omega arith);
      sum = omega arith;
    }))
    passed.few (λ is. let z : ◌≡◌ {A = ℕ} 0 1 = cc in absurd (omega arith)) (omega arith)
    (covers_reserved w.cover p e.sum passed.cover))

pub waiting_law : (w : World) (p : ℕ) (e : Terms) → Passed w p e → PlacedWaiting p e w (placed_waiting w p e)
unfolding placed_waiting
waiting_law w p e passed = record {
  order = waiting (next_number w.day) p e;
  asked = record { number = refl; owner = refl; terms = refl };
  state = refl;
  hides = (refl, refl);
  orders = refl;
  queue = refl;
  used = refl;
  register = refl;
  cover = covers_reserved w.cover p e.sum passed.cover;
  none = refl;
}

-- an order after its rounds, whose remainder rests
record Rested (e : Terms) (left : ℕ) (o : Order) : Type 0 where
  active : 1 ≤ left → o.state ≡ Active
  ended : left ≡ 0 → o.state ≡ Done
  visible : o.visible ≡ min (visible_sum e.sum e.percent) left
  lots : lots_of o ≡ left
  withdrawn : o.withdrawn ≡ 0

-- or is withdrawn
record Spent (left : ℕ) (o : Order) : Type 0 where
  ended : o.state ≡ Done
  visible : o.visible ≡ 0
  hidden : o.hidden ≡ 0
  withdrawn : o.withdrawn ≡ left

rested : (n p : ℕ) (e : Terms) (left : ℕ) → rests e.remainder ≡ true → Rested e left (entered n p e left)
rested n p e left is = record {
  active = λ some. rw (is, ne_eqb left 0 (λ same. omega arith)) refl;
  ended = λ same. rw (is, eq-eqb left 0 same) refl;
  visible = rw is refl;
  lots = rw is (omega arith);
  withdrawn = rw is refl;
}

spent : (n p : ℕ) (e : Terms) (left : ℕ) → rests e.remainder ≡ false → Spent left (entered n p e left)
spent n p e left is = record {
  ended = rw is (out (eqb left 0));
  visible = rw is (omega arith);
  hidden = rw is (omega arith);
  withdrawn = rw is refl;
}
  where
    out : (t : Bool) → next_state (cond t Done Active) Withdrawal ≡ Done
    out true = refl
    out false = refl

-- an order after its rounds, by whether its remainder rests
entered_ways : (n p : ℕ) (e : Terms) (left : ℕ) → ((e.remainder ≡ Queue) × Rested e left (entered n p e left)) ⊎ ((e.remainder ≡ Queue → ⊥) × Spent left (entered n p e left))
entered_ways n p e left =
    elim (cases_Bool (rests e.remainder)) [
      | inl is ↦ inl ((decides_rests e.remainder).0 is, rested n p e left is)
      | inr is ↦ inr (not_from_Decides (rests e.remainder) (decides_rests e.remainder) is, spent n p e left is)
    ]

-- what rests shows at least one lot while one is left
rested_some : (e : Terms) (left : ℕ) (o : Order) → Rested e left o → o.state ≡ Active → 1 ≤ left
rested_some e zero o is active = let done = is.ended refl in let z : ◌≡◌ {A = ℕ} 0 1 = cc in absurd (omega arith)
rested_some e (suc left) o is active = omega arith

rested_none : (e : Terms) (left : ℕ) (o : Order) → Rested e left o → o.state ≡ Done → left ≡ 0
rested_none e zero o is done = refl
rested_none e (suc left) o is done = let active = is.active (omega arith) in let z : ◌≡◌ {A = ℕ} 0 1 = cc in absurd (omega arith)

rested_never_waits : (e : Terms) (left : ℕ) (o : Order) → Rested e left o → o.state ≡ Waiting → ⊥
rested_never_waits e zero o is waits = let done = is.ended refl in let z : ◌≡◌ {A = ℕ} 0 1 = cc in omega arith
rested_never_waits e (suc left) o is waits = let active = is.active (omega arith) in let z : ◌≡◌ {A = ℕ} 0 1 = cc in omega arith

pub entered_order : (w : World) (p n : ℕ) (e : Terms) (left : ℕ) → Passed w p e → left ≤ e.sum → SoundOrder (entered n p e left)
entered_order w p n e left passed part =
    elim (entered_ways n p e left) [
      | inl (queue, is) ↦ record {
        least = passed.least;
        most = passed.most;
        percent = passed.percent;
        whole = omega (arith, is.lots, is.withdrawn);
        showing = λ active.
            let more = rested_some e left (entered n p e left) is active in
            let some = visible_some e.sum e.percent passed.least passed.percent in
            (omega (arith, is.visible), omega (arith, is.visible));
        waiting = λ waits. absurd (rested_never_waits e left (entered n p e left) is waits);
        ended = λ done. omega (arith, is.lots, rested_none e left (entered n p e left) is done);
      }
      | inr (out, is) ↦ record {
        least = passed.least;
        most = passed.most;
        percent = passed.percent;
        whole = omega (arith, is.visible, is.hidden, is.withdrawn);
        showing = λ active. let done = is.ended in let z : ◌≡◌ {A = ℕ} 0 1 = cc in absurd (omega arith);
        waiting = λ waits. let done = is.ended in let z : ◌≡◌ {A = ℕ} 0 1 = cc in absurd (omega arith);
        ended = λ _. omega (arith, is.visible, is.hidden);
      }
    ]

entered_whole : (n p : ℕ) (e : Terms) (left : ℕ) → lots_of (entered n p e left) + (entered n p e left).withdrawn ≡ left
entered_whole n p e left =
    elim (entered_ways n p e left) [ inl (queue, is) ↦ omega (arith, is.lots, is.withdrawn) | inr (out, is) ↦ omega (arith, is.visible, is.hidden, is.withdrawn) ]

pub entered_never_waits : (n p : ℕ) (e : Terms) (left : ℕ) → (entered n p e left).state ≡ Waiting → ⊥
entered_never_waits n p e left waits =
    elim (entered_ways n p e left) [
      | inl (queue, is) ↦ rested_never_waits e left (entered n p e left) is waits
      | inr (out, is) ↦ let done = is.ended in let z : ◌≡◌ {A = ℕ} 0 1 = cc in omega arith
    ]

-- an active one rests, with lots left
entered_active : (n p : ℕ) (e : Terms) (left : ℕ) → (entered n p e left).state ≡ Active → (e.remainder ≡ Queue) × (1 ≤ left)
entered_active n p e left active =
    elim (entered_ways n p e left) [
      | inl (queue, is) ↦ (queue, rested_some e left (entered n p e left) is active)
      | inr (out, is) ↦ let done = is.ended in let z : ◌≡◌ {A = ℕ} 0 1 = cc in absurd (omega arith)
    ]

-- a visible sum in the law's words is the visible sum
pub visible_is : (e : Terms) (v : ℕ) → 1 ≤ e.sum → e.percent ≤ 100 → IsVisible e v → v ≡ visible_sum e.sum e.percent
visible_is e v least most is = by e.percent refl
  where
    by : (percent : ℕ) → e.percent ≡ percent → v ≡ visible_sum e.sum e.percent
    by zero same = is.plain same ∙ ap (visible_sum e.sum) (sym same)
    by (suc percent) same =
        let up = is.iceberg (omega arith) in
        let bounds = visible_bounds e.sum e.percent least (omega arith) most in
        omega (arith, up.enough, up.least, bounds.enough, bounds.least)

-- what remains of an order after its rounds
remains : (n p : ℕ) (e : Terms) (left : ℕ) → 1 ≤ e.sum → e.percent ≤ 100 → Remains e left (entered n p e left)
remains n p e left least most =
    elim (entered_ways n p e left) [
      | inl (queue, is) ↦ record {
        rest = λ _ v visible. (is.visible ∙ ap (λ (x : ℕ). min x left) (sym (visible_is e v least most visible)), is.lots);
        taken = λ out. absurd (out queue);
        active = λ _ some. is.active some;
        ended = λ _ none. is.ended none;
        out = λ out. absurd (out queue);
      }
      | inr (out, is) ↦ record {
        rest = λ queue. absurd (out queue);
        taken = λ _. (is.visible, is.hidden);
        active = λ queue. absurd (out queue);
        ended = λ queue. absurd (out queue);
        out = λ _. is.ended;
      }
    ]

-- the orders that an entry leaves are of the same directions
pub met_few : (w : World) (p : ℕ) (e : Terms) (met : Meeting) → Passed w p e → Met e (next_number w.day) (market_of w.day) met → registered e.direction met.market.orders < 64
met_few w p e met passed is =
    let same : registered e.direction met.market.orders ≡ registered e.direction w.day.orders =
    sums_same (λ (o : Order). cond (same_direction e.direction o.terms.direction) 1 0) met.market.orders w.day.orders none is.enters.same
    (λ k inside. ap (λ (t : Terms). cond {A = ℕ} (same_direction e.direction t.direction) 1 0) (is.enters.orders k inside).terms) in
    omega (arith, passed.few)

module _ (s : Settings) (start w : World) (p : ℕ) (e : Terms) (met : Meeting) (sound : SoundDay s start w) (passed : Passed w p e)
    (early : waits_first w.day.settings.mode e ≡ false) (is : Met e (next_number w.day) (market_of w.day) met) where
  -- its rows fit
  met_fits : w.day.used + length met.market.rows ≤ length w.register
  met_fits =
      let room = passed.room early in
      let rows : length w.register ≡ s.rows = passed.register ∙ ap (λ (t : Settings). t.rows) sound.settings in
      omega (arith, is.few, sound.within)

  met_turned : Turned s w (next_number w.day) met.market.orders met.market.queue met.market.rows
  met_turned =
      let rows : length w.register ≡ s.rows = passed.register ∙ ap (λ (t : Settings). t.rows) sound.settings in
      turned_met s start w e (next_number w.day) met sound is (sound.rows.unnamed (length w.day.orders) (omega arith)) (omega (arith, met_fits)) met_fits

  met_left : met.left ≤ e.sum
  met_left = omega (arith, is.left)

  met_covers : Covers p (e.sum - withdrawn_of e met.left) w.cover (released (reserved w.cover p e.sum) p (withdrawn_of e met.left))
  met_covers =
      let reserves = covers_reserved w.cover p e.sum passed.cover in
      let part : withdrawn_of e met.left ≤ e.sum = omega (arith, entered_whole (next_number w.day) p e met.left, met_left) in
      covers_part p e.sum (withdrawn_of e met.left) w.cover (reserved w.cover p e.sum) _ part reserves
      (releases_released (reserved w.cover p e.sum) p (withdrawn_of e met.left) passed.participant (omega (arith, reserves.owner)))

  met_place : SoundPlace (made w ++ met.market.rows) (length w.day.orders) (entered (next_number w.day) p e met.left)
  met_place = record {
    owner = passed.participant;
    number = refl;
    waits = λ waits. absurd (entered_never_waits (next_number w.day) p e met.left waits);
    rests = λ active. (entered_active (next_number w.day) p e met.left active).0;
    sum =
        let more = named_append (next_number w.day) (made w) met.market.rows in
        let named : named_lots (next_number w.day) met.market.rows ≡ taken w.day.orders (concluded_with e.direction (next_number w.day) met.market.rows) =
        named_entering e (next_number w.day) w.day.orders met.market.rows is.enters.rows in
        omega (arith, sound.rows.unnamed (length w.day.orders) (omega arith), is.left, entered_whole (next_number w.day) p e met.left);
  }

  pub meeting_sound : SoundDay s start (placed_meeting w p e met).world
  unfolding placed_meeting
  meeting_sound =
      pushed_sound s start w met.market.orders met.market.queue met.market.rows (entered (next_number w.day) p e met.left) (e.sum - withdrawn_of e met.left) _
      sound met_turned (entered_order w p (next_number w.day) e met.left passed met_left) met_place (met_few w p e met passed is)
      (λ active k inside admissible.
      both_ways (meets e (order_at met.market.orders k)) (is.clear (entered_active (next_number w.day) p e met.left active).1 k (omega (arith, is.enters.same)))
      (admissible_meets e (order_at met.market.orders k) admissible))
      (omega (arith, entered_whole (next_number w.day) p e met.left, met_left)) met_covers

  pub meeting_law : PlacedMeeting p e w (placed_meeting w p e met)
  unfolding placed_meeting
  meeting_law =
      let back : e.sum - (e.sum - met.left) ≡ met.left = omega (arith, met_left) in
      record {
        market = met.market;
        order = entered (next_number w.day) p e met.left;
        enters = is.enters;
        lots = omega (arith, is.left);
        asked = record { number = refl; owner = refl; terms = refl };
        remains = subst (λ (left : ℕ). Remains e left (entered (next_number w.day) p e met.left)) (sym back) (remains (next_number w.day) p e met.left passed.least passed.percent);
        orders = refl;
        queue = ap (λ (n : ℕ). met.market.queue ++ (n ∷ [])) is.enters.same;
        used = refl;
        fits = met_fits;
        register = refl;
        resting = λ queue. covered ((decides_rests e.remainder).1 queue);
        released = λ out. spared out;
      }
    where
      covered : rests e.remainder ≡ true → Covers p e.sum w.cover (released (reserved w.cover p e.sum) p (withdrawn_of e met.left))
      covered on =
          let none : e.sum - withdrawn_of e met.left ≡ e.sum = rw on (omega arith) in
          subst (λ (lots : ℕ). Covers p lots w.cover (released (reserved w.cover p e.sum) p (withdrawn_of e met.left))) none met_covers

      spared : (e.remainder ≡ Queue → ⊥) → Covers p (e.sum - met.left) w.cover (released (reserved w.cover p e.sum) p (withdrawn_of e met.left))
      spared out =
          elim (cases_Bool (rests e.remainder)) [
            | inl on ↦ absurd (out ((decides_rests e.remainder).0 on))
            | inr off ↦
                let all : e.sum - withdrawn_of e met.left ≡ e.sum - met.left = rw off refl in
                subst (λ (lots : ℕ). Covers p lots w.cover (released (reserved w.cover p e.sum) p (withdrawn_of e met.left))) all met_covers
          ]

  -- the rows it makes
  pub meeting_grown : made (placed_meeting w p e met).world ≡ made w ++ met.market.rows
  unfolding placed_meeting
  meeting_grown = take_written w.register w.day.used met.market.rows (omega (arith, sound.fits, sound.long))
