-- Every call keeps a lawful day, over any register and any cover.
use Rattle.std.proofs.Common.{◌≡◌, ℕ, suc, pred, ◌+◌, ◌*◌, ◌<◌, ◌≤◌, Bool, true, false, cond, not, ◌&&◌, eqb, List, [], ◌∷◌, length, set, count_by, sym, refl, ap, ◌∙◌, subst, inl, inr, mul-le-mul_left, arith}
use Rattle.std.specs.List.{AllByRecursion}
use Rattle.std.proofs.ByRecursion.{All-weaker}
use Rattle.std.proofs.lemmas.List.{get_or-set_same, get_or-set_other, length-set, length-map}
use Rattle.std.proofs.lemmas.Bool.{cases_lt}
use Rattle.std.proofs.lemmas.Bool.Decides.{nat_tests}
use Rattle.orders.specs.Life.{next_state}
use Rattle.orders.specs.declared.kinds.Direction.{Direction}
use Rattle.orders.specs.declared.kinds.Direction.TheVariants.{Deposit}
use Rattle.orders.specs.declared.kinds.Order.{Order}
use Rattle.orders.specs.declared.kinds.State.{State}
use Rattle.orders.specs.declared.kinds.State.TheVariants.{Done, Waiting, Active}
use Rattle.orders.specs.declared.kinds.Terms.{Terms}
use Rattle.orders.specs.declared.lifecycle.Event.TheVariants.{Activation, Conclusion, Withdrawal, Close}
use Rattle.orders.specs.declared.settings.Settings.{Settings}
use Rattle.model.specs.Calls.{LawfulRule}
use Rattle.model.specs.Clock.{due, Activated, entered_late, activated_failing, activated_meeting, activated, activations, at_time, clock_table, clocked, clocking}
use Rattle.model.specs.ClockLaw.{Due}
use Rattle.model.specs.Close.{closing}
use Rattle.model.specs.Days.{Day, World, opened}
use Rattle.model.specs.Market.{Market, none, order_at, lots_of, is_active}
use Rattle.model.specs.Place.{same_direction, registered, opposite, volume_fails, next_number, market_of, place_table, placed_waiting, placed_meeting, placed, placing}
use Rattle.model.specs.Rounds.{Rule, Meeting, meeting}
use Rattle.model.specs.Sound.{SoundOrder, LawfulDay}
use Rattle.model.specs.Withdraw.{withdraw_table, taken_out, with_order_at, withdrawn, withdrawing}
use Rattle.model.proofs.Closing.{closed_at}
use Rattle.model.proofs.DueLists.{due_all, due_law}
use Rattle.model.proofs.Entries.{entry}
use Rattle.model.proofs.PlaceLaws.{placed_ways}
use Rattle.model.proofs.Places.{count_cons, all_counted}
use Rattle.model.proofs.Placing.{waiting_order, entered_order, entered_never_waits, met_few}
use Rattle.model.proofs.Sound.{Met}
use Rattle.model.proofs.Tables.{Passed, passed, clock_passed, withdraw_passed, judged_ways, decides_waits}
use Rattle.model.proofs.Turns.{touched_active, touched_waiting}
use Rattle.model.proofs.Withdrawing.{done_order, ends_withdrawal, ends_close}
use Rattle.model.proofs.Writes.{sums_same, sums_le, at_push, at_set, sound_push, sound_set}

-- a newly opened day
pub opened_lawful : (s : Settings) → LawfulDay (opened s)
opened_lawful s = record {
  market = record {
    orders = λ k inside. absurd (omega arith);
    few = λ d. omega arith;
    queued = λ k inside. absurd (omega arith);
    inside = λ k outside. refl;
  };
  waits = λ k inside. absurd (omega arith);
  within = omega arith;
}

-- only deposits wait
abbrev pub OnlyDepositsWait : List Order → Type 0
OnlyDepositsWait orders = (k : ℕ) → k < length orders → (order_at orders k).state ≡ Waiting → (order_at orders k).terms.direction ≡ Deposit

-- an order of the same terms that has ended stands at place k
set_waits : (orders : List Order) (k : ℕ) (x : Order) → k < length orders → OnlyDepositsWait orders → x.state ≡ Done → OnlyDepositsWait (set orders k x)
set_waits orders k x stands waits done =
    at_set (λ j o. o.state ≡ Waiting → o.terms.direction ≡ Deposit) orders k x stands (λ j inside _. waits j inside) (λ is. cc)

-- the orders that an entry leaves
met_waits : (e : Terms) (n : ℕ) (m : Market) (met : Meeting) → Met e n m met → OnlyDepositsWait m.orders → OnlyDepositsWait met.market.orders
met_waits e n m met is waits k inside on =
    let there : k < length m.orders = omega (arith, is.enters.same) in
    let touched = is.enters.orders k there in
    ap (λ (t : Terms). t.direction) touched.terms ∙ waits k there (touched_waiting _ _ _ touched on)

-- a day with an order at place k that has ended
ended_lawful : (d : Day) (k : ℕ) (x : Order) → LawfulDay d → k < length d.orders → x.terms ≡ (order_at d.orders k).terms → x.state ≡ Done → lots_of x ≡ 0
    → x.withdrawn ≤ (order_at d.orders k).terms.sum → LawfulDay (with_order_at d k x)
ended_lawful d k x day stands terms done nothing whole = record {
  market = sound_set (market_of d) k x [] day.market stands (done_order (order_at d.orders k) x (day.market.orders k stands) terms done nothing whole) terms;
  waits = set_waits d.orders k x stands day.waits done;
  within = day.within;
}

taken_lawful : (d : Day) (k : ℕ) → LawfulDay d → k < length d.orders → LawfulDay (with_order_at d k (taken_out Withdrawal (order_at d.orders k)))
taken_lawful d k day stands =
    ended_lawful d k _ day stands refl (ends_withdrawal (order_at d.orders k).state) refl (omega (arith, (day.market.orders k stands).whole))

-- what an activation leaves of the day's other orders
pub record Beside (k : ℕ) (before after : List Order) : Type 0 where
  pub same : length after ≡ length before
  pub terms : (j : ℕ) → j < length before → (order_at after j).terms ≡ (order_at before j).terms
  pub withdrawn : (j : ℕ) → j < length before → (j ≡ k → ⊥) → (order_at after j).withdrawn ≡ (order_at before j).withdrawn
  pub active : (j : ℕ) → j < length before → (order_at after j).state ≡ Active → (order_at before j).state ≡ Active
  pub resting : (j : ℕ) → j < length before → (j ≡ k → ⊥) → ((order_at before j).state ≡ Active → ⊥) → order_at after j ≡ order_at before j
  pub ended : (order_at after k).state ≡ Done

opposing_le : (d : Direction) (a b : State) (x y : Terms) → (a ≡ Active → b ≡ Active) → x ≡ y
    → cond {A = ℕ} (is_active a && not (same_direction d x.direction)) 1 0 ≤ cond {A = ℕ} (is_active b && not (same_direction d y.direction)) 1 0
opposing_le d Done b x y was same = omega arith
opposing_le d Waiting b x y was same = omega arith
opposing_le d Active b x y was same =
    let part : cond {A = ℕ} (not (same_direction d x.direction)) 1 0 ≡ cond {A = ℕ} (not (same_direction d y.direction)) 1 0 =
    ap (λ (t : Terms). cond {A = ℕ} (not (same_direction d t.direction)) 1 0) same in
    rw (was refl) (omega arith)

-- no more orders are active than before
pub beside_fewer : (d : Direction) (k : ℕ) (before after : List Order) → Beside k before after → opposite d after ≤ opposite d before
beside_fewer d k before after beside =
    sums_le (λ (o : Order). cond (is_active o.state && not (same_direction d o.terms.direction)) 1 0) (λ (o : Order). cond (is_active o.state && not (same_direction d o.terms.direction)) 1 0)
    after before none beside.same
    (λ j inside. opposing_le d (order_at after j).state (order_at before j).state (order_at after j).terms (order_at before j).terms (beside.active j inside) (beside.terms j inside))

-- an order that is written over
pub beside_set : (before : List Order) (k : ℕ) (x : Order) → k < length before → x.terms ≡ (order_at before k).terms → x.state ≡ Done → Beside k before (set before k x)
beside_set before k x stands terms done =
    let long = length-set before k x in
    record {
      same = long;
      terms = λ j inside. at_set (λ i o. o.terms ≡ (order_at before i).terms) before k x stands (λ i _ _. refl) terms j (omega arith);
      withdrawn = λ j inside other. ap (λ (o : Order). o.withdrawn) (get_or-set_other before k j x none other);
      active = λ j inside. at_set (λ i o. o.state ≡ Active → (order_at before i).state ≡ Active) before k x stands (λ i _ _ is. is)
          (λ is. let z : ◌≡◌ {A = ℕ} 0 1 = cc in absurd (omega arith)) j (omega arith);
      resting = λ j inside other _. get_or-set_other before k j x none other;
      ended = ap (λ (o : Order). o.state) (get_or-set_same before k x none stands) ∙ done;
    }

-- another that waits is as it was
pub beside_waiting : (k : ℕ) (before after : List Order) → Beside k before after → (j : ℕ) → j < length before → (j ≡ k → ⊥) → (order_at before j).state ≡ Waiting → order_at after j ≡ order_at before j
beside_waiting k before after beside j inside other is = beside.resting j inside other (λ active. let z : ◌≡◌ {A = ℕ} 0 1 = cc in omega arith)

-- an activation: the day it leaves, and what it left of the other orders and rows
pub record Leaves (k : ℕ) (w : World) (a : Activated) : Type 0 where
  pub day : LawfulDay a.world.day
  pub settings : a.world.day.settings ≡ w.day.settings
  pub clock : a.world.day.clock ≡ w.day.clock
  pub beside : Beside k w.day.orders a.world.day.orders
  pub used : a.world.day.used ≤ w.day.used + opposite Deposit w.day.orders

module _ (w : World) (k : ℕ) (day : LawfulDay w.day) (stands : k < length w.day.orders) (waits : (order_at w.day.orders k).state ≡ Waiting) where
  pub failing_leaves : Leaves k w (activated_failing k w)
  unfolding activated_failing
  failing_leaves = record {
    day = taken_lawful w.day k day stands;
    settings = refl;
    clock = refl;
    beside = beside_set w.day.orders k _ stands refl (ends_withdrawal (order_at w.day.orders k).state);
    used = omega arith;
  }

  module _ (met : Meeting) (is : Met (order_at w.day.orders k).terms (suc k) (market_of w.day) met) where
    abbrev late : Order
    late = entered_late (order_at w.day.orders k) met.left

    pub late_done : late.state ≡ Done
    late_done = ends_withdrawal (next_state (next_state (order_at w.day.orders k).state Activation) (Conclusion met.left))

    -- a deposit makes at most one row with each active order of the other direction
    pub late_few : length met.market.rows ≤ opposite Deposit w.day.orders
    late_few = subst (λ (d : Direction). length met.market.rows ≤ opposite d w.day.orders) (day.waits k stands waits) is.few

    -- an order that is not active is left alone
    pub alone : (j : ℕ) → j < length w.day.orders → ((order_at w.day.orders j).state ≡ Active → ⊥) → order_at met.market.orders j ≡ order_at w.day.orders j
    alone j inside idle =
        (is.enters.orders j inside).untouched
        (is.enters.concludes.choice.others j inside (λ admissible. idle admissible.0))

    beside_met : Beside k w.day.orders (set met.market.orders k late)
    beside_met =
        let there : k < length met.market.orders = omega (arith, is.enters.same) in
        let long = length-set met.market.orders k late in
        let was : (j : ℕ) → j < length met.market.orders → j < length w.day.orders = λ j inside. omega (arith, is.enters.same) in
        record {
          same = long ∙ is.enters.same;
          terms = λ j inside. at_set (λ i o. o.terms ≡ (order_at w.day.orders i).terms) met.market.orders k late there
              (λ i within _. (is.enters.orders i (was i within)).terms) refl j (omega (arith, is.enters.same));
          withdrawn = λ j inside other.
              ap (λ (o : Order). o.withdrawn) (get_or-set_other met.market.orders k j late none other) ∙ (is.enters.orders j inside).withdrawn;
          active = λ j inside. at_set (λ i o. o.state ≡ Active → (order_at w.day.orders i).state ≡ Active) met.market.orders k late there
              (λ i within _ on. touched_active _ _ _ (is.enters.orders i (was i within)) on) (λ on. let done = late_done in let z : ◌≡◌ {A = ℕ} 0 1 = cc in absurd (omega arith)) j (omega (arith, is.enters.same));
          resting = λ j inside other idle. get_or-set_other met.market.orders k j late none other ∙ alone j inside idle;
          ended = ap (λ (o : Order). o.state) (get_or-set_same met.market.orders k late none there) ∙ late_done;
        }

    pub meeting_leaves : w.day.used + opposite Deposit w.day.orders ≤ w.day.settings.rows → Leaves k w (activated_meeting k w met)
    unfolding activated_meeting
    meeting_leaves room =
        let there : k < length met.market.orders = omega (arith, is.enters.same) in
        let order = day.market.orders k stands in
        let hides = order.waiting waits in
        let whole = order.whole in
        let left = is.left in
        record {
          day = record {
            market = sound_set met.market k late [] is.sound there
                (done_order (order_at w.day.orders k) late order refl late_done refl (omega arith))
                (sym (is.enters.orders k stands).terms);
            waits = set_waits met.market.orders k late there (met_waits _ (suc k) (market_of w.day) met is day.waits) late_done;
            within = omega (arith, late_few);
          };
          settings = refl;
          clock = refl;
          beside = beside_met;
          used = omega (arith, late_few);
        }

-- the order at place k enters
pub activated_lawful : (rule : Rule) → LawfulRule rule → (w : World) (k : ℕ) → LawfulDay w.day → k < length w.day.orders
    → (order_at w.day.orders k).state ≡ Waiting → w.day.used + opposite Deposit w.day.orders ≤ w.day.settings.rows → Leaves k w (activated rule k w)
unfolding activated
activated_lawful rule lawful w k day stands waits room = by (volume_fails (order_at w.day.orders k).terms w.day.orders) refl
  where
    by : (t : Bool) → volume_fails (order_at w.day.orders k).terms w.day.orders ≡ t → Leaves k w (activated rule k w)
    by true is = rw (is, activated) (failing_leaves w k day stands waits)
    by false is =
        rw (is, activated)
        (meeting_leaves w k day stands waits _
        (entry rule w.day.settings (order_at w.day.orders k).terms (suc k) (market_of w.day) lawful day.market refl) room)

-- an order that waits
abbrev pub AtRest : List Order → ℕ → Type 0
AtRest orders k = (k < length orders) × ((order_at orders k).state ≡ Waiting)

-- those that wait, but the one that was activated, wait still
pub rest_waits : (k : ℕ) (ks : List ℕ) (before after : List Order) → Beside k before after → count_by (eqb k) ks ≡ 0 → AllByRecursion (AtRest before) ks → AllByRecursion (AtRest after) ks
rest_waits k [] before after beside absent waits = tt
rest_waits k (j ∷ js) before after beside absent waits =
    let count = count_cons k j js in
    let first = waits.0 in
    let other : j ≡ k → ⊥ = λ same. grind (arith, nat_tests) in
    let same = beside.resting j first.0 other (λ active. let state = first.1 in let z : ◌≡◌ {A = ℕ} 0 1 = cc in omega arith) in
    ((omega (arith, first.0, beside.same), ap (λ (o : Order). o.state) same ∙ first.1), rest_waits k js before after beside (omega arith) waits.1)

-- a place stands in the due list at most once
pub due_once : (time : ℕ) (orders : List Order) (j : ℕ) → count_by (eqb j) (due time orders) ≤ 1
due_once time orders j =
    elim (cases_lt 0 (count_by (eqb j) (due time orders))) [
      | inl some ↦
          let is = all_counted (λ i. (i < length orders) × Due time (order_at orders i)) j (due time orders) (due_all time orders) some in
          omega (arith, (due_law time orders).all j is.0 is.1)
      | inr none ↦ omega arith
    ]

-- the orders at some places enter, one after another
pub activations_lawful : (rule : Rule) → LawfulRule rule → (ks : List ℕ) (w : World) → LawfulDay w.day
    → w.day.used + length ks * opposite Deposit w.day.orders ≤ w.day.settings.rows
    → AllByRecursion (AtRest w.day.orders) ks → ((j : ℕ) → count_by (eqb j) ks ≤ 1) → LawfulDay (activations rule ks w).world.day
unfolding activations
activations_lawful rule lawful [] w day room waits once = day
activations_lawful rule lawful (k ∷ ks) w day room waits once =
    let first = activated_lawful rule lawful w k day waits.0.0 waits.0.1 (omega arith) in
    let absent : count_by (eqb k) ks ≡ 0 = let count = count_cons k k ks in let most = once k in grind (arith, nat_tests) in
    let fewer : length ks * opposite Deposit (activated rule k w).world.day.orders ≤ length ks * opposite Deposit w.day.orders =
    mul-le-mul_left (length ks) (beside_fewer Deposit k w.day.orders (activated rule k w).world.day.orders first.beside) in
    activations_lawful rule lawful ks (activated rule k w).world first.day
    (omega (arith, first.used, ap (λ (s : Settings). s.rows) first.settings))
    (rest_waits k ks w.day.orders (activated rule k w).world.day.orders first.beside absent waits.1) (λ j. omega (arith, count_cons j k ks, once j))

-- the due orders are at rest
pub due_rest : (time : ℕ) (orders : List Order) → AllByRecursion (AtRest orders) (due time orders)
due_rest time orders = All-weaker (λ j. (j < length orders) × Due time (order_at orders j)) (AtRest orders) (λ j is. (is.0, is.1.0)) (due time orders) (due_all time orders)

-- clock
pub clocking_lawful : (rule : Rule) → LawfulRule rule → (time : ℕ) (w : World) → LawfulDay w.day → LawfulDay (clocking rule time w).world.day
unfolding clocking clocked
clocking_lawful rule lawful time w day =
    judged_ways (clock_table w time) w (clocked rule time w) (λ o. LawfulDay o.world.day)
    (λ _ _ _. day)
    (λ none.
    let is = clock_passed w time none in
    activations_lawful rule lawful (due time w.day.orders) (at_time time w)
    (record { market = day.market; waits = day.waits; within = day.within })
    (omega (arith, is.register, is.room, day.within))
    (due_rest time w.day.orders) (due_once time w.day.orders))

-- withdraw
pub withdrawing_lawful : (n p : ℕ) (w : World) → LawfulDay w.day → LawfulDay (withdrawing n p w).world.day
unfolding withdrawing withdrawn
withdrawing_lawful n p w day =
    judged_ways (withdraw_table w.day n p) w (withdrawn n w) (λ o. LawfulDay o.world.day)
    (λ _ _ _. day)
    (λ none. let is = withdraw_passed w.day n p none in taken_lawful w.day (pred n) day (omega (arith, is.stands)))

-- place
placed_lawful : (rule : Rule) → LawfulRule rule → (p : ℕ) (e : Terms) (w : World) → LawfulDay w.day → Passed w p e → LawfulDay (placed rule w p e).world.day
unfolding placed_waiting placed_meeting
placed_lawful rule lawful p e w day is =
    placed_ways rule w p e (λ o. LawfulDay o.world.day)
    (λ on. record {
      market = sound_push (market_of w.day) _ [] day.market (waiting_order w p (next_number w.day) e is) is.few;
      waits = at_push (λ _ o. o.state ≡ Waiting → o.terms.direction ≡ Deposit) w.day.orders _ day.waits (λ _. ((decides_waits w.day e).0 on).1);
      within = day.within;
    })
    (λ early.
    let met = entry rule w.day.settings e (next_number w.day) (market_of w.day) lawful day.market refl in
    let room = is.room early in
    record {
      market = sound_push left.market _ [] met.sound (entered_order w p (next_number w.day) e left.left is (omega (arith, met.left))) (met_few w p e left is met);
      waits = at_push (λ _ o. o.state ≡ Waiting → o.terms.direction ≡ Deposit) left.market.orders _
          (met_waits e (next_number w.day) (market_of w.day) left met day.waits)
          (λ waits. absurd (entered_never_waits (next_number w.day) p e left.left waits));
      within = omega (arith, met.few, is.register, day.within);
    })
  where
    left : Meeting
    left = meeting rule w.day.settings e (next_number w.day) (market_of w.day)

pub placing_lawful : (rule : Rule) → LawfulRule rule → (p : ℕ) (e : Terms) (w : World) → LawfulDay w.day → LawfulDay (placing rule p e w).world.day
unfolding placing
placing_lawful rule lawful p e w day =
    judged_ways (place_table w p e) w (placed rule w p e) (λ o. LawfulDay o.world.day)
    (λ _ _ _. day)
    (λ none. placed_lawful rule lawful p e w day (passed w p e none))

-- close
pub closing_lawful : (w : World) → LawfulDay w.day → LawfulDay (closing w).day
unfolding closing
closing_lawful w day =
    let long : length (closing w).day.orders ≡ length w.day.orders = length-map w.day.orders (taken_out Close) in
    record {
      market = record {
        orders = λ k inside.
            let there : k < length w.day.orders = omega arith in
            let order = day.market.orders k there in
            subst SoundOrder (sym (closed_at w k there))
            (done_order (order_at w.day.orders k) _ order refl (ends_close (order_at w.day.orders k).state) refl (omega (arith, order.whole)));
        few = λ d.
            let same : registered d (closing w).day.orders ≡ registered d w.day.orders =
            sums_same (λ (o : Order). cond (same_direction d o.terms.direction) 1 0) (closing w).day.orders w.day.orders none long
            (λ k inside. ap (λ (o : Order). cond {A = ℕ} (same_direction d o.terms.direction) 1 0) (closed_at w k inside)) in
            omega (arith, day.market.few d);
        queued = λ k inside. day.market.queued k (omega arith);
        inside = λ k outside. day.market.inside k (omega arith);
      };
      waits = λ k inside is.
          let done : (order_at (closing w).day.orders k).state ≡ Done = ap (λ (o : Order). o.state) (closed_at w k (omega arith)) ∙ ends_close (order_at w.day.orders k).state in cc;
      within = day.within;
    }
