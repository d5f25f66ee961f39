-- Tables of refusals: the first that applies is the one answered, and what a call that passed all of them has been told.
use Rattle.std.proofs.Common.{◌≡◌, ℕ, zero, suc, pred, ◌+◌, ◌-◌, ◌*◌, ◌<◌, ◌≤◌, Bool, true, false, cond, not, ◌&&◌, ◌||◌, eqb, ltb, [], ◌∷◌, length, get_or, Some, None, Decides, Option, sym, refl, ap, ◌∙◌, subst, inl, inr, arith, lit<}
use Rattle.std.proofs.lemmas.Bool.Decides.{nat_tests, Decides-and, not_from_Decides}
use Rattle.std.proofs.lemmas.Bool.{true≢false, and_from, eqb-true, eqb-false, leb-false, ltb-false, not-false, not_from_false, or_parts}
use Rattle.clearing.specs.Book.{can_reserve}
use Rattle.orders.specs.Admissible.{at_market}
use Rattle.orders.specs.Answers.{refused_for, refusal_number}
use Rattle.orders.specs.Checks.{last_time, is_deposit, in_auction, rests, is_withdrawn, limit_queue, waits_first, wrong_sum, unfit_for_auction}
use Rattle.orders.specs.Table.{Table, first}
use Rattle.orders.specs.declared.kinds.Direction.{Direction}
use Rattle.orders.specs.declared.kinds.Direction.TheVariants.{Deposit, Repo}
use Rattle.orders.specs.declared.kinds.Kind.{Kind}
use Rattle.orders.specs.declared.kinds.Kind.TheVariants.{Limit, Market}
use Rattle.orders.specs.declared.kinds.Mode.{Mode}
use Rattle.orders.specs.declared.kinds.Mode.TheVariants.{Unaddressed, Auction}
use Rattle.orders.specs.declared.kinds.Remainder.{Remainder}
use Rattle.orders.specs.declared.kinds.Remainder.TheVariants.{Queue, Withdraw, FillOrReject}
use Rattle.orders.specs.declared.kinds.State.{State}
use Rattle.orders.specs.declared.kinds.State.TheVariants.{Done, Waiting, Active}
use Rattle.orders.specs.declared.kinds.Terms.{Terms}
use Rattle.orders.specs.declared.refusals.Refusal.{Refusal}
use Rattle.orders.specs.declared.refusals.Refusal.TheVariants as refused
use Rattle.orders.specs.declared.settings.Settings.{Settings}
use Rattle.model.specs.Clock.{clock_table, due}
use Rattle.model.specs.Days.{Day, World, Outcome, judged}
use Rattle.model.specs.Judging.{FirstOf, NoneBelow, Judged}
use Rattle.model.specs.Market.{order_at}
use Rattle.model.specs.Place.{place_table, registered, opposite, all_or_nothing, volume_fails}
use Rattle.model.specs.PlaceLaw.{Waits}
use Rattle.model.specs.Withdraw.{withdraw_table, is_done}

-- a line that applies is the first
here : (r : Refusal) (rest : Table) → FirstOf ((r, true) ∷ rest) r
here r rest = record { at = 0; stands = omega arith; is = refl; applies = refl; lowest = λ j lt. absurd (omega arith) }

-- a line that does not apply is passed over
past : (r q : Refusal) (rest : Table) → FirstOf rest q → FirstOf ((r, false) ∷ rest) q
past r q rest f = record { at = suc f.at; stands = omega arith; is = f.is; applies = f.applies; lowest = lower }
  where
    lower : NoneBelow (suc f.at) ((r, false) ∷ rest)
    lower zero lt = refl
    lower (suc j) lt = f.lowest j (omega arith)

-- what is first of a table applies, and nothing before it does
pub first_of : (table : Table) (r : Refusal) → first table ≡ Some r → FirstOf table r
first_of [] r e = let z : ◌≡◌ {A = ℕ} 0 1 = cc in absurd (omega arith)
first_of ((q, true) ∷ rest) r e = subst (λ (x : Refusal). FirstOf ((q, true) ∷ rest) x) (cc) (here q rest)
first_of ((q, false) ∷ rest) r e = past q r rest (first_of rest r e)

-- where nothing is first, nothing applies
pub none_below : (table : Table) → first table ≡ None → NoneBelow (length table) table
none_below [] e j lt = absurd (omega arith)
none_below ((q, true) ∷ rest) e j lt = let z : ◌≡◌ {A = ℕ} 0 1 = cc in absurd (omega arith)
none_below ((q, false) ∷ rest) e zero lt = refl
none_below ((q, false) ∷ rest) e (suc j) lt = none_below rest e j (omega arith)

-- a line that applies, with none before it, is first
pub first_at : (table : Table) (i : ℕ) → i < length table → NoneBelow i table → (get_or table i (refused.Settings, false)).1 ≡ true
    → first table ≡ Some (get_or table i (refused.Settings, false)).0
first_at [] i lt none on = absurd (omega arith)
first_at ((q, true) ∷ rest) zero lt none on = refl
first_at ((q, false) ∷ rest) zero lt none on = absurd (true≢false (sym on))
first_at ((q, true) ∷ rest) (suc i) lt none on = absurd (true≢false (none 0 (omega arith)))
first_at ((q, false) ∷ rest) (suc i) lt none on = first_at rest i (omega arith) (λ j below. none (suc j) (omega arith)) on

-- the two ways of a call: the first refusal of its table, or what it does when none applies
pub judged_ways : (table : Table) (w : World) (done : Outcome) (P : Outcome → Type 0)
    → ((r : Refusal) → first table ≡ Some r → FirstOf table r → P (record { answer = refused_for r; world = w }))
    → (NoneBelow (length table) table → P done) → P (judged table w done)
judged_ways table w done P refuses accepts = by (first table) refl
  where
    by : (o : Option Refusal) → first table ≡ o → P (judged table w done)
    by (Some r) e = rw (e, judged) (refuses r e (first_of table r e))
    by None e = rw (e, judged) (accepts (none_below table e))

-- a call is refused by its table, or accepted
pub judged_law : (table : Table) (w : World) (done : Outcome) (Accepted : Outcome → Type 0) → done.answer.number ≡ 0
    → (NoneBelow (length table) table → Accepted done) → Judged table w (judged table w done) (Accepted (judged table w done))
judged_law table w done Accepted zero_answer accepts =
    judged_ways table w done (λ o. Judged table w o (Accepted o))
    (λ r e f. inl (record { refusal = r; first = f; answered = refl; unchanged = refl }))
    (λ none. inr (none, zero_answer, accepts none))

-- the lines of a table have the numbers from n on
abbrev pub Numbered : ℕ → Table → Type 0
Numbered n [] = Unit {0}
Numbered n (line ∷ rest) = (refusal_number line.0 ≡ n) × Numbered (suc n) rest

numbered_at : (n : ℕ) (table : Table) → Numbered n table → (k : ℕ) → k < length table
    → refusal_number (get_or table k (refused.Settings, false)).0 ≡ n + k
numbered_at n [] h k lt = absurd (omega arith)
numbered_at n (line ∷ rest) h zero lt = omega (arith, h.0)
numbered_at n (line ∷ rest) h (suc k) lt = omega (arith, numbered_at (suc n) rest h.1 k (omega arith))

-- place's table has the numbers from 2 to 14
pub place_numbered : (w : World) (p : ℕ) (e : Terms) → Numbered 2 (place_table w p e)
place_numbered w p e = search

-- a refusal of place stands at its number
pub place_at : (w : World) (p : ℕ) (e : Terms) (r : Refusal) (f : FirstOf (place_table w p e) r) → refusal_number r ≡ 2 + f.at
place_at w p e r f = ap refusal_number (sym f.is) ∙ numbered_at 2 (place_table w p e) (place_numbered w p e) f.at f.stands

not_and : (a b : Bool) → (not a && b) ≡ true → (a ≡ false) × (b ≡ true)
not_and true b e = absurd (true≢false (sym e))
not_and false b e = (refl, e)

-- place is refused with 13 only for its volume
pub refused_volume : (w : World) (p : ℕ) (e : Terms) (r : Refusal) → FirstOf (place_table w p e) r → refusal_number r ≡ 13
    → (waits_first w.day.settings.mode e ≡ false) × (volume_fails e w.day.orders ≡ true)
refused_volume w p e r f is =
    let at : f.at ≡ 11 = omega (arith, place_at w p e r f) in
    not_and (waits_first w.day.settings.mode e) (volume_fails e w.day.orders) (rw at at f.applies)

-- a volume test that fails, with none of the lines before it, is what place is refused for
pub first_volume : (w : World) (p : ℕ) (e : Terms) → NoneBelow 11 (place_table w p e) → waits_first w.day.settings.mode e ≡ false
    → volume_fails e w.day.orders ≡ true → first (place_table w p e) ≡ Some refused.Volume
first_volume w p e none early fails =
    first_at (place_table w p e) 11 (lit< tt) none (and_from _ _ (not_from_false _ early) fails)

-- whether an order waits, rests, or is all or nothing
pub decides_waits : (d : Day) (e : Terms) → Decides (waits_first d.settings.mode e) (Waits d e)
decides_waits d e = Decides-and _ _ (auction d.settings.mode) (deposit e.direction)
  where
    auction : (m : Mode) → Decides (in_auction m) (m ≡ Auction)
    auction Unaddressed = (λ on. absurd (true≢false (sym on)), λ is. cc)
    auction Auction = (λ _. refl, λ _. refl)

    deposit : (d : Direction) → Decides (is_deposit d) (d ≡ Deposit)
    deposit Deposit = (λ _. refl, λ _. refl)
    deposit Repo = (λ on. absurd (true≢false (sym on)), λ is. cc)

pub decides_rests : (r : Remainder) → Decides (rests r) (r ≡ Queue)
decides_rests Queue = (λ _. refl, λ _. refl)
decides_rests Withdraw = (λ on. absurd (true≢false (sym on)), λ is. cc)
decides_rests FillOrReject = (λ on. absurd (true≢false (sym on)), λ is. cc)

pub decides_all_or_nothing : (r : Remainder) → Decides (all_or_nothing r) (r ≡ FillOrReject)
decides_all_or_nothing Queue = (λ on. absurd (true≢false (sym on)), λ is. cc)
decides_all_or_nothing Withdraw = (λ on. absurd (true≢false (sym on)), λ is. cc)
decides_all_or_nothing FillOrReject = (λ _. refl, λ _. refl)

pub decides_done : (s : State) → Decides (is_done s) (s ≡ Done)
decides_done Done = (λ _. refl, λ _. refl)
decides_done Waiting = (λ on. absurd (true≢false (sym on)), λ is. cc)
decides_done Active = (λ on. absurd (true≢false (sym on)), λ is. cc)

-- what an order that passed place's table is known to be
pub record Passed (w : World) (p : ℕ) (e : Terms) : Type 0 where
  pub register : length w.register ≡ w.day.settings.rows
  pub participant : p ≤ 63
  pub least : 1 ≤ e.sum
  pub most : e.sum ≤ 1000000
  pub percent : e.percent ≤ 100
  -- a percent goes with a limit queue order outside an auction
  pub iceberg : 1 ≤ e.percent → (e.kind ≡ Limit) × (e.remainder ≡ Queue) × (w.day.settings.mode ≡ Unaddressed)
  -- what a market order leaves is withdrawn
  pub market : e.kind ≡ Market → e.remainder ≡ Withdraw
  -- an auction deposit is a limit order that does not rest
  pub waits : Waits w.day e → (e.kind ≡ Limit) × (e.remainder ≡ Queue → ⊥)
  pub few : registered e.direction w.day.orders < 64
  pub room : waits_first w.day.settings.mode e ≡ false → opposite e.direction w.day.orders ≤ length w.register - w.day.used
  pub volume : waits_first w.day.settings.mode e ≡ false → volume_fails e w.day.orders ≡ false
  pub cover : can_reserve w.cover p e.sum ≡ true

in_range : (s : Settings) (e : Terms) → wrong_sum s e ≡ false → (1 ≤ e.sum) × (e.sum ≤ 1000000)
in_range s e off = let least : 1 ≤ s.least_sum = s.lawful.1.0 in (grind (arith, nat_tests), grind (arith, nat_tests))

in_percent : (percent greatest : ℕ) (a b c : Bool) → (ltb 0 percent && (a || ltb greatest percent || b || c)) ≡ false → greatest ≤ 100 → percent ≤ 100
in_percent percent greatest a b c off le = grind (arith, nat_tests)

iceberg_marks : (m : Mode) (k : Kind) (r : Remainder) (percent : ℕ)
    → (ltb 0 percent && (not (not (at_market k) && rests r) || in_auction m)) ≡ false → 1 ≤ percent
    → (k ≡ Limit) × (r ≡ Queue) × (m ≡ Unaddressed)
iceberg_marks Unaddressed Limit Queue percent off some = (refl, refl, refl)
iceberg_marks Auction Limit Queue percent off some = absurd (grind (arith, nat_tests))
iceberg_marks m Limit Withdraw percent off some = absurd (grind (arith, nat_tests))
iceberg_marks m Limit FillOrReject percent off some = absurd (grind (arith, nat_tests))
iceberg_marks m Market r percent off some = absurd (grind (arith, nat_tests))

market_marks : (k : Kind) (r : Remainder) → (at_market k && not (is_withdrawn r)) ≡ false → k ≡ Market → r ≡ Withdraw
market_marks k Withdraw off is = refl
market_marks Limit Queue off is = cc
market_marks Limit FillOrReject off is = cc
market_marks Market Queue off is = absurd (true≢false off)
market_marks Market FillOrReject off is = absurd (true≢false off)

auction_marks : (k : Kind) (r : Remainder) → (at_market k || rests r) ≡ false → (k ≡ Limit) × (r ≡ Queue → ⊥)
auction_marks Market r off = absurd (true≢false off)
auction_marks Limit Queue off = absurd (true≢false off)
auction_marks Limit Withdraw off = (refl, λ is. let z : ◌≡◌ {A = ℕ} 0 1 = cc in omega arith)
auction_marks Limit FillOrReject off = (refl, λ is. let z : ◌≡◌ {A = ℕ} 0 1 = cc in omega arith)

waiting_marks : (d : Day) (e : Terms) → unfit_for_auction d.settings.mode e ≡ false → Waits d e → (e.kind ≡ Limit) × (e.remainder ≡ Queue → ⊥)
waiting_marks d e off (auction, deposit) =
    auction_marks e.kind e.remainder
    (subst (λ (m : Mode). (in_auction m && cond (is_deposit Deposit) (at_market e.kind || rests e.remainder) (not (limit_queue e))) ≡ false) auction
    (subst (λ (x : Direction). (in_auction d.settings.mode && cond (is_deposit x) (at_market e.kind || rests e.remainder) (not (limit_queue e))) ≡ false) deposit off))

-- the lines of place's table, each told by its place
pub passed : (w : World) (p : ℕ) (e : Terms) → NoneBelow (length (place_table w p e)) (place_table w p e) → Passed w p e
passed w p e none =
    let marks = or_parts _ _ (none 6 (lit< tt)) in
    let misplaced = or_parts _ _ (or_parts _ _ marks.0).0 in
    record {
      register = eqb-true _ _ (not-false _ (none 0 (lit< tt)));
      participant = ltb-false _ _ (none 1 (lit< tt));
      least = (in_range w.day.settings e (none 3 (lit< tt))).0;
      most = (in_range w.day.settings e (none 3 (lit< tt))).1;
      percent = in_percent e.percent w.day.settings.greatest_percent _ _ _ (none 7 (lit< tt)) w.day.settings.lawful.0.2;
      iceberg = iceberg_marks w.day.settings.mode e.kind e.remainder e.percent misplaced.1;
      market = market_marks e.kind e.remainder misplaced.0;
      waits = waiting_marks w.day e marks.1;
      few = leb-false _ _ (none 9 (lit< tt));
      room = λ early. ltb-false _ _ (unless _ _ (none 10 (lit< tt)) early);
      volume = λ early. unless _ _ (none 11 (lit< tt)) early;
      cover = not-false _ (none 12 (lit< tt));
    }
  where
    unless : (a b : Bool) → (not a && b) ≡ false → a ≡ false → b ≡ false
    unless true b e off = absurd (true≢false off)
    unless false b e off = e

-- a clock call that passed its table
pub record ClockPassed (w : World) (time : ℕ) : Type 0 where
  pub register : length w.register ≡ w.day.settings.rows
  pub onward : w.day.clock ≤ time
  pub session : time ≤ last_time
  pub room : length (due time w.day.orders) * opposite Deposit w.day.orders ≤ length w.register - w.day.used

pub clock_passed : (w : World) (time : ℕ) → NoneBelow (length (clock_table w time)) (clock_table w time) → ClockPassed w time
clock_passed w time none =
    let times = or_parts _ _ (none 1 (lit< tt)) in
    record {
      register = eqb-true _ _ (not-false _ (none 0 (lit< tt)));
      onward = ltb-false _ _ times.0;
      session = ltb-false _ _ times.1;
      room = ltb-false _ _ (none 2 (lit< tt));
    }

-- a withdrawal that passed its table
pub record WithdrawPassed (d : Day) (n p : ℕ) : Type 0 where
  pub stands : (1 ≤ n) × (n ≤ length d.orders)
  pub own : (order_at d.orders (pred n)).owner ≡ p
  pub alive : (order_at d.orders (pred n)).state ≡ Done → ⊥

pub withdraw_passed : (d : Day) (n p : ℕ) → NoneBelow (length (withdraw_table d n p)) (withdraw_table d n p) → WithdrawPassed d n p
withdraw_passed d n p none =
    let known : (eqb n 0 ≡ false) × (ltb (length d.orders) n ≡ false) = or_parts _ _ (none 0 (lit< tt)) in
    record {
      stands = (omega (arith, eqb-false n 0 known.0), ltb-false _ _ known.1);
      own = eqb-true _ _ (not-false _ (none 1 (lit< tt)));
      alive = not_from_Decides _ (decides_done (order_at d.orders (pred n)).state) (none 2 (lit< tt));
    }
