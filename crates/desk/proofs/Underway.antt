-- Where the rounds of an entry have come to.
use Rattle.std.proofs.Common.{◌≡◌, ℕ, zero, suc, ◌+◌, ◌-◌, ◌<◌, ◌≤◌, true, false, eqb, List, [], length, take, drop, Some, None, sym, refl, ap, ◌∙◌, subst, arith}
use Rattle.std.specs.List.{All}
use Rattle.std.proofs.lemmas.List.{length-take-le}
use Rattle.std.proofs.lemmas.Bool.{eq-eqb, or_left, or_right}
use Rattle.std.proofs.lemmas.Bool.Decides.{nat_tests}
use Rattle.orders.specs.declared.kinds.Order.{Order}
use Rattle.orders.specs.declared.kinds.Row.{Row}
use Rattle.orders.specs.declared.kinds.Terms.{Terms}
use Rattle.orders.specs.declared.settings.Settings.{Settings}
use Rattle.model.specs.Market.{Market, offers, rates_at}
use Rattle.model.specs.Rounds.{Rule, Meeting, empty, meeting, round, round_lots, rounds, stops}
use Rattle.model.proofs.AllRounds.{Reached, reached_first, reached_more}
use Rattle.model.proofs.OneRound.{round_is}
use Rattle.model.proofs.RowSums.{few_rows}
use Rattle.model.specs.Calls.{LawfulRule}
use Rattle.desk.specs.Matching.{EntryReady, RoundReady, Stands, best_of, market_of}
use Rattle.desk.proofs.AddingRows.{row_lots}
use Rattle.desk.proofs.BestPlaces.{best_offers, none_offers, queue_places}
use Rattle.desk.proofs.RoundFacts.{lots_within, round_lots_lem, round_more, some_lots}
use Rattle.desk.proofs.RowPlaces.{rows_long, same_later}

-- rounds stop, or go on
rounds_stop : (fuel : ℕ) (rule : Rule) (s : Settings) (e : Terms) (n left : ℕ) (m : Market) → stops e left m ≡ true
    → rounds fuel rule s e n left m ≡ record { left = left; market = m }
unfolding rounds
rounds_stop zero rule s e n left m is = refl
rounds_stop (suc more) rule s e n left m is = rw (is, rounds) refl

rounds_go_on : (more : ℕ) (rule : Rule) (s : Settings) (e : Terms) (n left : ℕ) (m : Market) → stops e left m ≡ false
    → rounds (suc more) rule s e n left m ≡ rounds more rule s e n (left - round_lots s e left m) (round rule s e n left m)
unfolding rounds
rounds_go_on more rule s e n left m is = rw (is, rounds) refl

-- so much is left of the order that entered a market, and the market and its rows stand so
pub record Underway (rule : Rule) (s : Settings) (e : Terms) (n : ℕ) (m : Market) (before : List Row) (left : ℕ) (orders : List Order) (queue : List ℕ) (rows : List Row) (made : ℕ) : Type 0 where
  pub reached : Reached e n m left (market_of orders queue (take made rows))
  pub fuel : ℕ
  pub enough : left ≤ fuel
  pub goes : rounds fuel rule s e n left (market_of orders queue (take made rows)) ≡ meeting rule s e n m
  pub long : length queue ≡ length orders
  pub wide : length rows ≡ length before
  pub inside : made ≤ length rows
  pub rest : drop made rows ≡ drop made before
  pub fits : row_lots (take made rows) + left ≤ 1000000

pub underway_first : {rule : Rule} {s : Settings} {e : Terms} {n : ℕ} {orders : List Order} {queue : List ℕ} {before : List Row}
    → EntryReady e (market_of orders queue []) before
    → Underway rule s e n (market_of orders queue []) before e.sum orders queue before 0
unfolding meeting
underway_first {rule} {s} {e} {n} {orders} {queue} {before} entry = record {
  reached = reached_first e n (market_of orders queue []) entry.sound refl;
  fuel = e.sum;
  enough = omega arith;
  goes = refl;
  long = entry.long;
  wide = refl;
  inside = omega arith;
  rest = refl;
  fits = omega (arith, entry.most);
}

module _ {rule : Rule} {s : Settings} {e : Terms} {n : ℕ} {m : Market} {before : List Row} {left : ℕ} {orders : List Order} {queue : List ℕ} {rows : List Row} {made : ℕ}
    (at : Underway rule s e n m before left orders queue rows made) where
  abbrev pub now : Market
  now = market_of orders queue (take made rows)

  pub underway_places : All (λ k. k < length orders) queue
  underway_places = queue_places now at.reached.sound

  pub underway_within : left ≤ e.sum
  underway_within = omega (arith, at.reached.whole)

  -- rounds stop
  abbrev pub Ends : Type 0
  Ends = (left ≡ (meeting rule s e n m).left) × Stands (meeting rule s e n m).market orders queue before rows made

  ends : stops e left now ≡ true → Ends
  ends is =
      let all : record { left = left; market = now } ≡ meeting rule s e n m = sym (rounds_stop at.fuel rule s e n left now is) ∙ at.goes in
      subst (λ (x : Meeting). (left ≡ x.left) × Stands x.market orders queue before rows made) all
      (refl, record { ordered = refl; queued = refl; rows = record { count = sym (length-take-le made rows at.inside); written = refl; rest = at.rest } })

  -- nothing is left
  pub underway_done : left ≤ 0 → Ends
  underway_done none = ends (or_left (eqb left 0) (empty (offers e now)) (eq-eqb left 0 (omega arith)))

  -- nothing may be met
  pub underway_alone : None ≡ best_of e.direction (rates_at s orders (offers e (market_of orders queue []))) → Ends
  underway_alone best = ends (or_right (eqb left 0) (empty (offers e now)) (none_offers s e now best))

  -- a round is held
  module _ (lawful : LawfulRule rule) (entry : EntryReady e m before) (some : 1 ≤ left) (rate : ℕ)
      (best : Some rate ≡ best_of e.direction (rates_at s orders (offers e (market_of orders queue [])))) where
    offered : empty (offers e now) ≡ false
    offered = best_offers s e now rate best

    next : Reached e n m (left - round_lots s e left now) (round rule s e n left now)
    next =
        reached_more e n m left now (round_lots s e left now) (round rule s e n left now) at.reached
        (round_is rule s e n left now lawful at.reached.sound some offered) (lots_within s e left now (round_lots s e left now) refl)

    pub underway_ready : RoundReady rule s e n left now rows
    underway_ready = record {
      sound = at.reached.sound;
      few = omega (arith, at.reached.same, entry.few);
      long = at.long;
      some = some;
      offered = offered;
      room = omega (arith, at.wide, entry.room, few_rows e n m.orders (round rule s e n left now).rows next.rows next.single);
      fits = omega (arith, at.fits);
    }

    -- and leaves less
    module _ (lots : ℕ) (lots_is : lots ≡ round_lots s e left now) where
      pub underway_less : left - lots < left
      underway_less = omega (arith, some_lots underway_ready)

      pub underway_more : (orders_after : List Order) (queue_after : List ℕ) (after : List Row) (Made-after : ℕ)
          → Stands (round rule s e n left now) orders_after queue_after rows after Made-after
          → length orders_after ≡ length orders → length queue_after ≡ length queue → Made-after ≤ length after
          → Underway rule s e n m before (left - lots) orders_after queue_after after Made-after
      underway_more orders_after queue_after after Made-after stands same_orders same_queue within =
          let market : round rule s e n left now ≡ market_of orders_after queue_after (take Made-after after) =
          rw (stands.ordered, stands.queued, stands.rows.written) refl in
          let later : made ≤ Made-after = omega (arith, stands.rows.count, round_more underway_ready lawful, length-take-le made rows at.inside) in
          record {
            reached = rw lots_is (subst (Reached e n m (left - round_lots s e left now)) market next);
            fuel = at.fuel - 1;
            enough = omega (arith, at.enough, underway_less);
            goes = rw (lots_is, sym market) (one_less at.fuel at.enough at.goes);
            long = omega (arith, at.long);
            wide = omega (arith, at.wide, rows_long stands.rows (omega (arith, stands.rows.count, underway_ready.room)) within);
            inside = within;
            rest = stands.rows.rest ∙ same_later made Made-after rows before later at.rest;
            fits = omega (arith, at.fits, lots_within s e left now lots lots_is, ap row_lots stands.rows.written, round_lots_lem underway_ready lawful);
          }
        where
          one_less : (fuel : ℕ) → left ≤ fuel → rounds fuel rule s e n left now ≡ meeting rule s e n m
              → rounds (fuel - 1) rule s e n (left - round_lots s e left now) (round rule s e n left now) ≡ meeting rule s e n m
          one_less zero enough goes = absurd (omega arith)
          one_less (suc more) enough goes =
              let less : suc more - 1 ≡ more = omega arith in
              let on : stops e left now ≡ false = rw offered (grind (arith, nat_tests)) in
              rw less (sym (rounds_go_on more rule s e n left now on) ∙ goes)
