-- What a round asks for and does, in a sound market and by a lawful rule.
use Rattle.std.proofs.Common.{◌≡◌, ℕ, ◌+◌, ◌^◌, ◌<◌, ◌≤◌, min, List, [], length, Some, sum, sym, refl, ap, ◌∙◌, arith}
use Rattle.std.specs.List.{All}
use Rattle.std.proofs.lemmas.List.{length-map}
use Rattle.orders.specs.declared.kinds.Row.{Row}
use Rattle.orders.specs.declared.kinds.Terms.{Terms}
use Rattle.orders.specs.declared.settings.Settings.{Settings}
use Rattle.sharing.specs.Request.{Divides, Lawful}
use Rattle.sharing.proofs.Bounds.{lawful_fit}
use Rattle.model.specs.Market.{Market, front, offers, order_at, rates_at, visible_at}
use Rattle.model.specs.Rounds.{Rule, after_round, round, round_lots, share_at}
use Rattle.model.specs.Rows.{add_rows}
use Rattle.model.proofs.OneRound.{round_lawful}
use Rattle.model.specs.Calls.{LawfulRule}
use Rattle.desk.specs.Matching.{Fit, RoundReady, best_of, market_of, places_at}
use Rattle.desk.proofs.AddingRows.{all_lots, all_more, row_lots}
use Rattle.desk.proofs.BestPlaces.{front_at, front_fit, front_places}

-- a round divides no more than is left
pub lots_within : (s : Settings) (e : Terms) (left : ℕ) (m : Market) (lots : ℕ) → lots ≡ round_lots s e left m → lots ≤ left
unfolding round_lots
lots_within s e left m lots is = omega arith

-- it divides what is left, or all that is visible
pub lots_are : (s : Settings) (e : Terms) (left : ℕ) (m : Market) (sums : List ℕ) (lots : ℕ) → sums ≡ visible_at m.orders (front s e m)
    → lots ≡ min left (sum sums) → lots ≡ round_lots s e left m
unfolding round_lots
lots_are s e left m sums lots shown is = is ∙ ap (λ (xs : List ℕ). min left (sum xs)) shown

-- what settling a round asks for
pub record SettleAsks (s : Settings) (e : Terms) (n : ℕ) (m : Market) (rows : List Row) (places shares : List ℕ) : Type 0 where
  pub listed : All (λ k. k < length m.orders) places
  pub each : length shares ≡ length places
  pub fit : Fit (λ k. share_at k places shares) m.orders
  pub room : length (add_rows s e.direction n m.orders places shares m.rows) ≤ length rows
  pub fits : row_lots m.rows + sum shares < 2 ^ 32

-- the visible sums of a round, and its lawful request
pub record RoundSums (s : Settings) (e : Terms) (left : ℕ) (m : Market) (sums : List ℕ) : Type 0 where
  pub shown : sums ≡ visible_at m.orders (front s e m)
  pub fit : sum sums < 2 ^ 32
  pub lawful : Lawful sums (min left (sum sums))

module _ {rule : Rule} {s : Settings} {e : Terms} {n left : ℕ} {m : Market} {rows : List Row} (ready : RoundReady rule s e n left m rows) where
  abbrev asked : List ℕ
  asked = visible_at m.orders (front s e m)

  lawful_request : Lawful asked (round_lots s e left m)
  lawful_request = round_lawful s e left m ready.sound ready.some ready.offered

  pub some_lots : 1 ≤ round_lots s e left m
  some_lots = lawful_request.least

  -- the orders at the best rate
  module _ (rate : ℕ) (best : Some rate ≡ best_of e.direction (rates_at s m.orders (offers e (market_of m.orders m.queue [])))) where
    pub few_places : length (places_at s e rate m.orders m.queue) ≤ 64
    few_places =
        omega (arith, lawful_request.few, length-map (front s e m) (λ k. (order_at m.orders k).visible), ap length (front_at s e m rate best))

    pub round_places : (places : List ℕ) → places ≡ places_at s e rate m.orders m.queue → places ≡ front s e m
    round_places places listed = listed ∙ sym (front_at s e m rate best)

    pub round_sums : (places sums : List ℕ) → places ≡ places_at s e rate m.orders m.queue → sums ≡ visible_at m.orders places → RoundSums s e left m sums
    unfolding round_lots
    round_sums places sums listed visible =
        rw (visible, round_places places listed)
        (record { shown = refl; fit = lawful_fit asked (round_lots s e left m) lawful_request; lawful = lawful_request })

  -- the shares of a lawful rule
  module _ (lawful : LawfulRule rule) where
    abbrev given : List ℕ
    given = rule asked (round_lots s e left m)

    divides : Divides asked (round_lots s e left m) given
    divides = lawful asked (round_lots s e left m) lawful_request

    front_asks : SettleAsks s e n m rows (front s e m) given
    unfolding round after_round
    front_asks = record {
      listed = front_places s e m ready.sound;
      each = divides.long ∙ length-map (front s e m) (λ k. (order_at m.orders k).visible);
      fit = front_fit s e m (round_lots s e left m) given ready.sound divides;
      room = ready.room;
      fits = omega (arith, ready.fits, divides.whole, lots_within s e left m (round_lots s e left m) refl);
    }

    -- its lots are added to the rows, which are no fewer
    pub round_lots_lem : row_lots (round rule s e n left m).rows ≡ row_lots m.rows + round_lots s e left m
    unfolding round after_round
    round_lots_lem =
        all_lots s e.direction n m.orders (front s e m) given m.rows front_asks.each
        ∙ ap (λ (x : ℕ). row_lots m.rows + x) divides.whole

    pub round_more : length m.rows ≤ length (round rule s e n left m).rows
    unfolding round after_round
    round_more = all_more s e.direction n m.orders (front s e m) given m.rows

    -- those of `lots` lots, as the rule gives them
    module _ (places sums : List ℕ) (lots : ℕ) (listed : places ≡ front s e m) (shown : sums ≡ asked) (is : lots ≡ min left (sum sums))
        (shares : List ℕ) (after : shares ≡ rule sums lots) where
      shares_are : shares ≡ given
      shares_are = after ∙ rw (shown, lots_are s e left m sums lots shown is) refl

      pub round_asks : SettleAsks s e n m rows places shares
      round_asks = rw (listed, shares_are) front_asks

      pub round_settled : after_round s e n places shares m ≡ round rule s e n left m
      unfolding round
      round_settled = rw (listed, shares_are) refl
