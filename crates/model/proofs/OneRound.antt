-- One round: what it divides, and what it leaves.
use Rattle.std.proofs.Common.{◌≡◌, ℕ, ◌+◌, ◌*◌, ◌<◌, ◌≤◌, Bool, true, false, cond, not, eqb, ◌⊎◌, List, [], ◌∷◌, ◌++◌, length, sum, count_by, filter, sym, refl, ap, ◌∙◌, subst, inl, inr, le_trans, mul-le-mul_right, arith}
use Rattle.std.specs.List.{AllByRecursion}
use Rattle.std.proofs.ByRecursion.{All-map}
use Rattle.std.proofs.lemmas.List.{length-map, get_or_past}
use Rattle.std.proofs.lemmas.List.Sums.{sum_by-cons, count_by-le-length}
use Rattle.std.proofs.lemmas.Bool.{cases_lt, true≢false}
use Rattle.std.proofs.lemmas.Bool.Decides.{nat_tests}
use Rattle.orders.specs.Visible.{visible_sum}
use Rattle.orders.specs.declared.kinds.Direction.{Direction}
use Rattle.orders.specs.declared.kinds.Direction.TheVariants.{Deposit, Repo}
use Rattle.orders.specs.declared.kinds.Order.{Order}
use Rattle.orders.specs.declared.kinds.Terms.{Terms}
use Rattle.orders.specs.declared.settings.Settings.{Settings}
use Rattle.sharing.specs.Request.{VisibleSum, Lawful, Divides}
use Rattle.model.specs.Choices.{NoBetter, total, concluded_with}
use Rattle.model.specs.Entry.{NewRow, OneRowEach}
use Rattle.model.specs.Market.{Market, none, order_at, meets, offers, front, best, resting_rate, rates_at, visible_at}
use Rattle.model.specs.Place.{same_direction, registered}
use Rattle.model.specs.Rounds.{Rule, each_from, empty, share_at, refills, after_share, round_lots, round, after_round}
use Rattle.model.proofs.BestRate.{best_top, best_attained, no_better_same}
use Rattle.model.proofs.Exchange.{rate_at}
use Rattle.model.proofs.OneOrder.{visible_within, share_terms}
use Rattle.model.proofs.Places.{each_at, each_length, each_count, count_kept, all_counted, all_from_counted, few_places, share_total, share_within}
use Rattle.model.proofs.RowSums.{Partner, concluded_with_add_rows, new_rows_add_rows, single_add_rows}
use Rattle.model.specs.Calls.{LawfulRule}
use Rattle.model.specs.Sound.{SoundOrder, SoundMarket}
use Rattle.model.proofs.Totals.{meets_admissible}

-- an order concludes at its own rate
resting_rate_lem : (s : Settings) (orders : List Order) (k : ℕ) → resting_rate s (order_at orders k) ≡ rate_at orders k
resting_rate_lem s orders k = refl

-- place k stands in the market, and its order may be met
abbrev pub Offer : Terms → Market → ℕ → Type 0
Offer e m k = (k < length m.orders) × (meets e (order_at m.orders k) ≡ true)

-- an offer stands once among the offers, and nothing else does
offers_count : (e : Terms) (m : Market) (k : ℕ) → count_by (eqb k) (offers e m) ≡ cond (meets e (order_at m.orders k)) (count_by (eqb k) m.queue) 0
unfolding offers
offers_count e m k = count_kept (λ j. meets e (order_at m.orders j)) k m.queue

offer_counted : (e : Terms) (m : Market) → SoundMarket m → (k : ℕ) → Offer e m k → count_by (eqb k) (offers e m) ≡ 1
offer_counted e m sound k offer = offers_count e m k ∙ rw offer.1 (sound.queued k offer.0)

counted_offer : (e : Terms) (m : Market) → SoundMarket m → (k : ℕ) → 1 ≤ count_by (eqb k) (offers e m) → Offer e m k
counted_offer e m sound k some = by_test (meets e (order_at m.orders k)) refl (cases_lt k (length m.orders))
  where
    by_test : (b : Bool) → meets e (order_at m.orders k) ≡ b → (k < length m.orders) ⊎ (length m.orders ≤ k) → Offer e m k
    by_test true met (inl inside) = (inside, met)
    by_test true met (inr outside) = absurd (omega (arith, rw met at (offers_count e m k), sound.inside k outside))
    by_test false met place = absurd (omega (arith, rw met at (offers_count e m k)))

-- no offer: no order may be met
pub no_offer : (e : Terms) (m : Market) → SoundMarket m → empty (offers e m) ≡ true → (k : ℕ) → k < length m.orders → meets e (order_at m.orders k) ≡ false
no_offer e m sound is k inside = by_test (meets e (order_at m.orders k)) refl
  where
    never : (ks : List ℕ) → empty ks ≡ true → count_by (eqb k) ks ≡ 0
    never [] is = refl
    never (c ∷ cs) is = cc

    by_test : (b : Bool) → meets e (order_at m.orders k) ≡ b → b ≡ false
    by_test true met = absurd (omega (arith, offer_counted e m sound k (inside, met), never (offers e m) is))
    by_test false met = refl

-- the best rate of the offers
abbrev pub best_rate : Settings → Terms → Market → ℕ
best_rate s e m = best e.direction (rates_at s m.orders (offers e m))

-- an offer has the best rate, and none has a better one
best_offered : (s : Settings) (e : Terms) (m : Market) → SoundMarket m → empty (offers e m) ≡ false
    → (k : ℕ) × Offer e m k × (resting_rate s (order_at m.orders k) ≡ best_rate s e m)
best_offered s e m sound is =
    let one = some_best (offers e m) is in
    (one.0, counted_offer e m sound one.0 one.1, one.2)
  where
    some_best : (ks : List ℕ) → empty ks ≡ false
        → (k : ℕ) × (1 ≤ count_by (eqb k) ks) × (resting_rate s (order_at m.orders k) ≡ best e.direction (rates_at s m.orders ks))
    some_best [] is = absurd (true≢false is)
    some_best (c ∷ cs) is = best_attained e.direction (λ k. resting_rate s (order_at m.orders k)) c cs

no_better_offer : (s : Settings) (e : Terms) (m : Market) → SoundMarket m → (k : ℕ) → Offer e m k
    → NoBetter e.direction (resting_rate s (order_at m.orders k)) (best_rate s e m)
no_better_offer s e m sound k offer =
    all_counted (λ j. NoBetter e.direction (resting_rate s (order_at m.orders j)) (best_rate s e m)) k (offers e m)
    (best_top e.direction (λ j. resting_rate s (order_at m.orders j)) (offers e m) (best_rate s e m) (no_better_same e.direction (best_rate s e m) (best_rate s e m) refl))
    (omega (arith, offer_counted e m sound k offer))

-- the offers at the best rate
front_count : (s : Settings) (e : Terms) (m : Market) (k : ℕ)
    → count_by (eqb k) (front s e m) ≡ cond (eqb (resting_rate s (order_at m.orders k)) (best_rate s e m)) (count_by (eqb k) (offers e m)) 0
unfolding front
front_count s e m k = count_kept (λ j. eqb (resting_rate s (order_at m.orders j)) (best_rate s e m)) k (offers e m)

-- a place of the front has the best rate and may be met
counted_front : (s : Settings) (e : Terms) (m : Market) → SoundMarket m → (k : ℕ) → 1 ≤ count_by (eqb k) (front s e m)
    → Offer e m k × (resting_rate s (order_at m.orders k) ≡ best_rate s e m)
counted_front s e m sound k some =
    let is = front_count s e m k in
    (counted_offer e m sound k (grind (arith, nat_tests)), grind (arith, nat_tests))

-- it stands there once
front_once : (s : Settings) (e : Terms) (m : Market) → SoundMarket m → (k : ℕ) → count_by (eqb k) (front s e m) ≤ 1
front_once s e m sound k =
    elim (cases_lt 0 (count_by (eqb k) (front s e m))) [
      | inl some ↦
          let is = front_count s e m k in
          let once = offer_counted e m sound k (counted_front s e m sound k some).0 in
          grind (arith, nat_tests)
      | inr none ↦ omega arith
    ]

front_inside : (s : Settings) (e : Terms) (m : Market) → SoundMarket m → (k : ℕ) → length m.orders ≤ k → count_by (eqb k) (front s e m) ≡ 0
front_inside s e m sound k outside =
    elim (cases_lt 0 (count_by (eqb k) (front s e m))) [
      | inl some ↦ let inside : k < length m.orders = (counted_front s e m sound k some).0.0 in omega arith
      | inr none ↦ omega arith
    ]

-- the front has at least one place and at most 64, for those met are of the other direction
front_some : (s : Settings) (e : Terms) (m : Market) → SoundMarket m → empty (offers e m) ≡ false → 1 ≤ length (front s e m)
front_some s e m sound is =
    let one = best_offered s e m sound is in
    let k : ℕ = one.0 in
    let count = front_count s e m k in
    let once = offer_counted e m sound k one.1 in
    let rate = one.2 in
    let some : 1 ≤ count_by (eqb k) (front s e m) = grind (arith, nat_tests) in
    omega (arith, count_by-le-length (eqb k) (front s e m))

-- the other direction
abbrev other_direction : Direction → Direction
other_direction Deposit = Repo
other_direction Repo = Deposit

met_other : (e : Terms) (o : Order) → meets e o ≡ true → same_direction (other_direction e.direction) o.terms.direction ≡ true
met_other e o met =
    elim (meets_admissible e o met).1 [
      | inl a ↦ rw (a.0, a.1) refl
      | inr b ↦ rw (b.0, b.1) refl
    ]

front_few : (s : Settings) (e : Terms) (m : Market) → SoundMarket m → length (front s e m) ≤ 64
front_few s e m sound =
    le_trans
    (few_places (λ o. same_direction (other_direction e.direction) o.terms.direction) m.orders none (front s e m) (front_inside s e m sound)
    (λ k _. each k (cases_lt 0 (count_by (eqb k) (front s e m)))))
    (sound.few (other_direction e.direction))
  where
    each : (k : ℕ) → (0 < count_by (eqb k) (front s e m)) ⊎ (count_by (eqb k) (front s e m) ≤ 0)
        → count_by (eqb k) (front s e m) ≤ cond (same_direction (other_direction e.direction) (order_at m.orders k).terms.direction) 1 0
    each k (inl some) = rw (met_other e (order_at m.orders k) (counted_front s e m sound k some).0.1) (front_once s e m sound k)
    each k (inr none) = omega arith

-- an order that may be met shows lots
met_visible : (e : Terms) (m : Market) → SoundMarket m → (k : ℕ) → Offer e m k → VisibleSum (order_at m.orders k).visible
met_visible e m sound k offer =
    let o : Order = order_at m.orders k in
    let is : SoundOrder o = sound.orders k offer.0 in
    let shows : (1 ≤ o.visible) × (o.visible ≤ visible_sum o.terms.sum o.terms.percent) = is.showing (meets_admissible e o offer.1).0 in
    let most : o.terms.sum ≤ 1000000 = is.most in
    (shows.0, omega (arith, visible_within o.terms.sum o.terms.percent))

-- visible sums have a sum
sum_some : (xs : List ℕ) → AllByRecursion VisibleSum xs → 1 ≤ length xs → 1 ≤ sum xs
sum_some [] each some = omega arith
sum_some (x ∷ xs) each some = omega (arith, sum_by-cons (λ (y : ℕ). y) x xs, each.0.0)

-- the rule is asked lawfully
pub round_lawful : (s : Settings) (e : Terms) (left : ℕ) (m : Market) → SoundMarket m → 1 ≤ left → empty (offers e m) ≡ false
    → Lawful (visible_at m.orders (front s e m)) (round_lots s e left m)
unfolding round_lots
round_lawful s e left m sound some is =
    let v : List ℕ = visible_at m.orders (front s e m) in
    let long : length v ≡ length (front s e m) = length-map (front s e m) (λ k. (order_at m.orders k).visible) in
    let each : AllByRecursion VisibleSum v =
    All-map VisibleSum (λ k. (order_at m.orders k).visible) (front s e m)
    (all_from_counted (λ k. VisibleSum (order_at m.orders k).visible) (front s e m) (λ k c. met_visible e m sound k (counted_front s e m sound k c).0)) in
    let one : 1 ≤ length v = omega (arith, front_some s e m sound is) in
    let lots : 1 ≤ sum v = sum_some v each one in
    record { some = one; few = omega (arith, front_few s e m sound); each = each; least = omega arith; covered = omega arith }

-- what a round of q lots does to a market, for the orders at the best rate
pub record Round (e : Terms) (n q : ℕ) (m after : Market) : Type 0 where
  pub share : ℕ → ℕ
  pub rate : ℕ
  -- a share is within the visible lots, and goes to an order that may be met, at the round's rate
  pub within : (k : ℕ) → share k ≤ (order_at m.orders k).visible
  pub met : (k : ℕ) → 1 ≤ share k → Offer e m k × (rate_at m.orders k ≡ rate)
  pub whole : total (length m.orders) share ≡ q
  -- one that may be met has this rate, and none has a better one
  pub attained : (k : ℕ) × Offer e m k × (rate_at m.orders k ≡ rate)
  pub top : (k : ℕ) → Offer e m k → NoBetter e.direction (rate_at m.orders k) rate
  pub same : length after.orders ≡ length m.orders
  pub orders : (k : ℕ) → order_at after.orders k ≡ after_share (share k) (order_at m.orders k)
  pub queue : after.queue ≡ filter (λ k. not (refills (share k) (order_at m.orders k))) m.queue ++ filter (λ k. refills (share k) (order_at m.orders k)) m.queue
  pub registers : (d : Direction) → registered d after.orders ≡ registered d m.orders
  pub concludes : (k : ℕ) → concluded_with e.direction n after.rows k ≡ concluded_with e.direction n m.rows k + share k
  pub new_rows : (before : List Order) → ((k : ℕ) → Offer e m k → Partner e before m.orders k) → AllByRecursion (NewRow e n before) m.rows → AllByRecursion (NewRow e n before) after.rows
  pub single : OneRowEach m.rows → OneRowEach after.rows

-- the shares of the front
module _ (s : Settings) (e : Terms) (m : Market) (sound : SoundMarket m) (q : ℕ) (shares : List ℕ)
    (divides : Divides (visible_at m.orders (front s e m)) q shares) where
  front_within : (k : ℕ) → share_at k (front s e m) shares ≤ count_by (eqb k) (front s e m) * (order_at m.orders k).visible
  front_within k = share_within (λ j. (order_at m.orders j).visible) k (front s e m) shares divides.long divides.within

  within_visible : (k : ℕ) → share_at k (front s e m) shares ≤ (order_at m.orders k).visible
  within_visible k =
      let once : count_by (eqb k) (front s e m) * (order_at m.orders k).visible ≤ 1 * (order_at m.orders k).visible =
      mul-le-mul_right (order_at m.orders k).visible (front_once s e m sound k) in
      omega (arith, front_within k)

  share_met : (k : ℕ) → 1 ≤ share_at k (front s e m) shares → 1 ≤ count_by (eqb k) (front s e m)
  share_met k some =
      elim (cases_lt 0 (count_by (eqb k) (front s e m))) [
        | inl once ↦ once
        | inr never ↦
            let zero_times : count_by (eqb k) (front s e m) * (order_at m.orders k).visible ≤ 0 * (order_at m.orders k).visible =
            mul-le-mul_right (order_at m.orders k).visible never in
            omega (arith, front_within k)
      ]

  -- by place, outside the market too
  each_order : (k : ℕ) → order_at (each_from (λ j o. after_share (share_at j (front s e m) shares) o) 0 m.orders) k
      ≡ after_share (share_at k (front s e m) shares) (order_at m.orders k)
  each_order k =
      elim (cases_lt k (length m.orders)) [
        | inl inside ↦
            let from : 0 + k ≡ k = omega arith in
            each_at (λ j o. after_share (share_at j (front s e m) shares) o) 0 m.orders k inside
            ∙ ap (λ (j : ℕ). after_share (share_at j (front s e m) shares) (order_at m.orders k)) from
        | inr outside ↦
            let gone : order_at m.orders k ≡ none = get_or_past m.orders k none outside in
            let after : order_at (each_from (λ j o. after_share (share_at j (front s e m) shares) o) 0 m.orders) k ≡ none =
            get_or_past _ k none (omega (arith, each_length (λ j o. after_share (share_at j (front s e m) shares) o) 0 m.orders)) in
            let empty : (order_at m.orders k).visible ≡ 0 = ap (λ (o : Order). o.visible) gone in
            let nothing : share_at k (front s e m) shares ≡ 0 = omega (arith, within_visible k) in
            after ∙ rw (nothing, gone) refl
      ]

  pub after_round_lem : (n : ℕ) → empty (offers e m) ≡ false → Round e n q m (after_round s e n (front s e m) shares m)
  unfolding after_round
  after_round_lem n is = record {
    share = λ k. share_at k (front s e m) shares;
    rate = best_rate s e m;
    within = within_visible;
    met = λ k some. let at = counted_front s e m sound k (share_met k some) in (at.0, sym (resting_rate_lem s m.orders k) ∙ at.1);
    whole = share_total (length m.orders) (front s e m) shares (front_inside s e m sound) (divides.long ∙ length-map (front s e m) (λ k. (order_at m.orders k).visible)) ∙ divides.whole;
    attained = let one = best_offered s e m sound is in (one.0, one.1, sym (resting_rate_lem s m.orders one.0) ∙ one.2);
    top = λ k offer. subst (λ (x : ℕ). NoBetter e.direction x (best_rate s e m)) (resting_rate_lem s m.orders k) (no_better_offer s e m sound k offer);
    same = each_length (λ j o. after_share (share_at j (front s e m) shares) o) 0 m.orders;
    orders = each_order;
    queue = refl;
    registers = λ d. each_count (λ o. same_direction d o.terms.direction) (λ j o. after_share (share_at j (front s e m) shares) o)
        (λ k o. ap (λ (t : Terms). same_direction d t.direction) (share_terms (share_at k (front s e m) shares) o)) 0 m.orders;
    concludes = concluded_with_add_rows s e.direction n m.orders (front s e m) shares m.rows;
    new_rows = λ before partners. new_rows_add_rows s e n before m.orders (front s e m) shares m.rows
        (all_from_counted (Partner e before m.orders) (front s e m) (λ k c. partners k (counted_front s e m sound k c).0));
    single = single_add_rows s e.direction n m.orders (front s e m) shares m.rows;
  }

-- a round is one
pub round_is : (rule : Rule) (s : Settings) (e : Terms) (n left : ℕ) (m : Market) → LawfulRule rule → SoundMarket m → 1 ≤ left
    → empty (offers e m) ≡ false → Round e n (round_lots s e left m) m (round rule s e n left m)
unfolding round
round_is rule s e n left m lawful sound some is =
    after_round_lem s e m sound (round_lots s e left m) (rule (visible_at m.orders (front s e m)) (round_lots s e left m))
    (lawful (visible_at m.orders (front s e m)) (round_lots s e left m) (round_lawful s e left m sound some is)) n is
