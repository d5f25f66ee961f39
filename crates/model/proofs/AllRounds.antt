-- AllByRecursion rounds of an order that enters: what they reach, and that they end.
use Rattle.std.proofs.Common.{◌≡◌, ℕ, zero, suc, ◌+◌, ◌-◌, ◌<◌, ◌≤◌, Bool, true, false, cond, not, ◌&&◌, eqb, List, [], ◌∷◌, ◌++◌, length, count_by, filter, sym, refl, ap, ◌∙◌, subst, inl, inr, le_trans, arith}
use Rattle.std.specs.List.{AllByRecursion}
use Rattle.std.proofs.lemmas.List.Elements.{filter-append}
use Rattle.std.proofs.ByRecursion.{All-append, all_kept_by, All-weaker, kept_by_passes}
use Rattle.std.proofs.lemmas.List.{append-nil, append_assoc}
use Rattle.std.proofs.lemmas.Bool.{cases_lt, cases_Bool}
use Rattle.std.proofs.lemmas.Bool.Decides.{nat_tests}
use Rattle.orders.specs.declared.kinds.Direction.{Direction}
use Rattle.orders.specs.declared.kinds.Direction.TheVariants.{Deposit, Repo}
use Rattle.orders.specs.declared.kinds.Order.{Order}
use Rattle.orders.specs.declared.kinds.Row.{Row}
use Rattle.orders.specs.declared.kinds.Terms.{Terms}
use Rattle.orders.specs.declared.settings.Settings.{Settings}
use Rattle.model.specs.Choices.{Admissible, TermsMeet, NoBetter, total, concluded_with}
use Rattle.model.specs.Entry.{NewRow, OneRowEach, Touched, Queued}
use Rattle.model.specs.Market.{Market, order_at, lots_of, meets, offers}
use Rattle.model.specs.Rounds.{Rule, Meeting, empty, stops, refills, round_lots, round, rounds}
use Rattle.model.proofs.Exchange.{rate_at, Beats, Threshold}
use Rattle.model.proofs.OneOrder.{Shared, shared, untouched, touched_more}
use Rattle.model.proofs.OneRound.{Offer, Round, no_offer, round_lawful, round_is}
use Rattle.model.proofs.Places.{count_parted}
use Rattle.model.proofs.RowSums.{Partner}
use Rattle.model.specs.Calls.{LawfulRule}
use Rattle.model.specs.Sound.{SoundMarket}
use Rattle.model.proofs.Totals.{total_same, total_add, total_zero, part_le_total, meets_admissible, admissible_meets}

-- the lots that order n with the terms e concluded with the order at each place, by the rows of a market
abbrev pub lots_with : Terms → ℕ → Market → ℕ → ℕ
lots_with e n m = concluded_with e.direction n m.rows

-- an order that has lots left is admissible after a conclusion exactly if it was before
pub met_before : (e : Terms) (c : ℕ) (o after : Order) → Touched c o after → 1 ≤ lots_of after → Admissible e after → Admissible e o
met_before e c o after t some met = (sym (t.goes_on some) ∙ met.0, subst (TermsMeet e) t.terms met.1)

pub met_after : (e : Terms) (c : ℕ) (o after : Order) → Touched c o after → 1 ≤ lots_of after → Admissible e o → Admissible e after
met_after e c o after t some met = (t.goes_on some ∙ met.0, subst (TermsMeet e) (sym t.terms) met.1)

-- one that may no longer be met has none left
pub met_out : (e : Terms) (c : ℕ) (o after : Order) → Touched c o after → Admissible e o → meets e after ≡ false → lots_of after ≡ 0
met_out e c o after t met out =
    elim (cases_lt 0 (lots_of after)) [
      | inl some ↦ let z : ◌≡◌ {A = ℕ} 0 1 = cc (admissible_meets e after (met_after e c o after t some met)) in absurd (omega arith)
      | inr none ↦ omega arith
    ]

-- its rate stays
rate_kept : (c : ℕ) (o after : Order) → Touched c o after → after.terms.rate.hundredths ≡ o.terms.rate.hundredths
rate_kept c o after t = ap (λ (x : Terms). x.rate.hundredths) t.terms

-- where the rounds of order n with the terms e have come to from a market
pub record Reached (e : Terms) (n : ℕ) (m : Market) (left : ℕ) (now : Market) : Type 0 where
  pub sound : SoundMarket now
  pub same : length now.orders ≡ length m.orders
  pub orders : (k : ℕ) → Touched (lots_with e n now k) (order_at m.orders k) (order_at now.orders k)
  pub hidden : (k : ℕ) → (order_at now.orders k).hidden ≤ (order_at m.orders k).hidden
  pub queue : Queued m now
  pub rows : AllByRecursion (NewRow e n m.orders) now.rows
  pub single : OneRowEach now.rows
  pub whole : left + total (length m.orders) (lots_with e n now) ≡ e.sum
  -- better rates than the bar are used up, worse ones are not touched
  pub bar : ℕ
  pub threshold : Threshold e.direction e m.orders (lots_with e n now) bar
  pub top : (k : ℕ) → Offer e now k → NoBetter e.direction (rate_at now.orders k) bar

-- a rate that beats another is better
no_better_beats : (d : Direction) (a b : ℕ) → NoBetter d a b → Beats d a b → ⊥
no_better_beats Deposit a b x y = omega arith
no_better_beats Repo a b x y = omega arith

beats_chain : (d : Direction) (a b c : ℕ) → NoBetter d a b → Beats d a c → Beats d b c
beats_chain Deposit a b c x y = omega arith
beats_chain Repo a b c x y = omega arith

beats_other : (d : Direction) (a b : ℕ) → Beats d a b → b ≡ a → ⊥
beats_other Deposit a b x e = omega arith
beats_other Repo a b x e = omega arith

-- a rate that no order's is better than
first_bar : (d : Direction) (orders : List Order) → (b : ℕ) × ((k : ℕ) → k < length orders → NoBetter d (rate_at orders k) b)
first_bar Deposit orders = (total (length orders) (rate_at orders), part_le_total (length orders) (rate_at orders))
first_bar Repo orders = (0, λ k inside. omega arith)

-- a test that all pass keeps all
kept_all : (p : ℕ → Bool) (ks : List ℕ) → ((k : ℕ) → p k ≡ true) → filter p ks ≡ ks
kept_all p [] all = refl
kept_all p (k ∷ ks) all = rw (all k, kept_all p ks all) refl

queued_same : (m : Market) → Queued m m
queued_same m = record {
  back = [];
  queue = sym (append-nil _ ∙ kept_all (λ k. eqb (order_at m.orders k).hidden (order_at m.orders k).hidden) m.queue (λ k. grind (arith, nat_tests)));
  showed = tt;
}

single_none : OneRowEach []
single_none i j none a b c d = absurd (omega arith)

-- the market itself is reached before the first round
pub reached_first : (e : Terms) (n : ℕ) (m : Market) → SoundMarket m → m.rows ≡ [] → Reached e n m e.sum m
reached_first e n m sound fresh =
    let first = first_bar e.direction m.orders in
    record {
      sound = sound;
      same = refl;
      orders = λ k. subst (λ (c : ℕ). Touched c (order_at m.orders k) (order_at m.orders k)) (sym (nothing k)) (untouched (order_at m.orders k));
      hidden = λ k. omega arith;
      queue = queued_same m;
      rows = subst (AllByRecursion (NewRow e n m.orders)) (sym fresh) tt;
      single = subst OneRowEach (sym fresh) single_none;
      whole = omega (arith, total_zero (length m.orders) (lots_with e n m) (λ k _. nothing k));
      bar = first.0;
      threshold = record {
        better = λ k inside met beats. absurd (no_better_beats e.direction (rate_at m.orders k) first.0 (first.1 k inside) beats);
        worse = λ k inside met beats. nothing k;
      };
      top = λ k offer. first.1 k offer.0;
    }
  where
    nothing : (k : ℕ) → lots_with e n m k ≡ 0
    nothing k = ap (λ (rows : List Row). concluded_with e.direction n rows k) fresh

-- a test of what another keeps
pub kept_twice : {X : Type 0} (p q both : X → Bool) → ((k : X) → both k ≡ (q k && p k)) → (ks : List X) → filter p (filter q ks) ≡ filter both ks
kept_twice p q both is [] = refl
kept_twice p q both is (k ∷ ks) = by_tests (p k) (q k) (both k) refl (is k) (kept_twice p q both is ks)
  where
    by_tests : (x y z : Bool) → p k ≡ x → z ≡ (y && x) → filter p (filter q ks) ≡ filter both ks
        → filter p (cond y (k ∷ filter q ks) (filter q ks)) ≡ cond z (k ∷ filter both ks) (filter both ks)
    by_tests true true z p_is z_is rest = rw (p_is, z_is, rest) refl
    by_tests false true z p_is z_is rest = rw (p_is, z_is) rest
    by_tests x false z p_is z_is rest = rw z_is rest

-- the order at place k hides as many lots in two markets
abbrev level : Market → Market → ℕ → Bool
level m now k = eqb (order_at now.orders k).hidden (order_at m.orders k).hidden

-- one more round
module _ (e : Terms) (n : ℕ) (m : Market) (left : ℕ) (now : Market) (q : ℕ) (after : Market)
    (r : Reached e n m left now) (t : Round e n q now after) where
  here : (k : ℕ) → Shared (t.share k) (order_at now.orders k) (order_at after.orders k)
  here k =
      subst (Shared (t.share k) (order_at now.orders k)) (sym (t.orders k))
      (shared (t.share k) (order_at now.orders k) (t.within k)
      (λ some. (r.sound.orders k (t.met k some).0.0, (meets_admissible e (order_at now.orders k) (t.met k some).0.1).0)))

  sound_more : SoundMarket after
  sound_more = record {
    orders = λ k inside. (here k).sound (r.sound.orders k (omega (arith, t.same)));
    few = λ d. omega (arith, t.registers d, r.sound.few d);
    queued = λ k inside. counted k ∙ r.sound.queued k (omega (arith, t.same));
    inside = λ k outside. counted k ∙ r.sound.inside k (omega (arith, t.same));
  }
    where
      counted : (k : ℕ) → count_by (eqb k) after.queue ≡ count_by (eqb k) now.queue
      counted k = rw t.queue (count_parted (λ j. refills (t.share j) (order_at now.orders j)) k now.queue)

  touched_again : (k : ℕ) → Touched (lots_with e n after k) (order_at m.orders k) (order_at after.orders k)
  touched_again k =
      subst (λ (c : ℕ). Touched c (order_at m.orders k) (order_at after.orders k)) (sym (t.concludes k))
      (touched_more (lots_with e n now k) (t.share k) (order_at m.orders k) (order_at now.orders k) (order_at after.orders k)
      (r.orders k) (here k).touched)

  hidden_less : (k : ℕ) → (order_at after.orders k).hidden ≤ (order_at now.orders k).hidden
  hidden_less k =
      elim (cases_Bool (refills (t.share k) (order_at now.orders k))) [
        | inl does ↦ let less : (order_at after.orders k).hidden < (order_at now.orders k).hidden = (here k).shows does in omega arith
        | inr not ↦ let same : (order_at after.orders k).hidden ≡ (order_at now.orders k).hidden = (here k).keeps not in omega arith
      ]

  offer_now : (k : ℕ) → Offer e after k → Offer e now k
  offer_now k offer =
      let o : Order = order_at after.orders k in
      let met : Admissible e o = meets_admissible e o offer.1 in
      let some : 1 ≤ o.visible = ((sound_more.orders k offer.0).showing met.0).0 in (
        omega (arith, t.same),
        admissible_meets e (order_at now.orders k) (met_before e (t.share k) (order_at now.orders k) o (here k).touched (omega arith) met),
      )

  offer_first : (k : ℕ) → Offer e now k → Partner e m.orders now.orders k
  offer_first k offer =
      let o : Order = order_at now.orders k in
      let met : Admissible e o = meets_admissible e o offer.1 in
      let some : 1 ≤ o.visible = ((r.sound.orders k offer.0).showing met.0).0 in
      record {
        stands = omega (arith, r.same);
        met = met_before e (lots_with e n now k) (order_at m.orders k) o (r.orders k) (omega arith) met;
        terms = (r.orders k).terms;
      }

  whole_more : q ≤ left → (left - q) + total (length m.orders) (lots_with e n after) ≡ e.sum
  whole_more enough =
      let is : total (length m.orders) (lots_with e n after) ≡ total (length m.orders) (λ k. lots_with e n now k + t.share k) =
      total_same (length m.orders) (lots_with e n after) (λ k. lots_with e n now k + t.share k) (λ k _. t.concludes k) in
      let shares : total (length m.orders) t.share ≡ q = subst (λ (l : ℕ). total l t.share ≡ q) r.same t.whole in
      omega (arith, is, shares, r.whole, total_add (length m.orders) (lots_with e n now) t.share)

  threshold_more : Threshold e.direction e m.orders (lots_with e n after) t.rate
  threshold_more = record {
    better = λ k inside met beats. used_up k inside met beats (meets e (order_at now.orders k)) refl;
    worse = λ k inside met beats.
        omega (arith, t.concludes k, r.threshold.worse k inside met (beats_chain e.direction t.rate r.bar (rate_at m.orders k) falls beats), unshared k beats);
  }
    where
      falls : NoBetter e.direction t.rate r.bar
      falls = subst (λ (x : ℕ). NoBetter e.direction x r.bar) t.attained.2 (r.top t.attained.0 t.attained.1)

      used_up : (k : ℕ) → k < length m.orders → Admissible e (order_at m.orders k) → Beats e.direction (rate_at m.orders k) t.rate
          → (b : Bool) → meets e (order_at now.orders k) ≡ b → lots_with e n after k ≡ lots_of (order_at m.orders k)
      used_up k inside met beats true still =
          absurd (no_better_beats e.direction (rate_at m.orders k) t.rate
          (subst (λ (x : ℕ). NoBetter e.direction x t.rate) (rate_kept _ (order_at m.orders k) (order_at now.orders k) (r.orders k)) (t.top k (omega (arith, r.same), still)))
          beats)
      used_up k inside met beats false out =
          omega (
            arith,
            met_out e (lots_with e n now k) (order_at m.orders k) (order_at now.orders k) (r.orders k) met out,
            (here k).touched.lots,
            (touched_again k).lots,
          )

      unshared : (k : ℕ) → Beats e.direction t.rate (rate_at m.orders k) → t.share k ≡ 0
      unshared k beats =
          elim (cases_lt 0 (t.share k)) [
            | inl some ↦
                absurd (beats_other e.direction t.rate (rate_at m.orders k) beats
                (sym (rate_kept _ (order_at m.orders k) (order_at now.orders k) (r.orders k)) ∙ (t.met k some).1))
            | inr none ↦ omega arith
          ]

  abbrev fell : ℕ → Bool
  fell k = refills (t.share k) (order_at now.orders k)

  queue_more : Queued m after
  queue_more = record {
    back = filter (λ k. not (fell k)) r.queue.back ++ filter fell now.queue;
    queue =
        t.queue
        ∙ ap (λ (ks : List ℕ). filter (λ k. not (fell k)) ks ++ filter fell now.queue) r.queue.queue
        ∙ ap (λ (ks : List ℕ). ks ++ filter fell now.queue) (filter-append (λ k. not (fell k)) (filter (level m now) m.queue) r.queue.back)
        ∙ append_assoc (filter (λ k. not (fell k)) (filter (level m now) m.queue)) (filter (λ k. not (fell k)) r.queue.back) (filter fell now.queue)
        ∙ ap (λ (ks : List ℕ). ks ++ (filter (λ k. not (fell k)) r.queue.back ++ filter fell now.queue))
        (kept_twice (λ k. not (fell k)) (level m now) (level m after) (λ k. stays k (fell k) refl) m.queue);
    showed =
        All-append (λ k. (order_at after.orders k).hidden < (order_at m.orders k).hidden) _ _
        (all_kept_by (λ k. not (fell k)) (λ k. (order_at after.orders k).hidden < (order_at m.orders k).hidden) r.queue.back
        (All-weaker (λ k. (order_at now.orders k).hidden < (order_at m.orders k).hidden) (λ k. (order_at after.orders k).hidden < (order_at m.orders k).hidden)
        (λ k less. omega (arith, hidden_less k)) r.queue.back r.queue.showed))
        (All-weaker (λ k. fell k ≡ true) (λ k. (order_at after.orders k).hidden < (order_at m.orders k).hidden)
        (λ k does. omega (arith, (here k).shows does, r.hidden k)) (filter fell now.queue) (kept_by_passes fell now.queue));
  }
    where
      stays : (k : ℕ) (b : Bool) → refills (t.share k) (order_at now.orders k) ≡ b
          → level m after k ≡ (level m now k && not b)
      stays k true does =
          let less : (order_at after.orders k).hidden < (order_at now.orders k).hidden = (here k).shows does in
          let most : (order_at now.orders k).hidden ≤ (order_at m.orders k).hidden = r.hidden k in
          grind (arith, nat_tests)
      stays k false not_so =
          let same : (order_at after.orders k).hidden ≡ (order_at now.orders k).hidden = (here k).keeps not_so in
          grind (arith, nat_tests)

  pub reached_more : q ≤ left → Reached e n m (left - q) after
  reached_more enough = record {
    sound = sound_more;
    same = t.same ∙ r.same;
    orders = touched_again;
    hidden = λ k. le_trans (hidden_less k) (r.hidden k);
    queue = queue_more;
    rows = t.new_rows m.orders offer_first r.rows;
    single = t.single r.single;
    whole = whole_more enough;
    bar = t.rate;
    threshold = threshold_more;
    top = λ k offer.
        subst (λ (x : ℕ). NoBetter e.direction x t.rate) (sym (rate_kept _ (order_at now.orders k) (order_at after.orders k) (here k).touched))
        (t.top k (offer_now k offer));
  }

-- where the rounds end: nothing is left of the order, or nothing that it may meet
pub record Ended (e : Terms) (n : ℕ) (m : Market) (met : Meeting) : Type 0 where
  pub reached : Reached e n m met.left met.market
  pub clear : 1 ≤ met.left → (k : ℕ) → k < length m.orders → meets e (order_at met.market.orders k) ≡ false

-- a round divides no more than is left
round_most : (s : Settings) (e : Terms) (left : ℕ) (now : Market) → round_lots s e left now ≤ left
unfolding round_lots
round_most s e left now = omega arith

-- what some rounds are, as they stop or go on
rounds_stop : (more : ℕ) (rule : Rule) (s : Settings) (e : Terms) (n left : ℕ) (now : Market) → stops e left now ≡ true
    → rounds (suc more) rule s e n left now ≡ record { left = left; market = now }
unfolding rounds
rounds_stop more rule s e n left now is = rw (is, rounds) refl

rounds_go_on : (more : ℕ) (rule : Rule) (s : Settings) (e : Terms) (n left : ℕ) (now : Market) → stops e left now ≡ false
    → rounds (suc more) rule s e n left now ≡ rounds more rule s e n (left - round_lots s e left now) (round rule s e n left now)
unfolding rounds
rounds_go_on more rule s e n left now is = rw (is, rounds) refl

ended_here : (e : Terms) (n : ℕ) (m : Market) (left : ℕ) (now : Market) → Reached e n m left now → (1 ≤ left → empty (offers e now) ≡ true)
    → Ended e n m (record { left = left; market = now })
ended_here e n m left now r none = record {
  reached = r;
  clear = λ some k inside. no_offer e now r.sound (none some) k (omega (arith, r.same));
}

-- as many rounds as lots are left reach the end
pub rounds_end : (fuel : ℕ) (rule : Rule) (s : Settings) (e : Terms) (n : ℕ) (m : Market) (left : ℕ) (now : Market) → LawfulRule rule
    → Reached e n m left now → left ≤ fuel → Ended e n m (rounds fuel rule s e n left now)
unfolding rounds
rounds_end zero rule s e n m left now lawful r few = ended_here e n m left now r (λ some. absurd (omega arith))
rounds_end (suc more) rule s e n m left now lawful r few =
    by_stop (stops e left now) refl (λ l x. rounds_end more rule s e n m l x lawful)
  where
    by_stop : (b : Bool) → stops e left now ≡ b
        → ((l : ℕ) (x : Market) → Reached e n m l x → l ≤ more → Ended e n m (rounds more rule s e n l x))
        → Ended e n m (rounds (suc more) rule s e n left now)
    by_stop true is later =
        subst (Ended e n m) (sym (rounds_stop more rule s e n left now is)) (ended_here e n m left now r (λ some. grind (arith, nat_tests)))
    by_stop false is later =
        let some : 1 ≤ left = grind (arith, nat_tests) in
        let offer : empty (offers e now) ≡ false = grind (arith, nat_tests) in
        let least : 1 ≤ round_lots s e left now = (round_lawful s e left now r.sound some offer).least in
        subst (Ended e n m) (sym (rounds_go_on more rule s e n left now is))
        (later (left - round_lots s e left now) (round rule s e n left now)
        (reached_more e n m left now (round_lots s e left now) (round rule s e n left now) r
        (round_is rule s e n left now lawful r.sound some offer) (round_most s e left now))
        (omega arith))
