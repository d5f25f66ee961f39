-- One call: the day that it leaves, its rows, and what it withdrew from each order.
use Rattle.std.proofs.Common.{◌≡◌, ℕ, suc, ◌+◌, false, eqb, List, [], ◌++◌, length, take, drop, sym, refl, ap, ◌∙◌, subst, arith}
use Rattle.std.proofs.lemmas.List.{append-nil, take-append-drop, take-append-le, take-take, drop_at}
use Rattle.std.proofs.lemmas.Bool.{eq-eqb, ne_eqb}
use Rattle.orders.specs.Answers.{refusal_number, refused_for}
use Rattle.orders.specs.declared.kinds.Row.{Row}
use Rattle.orders.specs.declared.kinds.Terms.{Terms}
use Rattle.orders.specs.declared.refusals.Refusal.{Refusal}
use Rattle.orders.specs.declared.refusals.Refusal.TheVariants as refused
use Rattle.orders.specs.declared.settings.Settings.{Settings}
use Rattle.model.specs.Calls.{Call, place, withdraw, clock, LawfulRule, LawfulCall, handed, given_back, step}
use Rattle.model.specs.Clock.{clock_table, clocked, clocking}
use Rattle.model.specs.Days.{World, Outcome}
use Rattle.model.specs.Law.{CallLaw}
use Rattle.model.specs.Ledger.{made, added, withdrawn_by}
use Rattle.model.specs.Market.{order_at}
use Rattle.model.specs.Place.{place_table, placed, placing}
use Rattle.model.specs.Rounds.{Rule}
use Rattle.model.specs.Withdraw.{withdraw_table, withdrawn, withdrawing}
use Rattle.model.specs.WithdrawLaw.{Withdrawn, WithdrawLaw}
use Rattle.model.proofs.ClockLaws.{clocked_sound, clocked_rows, clocked_grown, clocked_withdrawn, clock_law}
use Rattle.model.proofs.PlaceLaws.{accepts, placed_sound, placed_grown, placed_withdrawn, place_law}
use Rattle.model.proofs.SoundDays.{SoundDay, made_length, handed_fits, handed_sound, given_sound}
use Rattle.model.proofs.Tables.{Passed, passed, ClockPassed, clock_passed, withdraw_passed, judged_ways, judged_law}
use Rattle.model.proofs.Withdrawing.{withdrawn_sound, withdrawn_law, withdrawn_each}

-- a call's outcome
pub record Stepped (s : Settings) (start : World) (c : Call) (w : World) (o : Outcome) : Type 0 where
  pub sound : SoundDay s start o.world
  pub withdrawn : (k : ℕ) → (order_at o.world.day.orders k).withdrawn ≡ (order_at w.day.orders k).withdrawn + withdrawn_by c w o (suc k)
  pub new : List Row
  pub grown : made o.world ≡ made w ++ new

-- a refusal is not an acceptance
refused_number : (r : Refusal) → eqb (refusal_number r) 0 ≡ false
refused_number refused.Settings = refl
refused_number refused.RegisterLength = refl
refused_number refused.Participant = refl
refused_number refused.Rate = refl
refused_number refused.Sum = refl
refused_number refused.Code = refl
refused_number refused.Securities = refl
refused_number refused.Marks = refl
refused_number refused.Percent = refl
refused_number refused.Time = refl
refused_number refused.TooManyOrders = refl
refused_number refused.TooFewRows = refl
refused_number refused.Volume = refl
refused_number refused.Cover = refl
refused_number refused.NoSuchOrder = refl
refused_number refused.NotOwner = refl
refused_number refused.OrderDone = refl
refused_number refused.DepthArrays = refl

-- and withdraws nothing
refused_none : (r : Refusal) (c : Call) (w after : World) (n : ℕ) → withdrawn_by c w (record { answer = refused_for r; world = after }) n ≡ 0
refused_none r (place rule rows p e) w after n = rw (refused_number r) refl
refused_none r (withdraw m p) w after n = rw (refused_number r) refl
refused_none r (clock rule rows time) w after n = rw (refused_number r) refl

-- a refused call leaves the day as it was
refused_step : (s : Settings) (start : World) (c : Call) (w after : World) (r : Refusal) → SoundDay s start w → after ≡ w → Stepped s start c w (record { answer = refused_for r; world = after })
refused_step s start c w after r sound same = record {
  sound = subst (SoundDay s start) (sym same) sound;
  withdrawn = λ k.
      let order : (order_at after.day.orders k).withdrawn ≡ (order_at w.day.orders k).withdrawn = ap (λ (x : World). (order_at x.day.orders k).withdrawn) same in
      omega (arith, refused_none r c w after (suc k));
  new = [];
  grown = ap made same ∙ sym (append-nil (made w));
}

-- the rows that were handed, and the others behind them
given_same : (r : ℕ) (w : World) → record { day = w.day; register = take r w.register ++ drop r w.register; cover = w.cover } ≡ w
given_same r w = ap (λ (rows : List Row). record { day = w.day; register = rows; cover = w.cover }) (take-append-drop r w.register)

-- the rows of a day are those that were handed
made_handed : (s : Settings) (start w : World) (r : ℕ) → SoundDay s start w → length (take r w.register) ≡ s.rows → made (handed r w) ≡ made w
made_handed s start w r sound all = take-take w.day.used r w.register (handed_fits s start w r sound all)

made_given : (s : Settings) (start w : World) (r : ℕ) (o : Outcome) → SoundDay s (handed r start) o.world → made (given_back r w o).world ≡ made o.world
made_given s start w r o inner =
    take-append-le o.world.day.used o.world.register (drop r w.register) (omega (arith, inner.fits, inner.long))

withdraw_step : (s : Settings) (start w : World) (n p : ℕ) → SoundDay s start w → Stepped s start (withdraw n p) w (withdrawing n p w)
unfolding withdrawing withdrawn
withdraw_step s start w n p sound =
    judged_ways (withdraw_table w.day n p) w (withdrawn n w) (Stepped s start (withdraw n p) w)
    (λ r _ _. refused_step s start (withdraw n p) w w r sound refl)
    (λ none. let is = withdraw_passed w.day n p none in record {
      sound = withdrawn_sound s start w n p sound is;
      withdrawn = withdrawn_each w n p is;
      new = [];
      grown = sym (append-nil (made w));
    })

module _ (s : Settings) (start w : World) (r : ℕ) (sound : SoundDay s start w) where
  -- the settings are the day's
  all_rows : length (take r w.register) ≡ w.day.settings.rows → length (take r w.register) ≡ s.rows
  all_rows is = is ∙ ap (λ (t : Settings). t.rows) sound.settings

  handed_day : length (take r w.register) ≡ w.day.settings.rows → SoundDay s (handed r start) (handed r w)
  handed_day is = handed_sound s start w r sound (all_rows is)

  module _ (rule : Rule) (lawful : LawfulRule rule) where
    place_step : (p : ℕ) (e : Terms) → Stepped s start (place rule r p e) w (given_back r w (placing rule p e (handed r w)))
    unfolding placing
    place_step p e =
        judged_ways (place_table (handed r w) p e) (handed r w) (placed rule (handed r w) p e) (λ o. Stepped s start (place rule r p e) w (given_back r w o))
        (λ refusal _ _. refused_step s start (place rule r p e) w _ refusal sound (given_same r w))
        (λ none.
        let is = passed (handed r w) p e none in
        let day = λ (q : Passed (handed r w) p e). handed_day q.register in
        let inner = placed_sound rule lawful s (handed r start) (handed r w) p e day is in
        let rows = placed_grown rule lawful s (handed r start) (handed r w) p e day is in
        record {
          sound = given_sound s start w r (placed rule (handed r w) p e) sound (all_rows is.register) inner;
          withdrawn = λ k.
              let yes = eq-eqb (placed rule (handed r w) p e).answer.number 0 (accepts rule lawful s (handed r start) (handed r w) p e day) in
              rw yes (placed_withdrawn rule lawful s (handed r start) (handed r w) p e day is k);
          new = rows.0;
          grown = made_given s start w r (placed rule (handed r w) p e) inner ∙ rows.1 ∙ ap (λ (old : List Row). old ++ rows.0) (made_handed s start w r sound (all_rows is.register));
        })

    accepted_clock : (time : ℕ) → ClockPassed (handed r w) time → Stepped s start (clock rule r time) w (given_back r w (clocked rule time (handed r w)))
    unfolding clocked
    accepted_clock time is =
        let inner = clocked_sound rule lawful s (handed r start) (handed r w) time (handed_day is.register) is in
        let rows : List Row = clocked_rows rule lawful s (handed r start) (handed r w) time (handed_day is.register) is in
        let grown : made (given_back r w (clocked rule time (handed r w))).world ≡ made w ++ rows =
        made_given s start w r (clocked rule time (handed r w)) inner
        ∙ clocked_grown rule lawful s (handed r start) (handed r w) time (handed_day is.register) is
        ∙ ap (λ (old : List Row). old ++ rows) (made_handed s start w r sound (all_rows is.register)) in
        let more : added w (given_back r w (clocked rule time (handed r w))).world ≡ rows =
        ap (drop w.day.used) grown ∙ drop_at (made w) rows w.day.used (made_length s start w sound) in
        record {
          sound = given_sound s start w r (clocked rule time (handed r w)) sound (all_rows is.register) inner;
          withdrawn = λ k. rw (more, ne_eqb (suc k) 0 (λ same. omega arith)) (clocked_withdrawn rule lawful s (handed r start) (handed r w) time (handed_day is.register) is k);
          new = rows;
          grown = grown;
        }

    clock_step : (time : ℕ) → Stepped s start (clock rule r time) w (given_back r w (clocking rule time (handed r w)))
    unfolding clocking
    clock_step time =
        judged_ways (clock_table (handed r w) time) (handed r w) (clocked rule time (handed r w)) (λ o. Stepped s start (clock rule r time) w (given_back r w o))
        (λ refusal _ _. refused_step s start (clock rule r time) w _ refusal sound (given_same r w))
        (λ none. accepted_clock time (clock_passed (handed r w) time none))

-- every call
pub stepped : (s : Settings) (start w : World) (c : Call) → LawfulCall c → SoundDay s start w → Stepped s start c w (step c w)
stepped s start w (place rule r p e) lawful sound = place_step s start w r sound rule lawful p e
stepped s start w (withdraw n p) lawful sound = withdraw_step s start w n p sound
stepped s start w (clock rule r time) lawful sound = clock_step s start w r sound rule lawful time

withdraw_law : (s : Settings) (start w : World) (n p : ℕ) → SoundDay s start w → WithdrawLaw n p w (withdrawing n p w)
unfolding withdrawing withdrawn
withdraw_law s start w n p sound =
    judged_law (withdraw_table w.day n p) w (withdrawn n w) (Withdrawn n p w) refl (λ none. withdrawn_law s start w n p sound (withdraw_passed w.day n p none))

-- and its law
pub called : (s : Settings) (start w : World) (c : Call) → LawfulCall c → SoundDay s start w → CallLaw c w (step c w)
called s start w (place rule r p e) lawful sound =
    (placing rule p e (handed r w), place_law rule lawful s (handed r start) (handed r w) p e (λ is. handed_day s start w r sound is.register), refl)
called s start w (withdraw n p) lawful sound = withdraw_law s start w n p sound
called s start w (clock rule r time) lawful sound =
    (clocking rule time (handed r w), clock_law rule lawful s (handed r start) (handed r w) time (λ is. handed_day s start w r sound is.register), refl)

-- the rows that were made before it are as they were
pub older : (s : Settings) (start : World) (c : Call) (w : World) (o : Outcome) → SoundDay s start w → Stepped s start c w o → made o.world ≡ made w ++ added w o.world
older s start c w o sound is =
    is.grown ∙ ap (λ (rows : List Row). made w ++ rows) (sym (ap (drop w.day.used) is.grown ∙ drop_at (made w) is.new w.day.used (made_length s start w sound)))
