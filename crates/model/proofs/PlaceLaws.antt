-- Place: its table, and what it does with an order that passed.
use Rattle.std.proofs.Common.{◌≡◌, ℕ, suc, ◌+◌, ◌-◌, ◌<◌, Bool, true, false, cond, not, ◌&&◌, eqb, ltb, List, [], ◌∷◌, ◌++◌, length, sym, refl, ap, ◌∙◌, inl, inr, arith}
use Rattle.std.proofs.lemmas.List.{append-nil, get_or_append_left, get_or_push, get_or_past, length_push}
use Rattle.std.proofs.lemmas.Bool.{cases_Bool, cases_lt, cases_eq, eq-eqb, ne_eqb, and_parts, and_from, ltb-true, lt-ltb}
use Rattle.std.proofs.lemmas.Bool.Decides.{not_from_Decides}
use Rattle.orders.specs.Checks.{rests, waits_first}
use Rattle.orders.specs.declared.kinds.Order.{Order}
use Rattle.orders.specs.declared.kinds.Row.{Row}
use Rattle.orders.specs.declared.kinds.Remainder.TheVariants.{FillOrReject}
use Rattle.orders.specs.declared.kinds.Terms.{Terms}
use Rattle.orders.specs.declared.settings.Settings.{Settings}
use Rattle.model.specs.Calls.{LawfulRule}
use Rattle.model.specs.Choices.{TooLittle}
use Rattle.model.specs.Days.{World, Outcome, judged}
use Rattle.model.specs.Judging.{NoneBelow}
use Rattle.model.specs.Ledger.{made, value}
use Rattle.model.specs.Market.{none, order_at, admissible_lots}
use Rattle.model.specs.Place.{place_table, all_or_nothing, volume_fails, market_of, next_number, waiting, entered, placed_waiting, placed_meeting, placed, placing}
use Rattle.model.specs.PlaceLaw.{Waits, Placed, PlaceLaw}
use Rattle.model.specs.Rounds.{Rule, meeting}
use Rattle.model.proofs.Entries.{entry}
use Rattle.model.proofs.Placing.{waiting_sound, waiting_law, meeting_sound, meeting_law, meeting_grown}
use Rattle.model.proofs.Sound.{Met}
use Rattle.model.proofs.SoundDays.{SoundDay}
use Rattle.model.proofs.Tables.{Passed, passed, judged_ways, judged_law, refused_volume, first_volume, decides_waits, decides_all_or_nothing}
use Rattle.model.proofs.Totals.{too_little_from, too_little_to}

-- the volume test fails exactly for an all-or-nothing order whose sum no choice makes up
pub fails_little : (e : Terms) (orders : List Order) → volume_fails e orders ≡ true → (e.remainder ≡ FillOrReject) × TooLittle e orders
fails_little e orders fails =
    let parts = and_parts (all_or_nothing e.remainder) (ltb (admissible_lots e orders) e.sum) fails in
    ((decides_all_or_nothing e.remainder).0 parts.0, too_little_from e orders (ltb-true (admissible_lots e orders) e.sum parts.1))

pub little_fails : (e : Terms) (orders : List Order) → e.remainder ≡ FillOrReject → TooLittle e orders → volume_fails e orders ≡ true
little_fails e orders mark little =
    and_from (all_or_nothing e.remainder) (ltb (admissible_lots e orders) e.sum) ((decides_all_or_nothing e.remainder).1 mark)
    (lt-ltb (admissible_lots e orders) e.sum (too_little_to e orders little))

-- what one more order and nothing else withdraws
pushed_withdrawn : (orders after : List Order) (x : Order) → length after ≡ length orders → ((k : ℕ) → k < length orders → (order_at after k).withdrawn ≡ (order_at orders k).withdrawn)
    → (k : ℕ) → (order_at (after ++ (x ∷ [])) k).withdrawn ≡ (order_at orders k).withdrawn + cond (eqb (suc k) (suc (length orders))) x.withdrawn 0
pushed_withdrawn orders after x long same k =
    elim (cases_lt k (length orders)) [
      | inl below ↦
          let at = ap (λ (o : Order). o.withdrawn) (get_or_append_left after (x ∷ []) none k (omega arith)) in
          rw (ne_eqb (suc k) (suc (length orders)) (λ e. omega arith)) (omega (arith, same k below))
      | inr above ↦
          let past : (order_at orders k).withdrawn ≡ 0 = ap (λ (o : Order). o.withdrawn) (get_or_past orders k none above) in
          elim (cases_eq k (length orders)) [
            | inl is ↦
                let at = ap (λ (o : Order). o.withdrawn) (get_or_push after x none k (omega arith)) in
                rw (eq-eqb (suc k) (suc (length orders)) (omega arith)) (omega arith)
            | inr other ↦
                let at = ap (λ (o : Order). o.withdrawn) (get_or_past (after ++ (x ∷ [])) k none (omega (arith, length_push after x))) in
                rw (ne_eqb (suc k) (suc (length orders)) (λ e. omega arith)) (omega arith)
          ]
    ]

-- what an accepted order does, by whether it waits
pub placed_ways : (rule : Rule) (w : World) (p : ℕ) (e : Terms) (P : Outcome → Type 0)
    → (waits_first w.day.settings.mode e ≡ true → P (placed_waiting w p e))
    → (waits_first w.day.settings.mode e ≡ false → P (placed_meeting w p e (meeting rule w.day.settings e (next_number w.day) (market_of w.day))))
    → P (placed rule w p e)
unfolding placed
placed_ways rule w p e P waits meets = by (waits_first w.day.settings.mode e) refl
  where
    by : (t : Bool) → waits_first w.day.settings.mode e ≡ t → P (placed rule w p e)
    by true is = rw (is, placed) (waits is)
    by false is = rw (is, placed) (meets is)

module _ (rule : Rule) (lawful : LawfulRule rule) (s : Settings) (start w : World) (p : ℕ) (e : Terms) (sound : Passed w p e → SoundDay s start w) where
  met : Passed w p e → Met e (next_number w.day) (market_of w.day) (meeting rule w.day.settings e (next_number w.day) (market_of w.day))
  met is = entry rule w.day.settings e (next_number w.day) (market_of w.day) lawful (sound is).market refl

  pub placed_sound : Passed w p e → SoundDay s start (placed rule w p e).world
  placed_sound is =
      placed_ways rule w p e (λ o. SoundDay s start o.world)
      (λ on. waiting_sound s start w p e (sound is) is ((decides_waits w.day e).0 on))
      (λ off. meeting_sound s start w p e _ (sound is) is off (met is))

  pub placed_law : Passed w p e → Placed p e w (placed rule w p e)
  unfolding placed_waiting placed_meeting
  placed_law is =
      placed_ways rule w p e (Placed p e w)
      (λ on. record {
        number = refl;
        settings = refl;
        clock = refl;
        waits = λ _. waiting_law w p e is;
        meets = λ out. absurd (out ((decides_waits w.day e).0 on));
      })
      (λ off. record {
        number = refl;
        settings = refl;
        clock = refl;
        waits = λ waits. absurd (not_from_Decides (waits_first w.day.settings.mode e) (decides_waits w.day e) off waits);
        meets = λ _. meeting_law s start w p e _ (sound is) is off (met is);
      })

  -- the rows that it makes
  pub placed_grown : Passed w p e → (new : List Row) × (made (placed rule w p e).world ≡ made w ++ new)
  unfolding placed_waiting
  placed_grown is =
      placed_ways rule w p e (λ o. (new : List Row) × (made o.world ≡ made w ++ new))
      (λ on. ([], sym (append-nil (made w))))
      (λ off. (_, meeting_grown s start w p e _ (sound is) is off (met is)))

  -- what it withdraws from each order: of its own all that does not rest
  pub placed_withdrawn : Passed w p e → (k : ℕ) → (order_at (placed rule w p e).world.day.orders k).withdrawn
      ≡ (order_at w.day.orders k).withdrawn
      + cond (eqb (suc k) (next_number w.day) && not (rests e.remainder) && not (waits_first w.day.settings.mode e)) (e.sum - value 1 (placed rule w p e).answer) 0
  unfolding placed_waiting placed_meeting
  placed_withdrawn is k =
      placed_ways rule w p e
      (λ o. (order_at o.world.day.orders k).withdrawn
      ≡ (order_at w.day.orders k).withdrawn + cond (eqb (suc k) (next_number w.day) && not (rests e.remainder) && not (waits_first w.day.settings.mode e)) (e.sum - value 1 o.answer) 0)
      (λ on. rw on
      (pushed_withdrawn w.day.orders w.day.orders (waiting (next_number w.day) p e) refl (λ _ _. refl) k
      ∙ ap (λ (n : ℕ). (order_at w.day.orders k).withdrawn + n) (never (eqb (suc k) (next_number w.day)) (rests e.remainder) (e.sum - 0))))
      (λ off. let here = met is in
      let back : e.sum - (e.sum - left) ≡ left = omega (arith, here.left) in
      rw off
      (pushed_withdrawn w.day.orders _ (entered (next_number w.day) p e left) here.enters.same (λ j inside. (here.enters.orders j inside).withdrawn) k
      ∙ ap (λ (n : ℕ). (order_at w.day.orders k).withdrawn + n)
      (ends (eqb (suc k) (next_number w.day)) (rests e.remainder) left ∙ ap (λ (n : ℕ). cond (eqb (suc k) (next_number w.day) && not (rests e.remainder) && true) n 0) (sym back))))
    where
      left : ℕ
      left = (meeting rule w.day.settings e (next_number w.day) (market_of w.day)).left

      never : (a b : Bool) (x : ℕ) → cond {A = ℕ} a 0 0 ≡ cond (a && not b && false) x 0
      never true true x = refl
      never true false x = refl
      never false b x = refl

      ends : (a b : Bool) (x : ℕ) → cond a (cond b 0 x) 0 ≡ cond (a && not b && true) x 0
      ends true true x = refl
      ends true false x = refl
      ends false b x = refl

  pub accepts : (placed rule w p e).answer.number ≡ 0
  unfolding placed_waiting placed_meeting
  accepts = placed_ways rule w p e (λ o. o.answer.number ≡ 0) (λ _. refl) (λ _. refl)

  -- a refusal with 13 is for the volume
  volume : (placing rule p e w).answer.number ≡ 13 → (waits_first w.day.settings.mode e ≡ false) × (volume_fails e w.day.orders ≡ true)
  unfolding placing
  volume =
      judged_ways (place_table w p e) w (placed rule w p e) (λ o. o.answer.number ≡ 13 → (waits_first w.day.settings.mode e ≡ false) × (volume_fails e w.day.orders ≡ true))
      (λ r _ first. refused_volume w p e r first) (λ _ is. absurd (omega (arith, accepts)))

  refusal : NoneBelow 11 (place_table w p e) → waits_first w.day.settings.mode e ≡ false → volume_fails e w.day.orders ≡ true → (placing rule p e w).answer.number ≡ 13
  unfolding placing
  refusal none early fails = rw (first_volume w p e none early fails, judged) refl

  pub place_law : PlaceLaw p e w (placing rule p e w)
  unfolding placing
  place_law = record {
    judged = judged_law (place_table w p e) w (placed rule w p e) (Placed p e w) accepts (λ none. placed_law (passed w p e none));
    tested = λ none out mark. (
      λ is. (fails_little e w.day.orders (volume is).1).1,
      λ little. refusal none (early out) (little_fails e w.day.orders mark little),
    );
    untested = λ other is. other (fails_little e w.day.orders (volume is).1).0;
    later = λ waits is. not_from_Decides (waits_first w.day.settings.mode e) (decides_waits w.day e) (volume is).0 waits;
  }
    where
      early : (Waits w.day e → ⊥) → waits_first w.day.settings.mode e ≡ false
      early out = elim (cases_Bool (waits_first w.day.settings.mode e)) [ inl on ↦ absurd (out ((decides_waits w.day e).0 on)) | inr off ↦ off ]
