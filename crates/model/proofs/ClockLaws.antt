-- Clock: the due orders enter, each in the day that the earlier ones left.
use Rattle.std.proofs.Common.{◌≡◌, ℕ, suc, ◌+◌, ◌-◌, ◌*◌, ◌<◌, ◌≤◌, false, cond, eqb, List, [], ◌∷◌, ◌++◌, length, count_by, sym, refl, ap, ◌∙◌, subst, inl, inr, mul-le-mul_left, arith}
use Rattle.std.specs.List.{AllByRecursion}
use Rattle.std.proofs.lemmas.List.{append-nil, append_assoc, get_or_past}
use Rattle.std.proofs.lemmas.Bool.{cases_Bool, cases_eq, cases_lt}
use Rattle.std.proofs.lemmas.Bool.Decides.{nat_tests, not_from_Decides}
use Rattle.orders.specs.declared.kinds.Direction.TheVariants.{Deposit}
use Rattle.orders.specs.declared.kinds.Order.{Order}
use Rattle.orders.specs.declared.kinds.Row.{Row}
use Rattle.orders.specs.declared.kinds.State.TheVariants.{Done}
use Rattle.orders.specs.declared.kinds.Terms.{Terms}
use Rattle.orders.specs.declared.settings.Settings.{Settings}
use Rattle.model.specs.Calls.{LawfulRule}
use Rattle.model.specs.Clock.{is_due, due, Activated, activated, Clocking, activations, at_time, clock_table, clocked, clocking}
use Rattle.model.specs.ClockLaw.{Due, Activations, Clocked, ClockLaw}
use Rattle.model.specs.Days.{World}
use Rattle.model.specs.Ledger.{made, named_lots}
use Rattle.model.specs.Market.{none, order_at}
use Rattle.model.specs.Place.{opposite}
use Rattle.model.specs.Rounds.{Rule}
use Rattle.model.proofs.Activating.{Activates, activates}
use Rattle.model.proofs.DueLists.{decides_due, due_all, due_law}
use Rattle.model.proofs.LawfulDays.{beside_fewer, AtRest, rest_waits, due_rest, due_once}
use Rattle.model.proofs.NamedRows.{named_append}
use Rattle.model.proofs.Places.{count_cons, all_counted}
use Rattle.model.proofs.SoundDays.{SoundDay}
use Rattle.model.proofs.Tables.{ClockPassed, clock_passed, judged_law}

-- activations one after another: their law, the day they leave, and what they left of its orders and rows
record Went (s : Settings) (start : World) (ks : List ℕ) (w : World) (c : Clocking) : Type 0 where
  law : Activations ks c.lots w c.world
  sound : SoundDay s start c.world
  same : length c.world.day.orders ≡ length w.day.orders
  terms : (j : ℕ) → j < length w.day.orders → (order_at c.world.day.orders j).terms ≡ (order_at w.day.orders j).terms
  others : (j : ℕ) → j < length w.day.orders → count_by (eqb j) ks ≡ 0 → (order_at c.world.day.orders j).withdrawn ≡ (order_at w.day.orders j).withdrawn
  stays : (j : ℕ) → j < length w.day.orders → (order_at w.day.orders j).state ≡ Done → (order_at c.world.day.orders j).state ≡ Done
  done : (j : ℕ) → j < length w.day.orders → 1 ≤ count_by (eqb j) ks → (order_at c.world.day.orders j).state ≡ Done
  new : List Row
  grown : made c.world ≡ made w ++ new

-- one activation, and those after it
module _ (s : Settings) (start : World) (k : ℕ) (ks : List ℕ) (w : World) (a : Activated) (c : Clocking) (first : Activates s start k w a) (rest : Went s start ks a.world c) where
  inside : (j : ℕ) → j < length w.day.orders → j < length a.world.day.orders
  inside j l = omega (arith, first.leaves.beside.same)

  still : (j : ℕ) → j < length w.day.orders → (order_at w.day.orders j).state ≡ Done → (order_at a.world.day.orders j).state ≡ Done
  still j l is =
      elim (cases_eq j k) [
        | inl same ↦ subst (λ (i : ℕ). (order_at a.world.day.orders i).state ≡ Done) (sym same) first.leaves.beside.ended
        | inr other ↦ ap (λ (o : Order). o.state) (first.leaves.beside.resting j l other (λ active. let z : ◌≡◌ {A = ℕ} 0 1 = cc in omega arith)) ∙ is
      ]

  went_more : Went s start (k ∷ ks) w (record { lots = a.lots + c.lots; world = c.world })
  went_more = record {
    law = (a.failed, a.lots, c.lots, a.world, first.law, rest.law, refl);
    sound = rest.sound;
    same = rest.same ∙ first.leaves.beside.same;
    terms = λ j l. rest.terms j (inside j l) ∙ first.leaves.beside.terms j l;
    others = λ j l none.
        let count = count_cons j k ks in
        rest.others j (inside j l) (omega arith) ∙ first.leaves.beside.withdrawn j l (λ same. grind (arith, nat_tests));
    stays = λ j l is. rest.stays j (inside j l) (still j l is);
    done = λ j l some. elim (cases_eq j k) [
      | inl same ↦ rest.stays j (inside j l) (subst (λ (i : ℕ). (order_at a.world.day.orders i).state ≡ Done) (sym same) first.leaves.beside.ended)
      | inr other ↦ rest.done j (inside j l) (let count = count_cons j k ks in grind (arith, nat_tests))
    ];
    new = first.new ++ rest.new;
    grown = rest.grown ∙ ap (λ (rows : List Row). rows ++ rest.new) first.grown ∙ append_assoc (made w) first.new rest.new;
  }

went : (rule : Rule) → LawfulRule rule → (s : Settings) (start : World) (ks : List ℕ) (w : World) → SoundDay s start w
    → length w.register ≡ s.rows → w.day.used + length ks * opposite Deposit w.day.orders ≤ length w.register
    → AllByRecursion (AtRest w.day.orders) ks → ((j : ℕ) → count_by (eqb j) ks ≤ 1) → Went s start ks w (activations rule ks w)
unfolding activations
went rule lawful s start [] w sound rows room waits once = record {
  law = (refl, refl);
  sound = sound;
  same = refl;
  terms = λ _ _. refl;
  others = λ _ _ _. refl;
  stays = λ _ _ is. is;
  done = λ j _ some. absurd (omega arith);
  new = [];
  grown = sym (append-nil (made w));
}
went rule lawful s start (k ∷ ks) w sound rows room waits once =
    step (activates rule lawful s start w k sound waits.0.0 waits.0.1 rows (omega arith))
    (λ first.
    let absent : count_by (eqb k) ks ≡ 0 = let count = count_cons k k ks in let most = once k in grind (arith, nat_tests) in
    let fewer : length ks * opposite Deposit (activated rule k w).world.day.orders ≤ length ks * opposite Deposit w.day.orders =
    mul-le-mul_left (length ks) (beside_fewer Deposit k w.day.orders (activated rule k w).world.day.orders first.leaves.beside) in
    went rule lawful s start ks (activated rule k w).world first.sound (omega (arith, first.sound.long, sound.long))
    (omega (arith, first.leaves.used, first.sound.long, sound.long))
    (rest_waits k ks w.day.orders (activated rule k w).world.day.orders first.leaves.beside absent waits.1) (λ j. omega (arith, count_cons j k ks, once j)))
  where
    step : Activates s start k w (activated rule k w) → (Activates s start k w (activated rule k w) → Went s start ks (activated rule k w).world (activations rule ks (activated rule k w).world))
        → Went s start (k ∷ ks) w (record { lots = (activated rule k w).lots + (activations rule ks (activated rule k w).world).lots; world = (activations rule ks (activated rule k w).world).world })
    step first rest = went_more s start k ks w (activated rule k w) (activations rule ks (activated rule k w).world) first (rest first)

module _ (rule : Rule) (lawful : LawfulRule rule) (s : Settings) (start w : World) (time : ℕ) (sound : SoundDay s start w) (passed : ClockPassed w time) where
  all_went : Went s start (due time w.day.orders) (at_time time w) (activations rule (due time w.day.orders) (at_time time w))
  all_went =
      went rule lawful s start (due time w.day.orders) (at_time time w)
      (record {
        market = sound.market;
        rows = sound.rows;
        apart = sound.apart;
        cover = sound.cover;
        settings = sound.settings;
        within = sound.within;
        fits = sound.fits;
        long = sound.long;
        free = sound.free;
      })
      (passed.register ∙ ap (λ (t : Settings). t.rows) sound.settings) (omega (arith, passed.room, sound.fits, sound.long))
      (due_rest time w.day.orders)
      (due_once time w.day.orders)

  pub clocked_sound : SoundDay s start (clocked rule time w).world
  unfolding clocked
  clocked_sound = all_went.sound

  pub clocked_law : Clocked time w (clocked rule time w)
  unfolding clocked
  clocked_law = record { places = due time w.day.orders; due = due_law time w.day.orders; count = refl; activations = all_went.law }

  -- the rows that it made
  pub clocked_rows : List Row
  clocked_rows = all_went.new

  pub clocked_grown : made (clocked rule time w).world ≡ made w ++ clocked_rows
  unfolding clocked clocked_rows
  clocked_grown = all_went.grown

  -- what it withdrew from each order: of a due one all that no row of it names
  due_withdrawn : (k : ℕ) → k < length w.day.orders → Due time (order_at w.day.orders k)
      → (order_at (clocked rule time w).world.day.orders k).withdrawn ≡ (order_at w.day.orders k).withdrawn + ((order_at w.day.orders k).terms.sum - named_lots (suc k) clocked_rows)
  unfolding clocked clocked_rows
  due_withdrawn k stands is =
      let hides = (sound.market.orders k stands).waiting is.0 in
      let whole = (sound.rows.places k stands).sum in
      let there : k < length (clocked rule time w).world.day.orders = omega (arith, all_went.same) in
      let done = all_went.done k stands (omega (arith, (due_law time w.day.orders).all k stands is)) in
      let nothing = (all_went.sound.market.orders k there).ended done in
      let sum = (all_went.sound.rows.places k there).sum in
      let rows : named_lots (suc k) (made (clocked rule time w).world) ≡ named_lots (suc k) (made w ++ all_went.new) = ap (named_lots (suc k)) all_went.grown in
      let more = named_append (suc k) (made w) all_went.new in
      omega (arith, ap (λ (t : Terms). t.sum) (all_went.terms k stands))

  pub clocked_withdrawn : (k : ℕ) → (order_at (clocked rule time w).world.day.orders k).withdrawn
      ≡ (order_at w.day.orders k).withdrawn + cond (is_due time (order_at w.day.orders k)) ((order_at w.day.orders k).terms.sum - named_lots (suc k) clocked_rows) 0
  unfolding clocked clocked_rows
  clocked_withdrawn k =
      elim (cases_lt k (length w.day.orders)) [
        | inl stands ↦ elim (cases_Bool (is_due time (order_at w.day.orders k))) [
          | inl on ↦ rw on (due_withdrawn k stands ((decides_due time (order_at w.day.orders k)).0 on))
          | inr off ↦ rw off (all_went.others k stands (absent k stands off) ∙ omega arith)
        ]
        | inr past ↦
            let before : order_at w.day.orders k ≡ none = get_or_past w.day.orders k none past in
            let after : order_at (clocked rule time w).world.day.orders k ≡ none = get_or_past (clocked rule time w).world.day.orders k none (omega (arith, all_went.same)) in
            rw (before, after) refl
      ]
    where
      absent : (k : ℕ) → k < length w.day.orders → is_due time (order_at w.day.orders k) ≡ false → count_by (eqb k) (due time w.day.orders) ≡ 0
      absent k stands off =
          elim (cases_lt 0 (count_by (eqb k) (due time w.day.orders))) [
            | inl some ↦ absurd (not_from_Decides (is_due time (order_at w.day.orders k)) (decides_due time (order_at w.day.orders k)) off
                (all_counted (λ j. (j < length w.day.orders) × Due time (order_at w.day.orders j)) k (due time w.day.orders) (due_all time w.day.orders) some).1)
            | inr none ↦ omega arith
          ]

pub clock_law : (rule : Rule) → LawfulRule rule → (s : Settings) (start w : World) (time : ℕ) → (ClockPassed w time → SoundDay s start w) → ClockLaw time w (clocking rule time w)
unfolding clocking clocked
clock_law rule lawful s start w time sound =
    judged_law (clock_table w time) w (clocked rule time w) (Clocked time w) refl (λ none. let passed = clock_passed w time none in clocked_law rule lawful s start w time (sound passed) passed)
