-- The law of every list of calls.
use Rattle.std.proofs.Common.{◌≡◌, ℕ, suc, ◌+◌, cond, eqb, List, [], ◌∷◌, ◌++◌, length, sym, refl, ap, ◌∙◌, arith}
use Rattle.std.specs.List.{AllByRecursion}
use Rattle.std.proofs.lemmas.List.{take-append-drop}
use Rattle.orders.specs.declared.kinds.Order.{Order}
use Rattle.orders.specs.declared.kinds.Row.{Row}
use Rattle.orders.specs.declared.kinds.State.{State}
use Rattle.orders.specs.declared.kinds.State.TheVariants.{Done, Waiting, Active}
use Rattle.orders.specs.declared.settings.Settings.{Settings}
use Rattle.model.specs.Calls.{Call, LawfulCall, step, after, opening}
use Rattle.model.specs.Choices.{total}
use Rattle.model.specs.Days.{World}
use Rattle.model.specs.Law.{StateOf, Holds, EveryList}
use Rattle.model.specs.Ledger.{made, withdrawn_over}
use Rattle.model.specs.Market.{none, order_at, lots_of}
use Rattle.model.proofs.Closing.{closed, states}
use Rattle.model.proofs.Covered.{owned}
use Rattle.model.proofs.Placing.{visible_is}
use Rattle.model.proofs.Depths.{report_law}
use Rattle.model.specs.Sound.{SoundOrder}
use Rattle.model.proofs.SoundDays.{SoundPlace, SoundDay, opening_sound}
use Rattle.model.proofs.Steps.{stepped, called, older}
use Rattle.model.proofs.Totals.{total_same, total_sum_by}

-- an order's state says what is left of it
state_of : (rows : List Row) (k : ℕ) (o : Order) → SoundOrder o → SoundPlace rows k o → StateOf o
state_of rows k o sound place = record {
  done = sound.ended;
  none = λ nothing. by o.state refl nothing;
  waiting = sound.waiting;
  resting = λ active.
      let shows = sound.showing active in
      (place.rests active, shows.0, λ v is. omega (arith, visible_is o.terms v sound.least sound.percent is));
}
  where
    by : (s : State) → o.state ≡ s → lots_of o ≡ 0 → o.state ≡ Done
    by Done is nothing = is
    by Waiting is nothing = absurd (omega (arith, sound.waiting is, sound.least))
    by Active is nothing = absurd (omega (arith, sound.showing is))

-- a sum over the places of a participant's orders
owned_total : (f : Order → ℕ) (g : ℕ → ℕ) (p : ℕ) (orders : List Order) → ((k : ℕ) → f (order_at orders k) ≡ g k)
    → total (length orders) (λ k. cond (eqb (order_at orders k).owner p) (g k) 0) ≡ owned f p orders
owned_total f g p orders same =
    total_same (length orders) (λ k. cond (eqb (order_at orders k).owner p) (g k) 0) (λ k. cond (eqb (order_at orders k).owner p) (f (order_at orders k)) 0)
    (λ k _. ap (λ (n : ℕ). cond (eqb (order_at orders k).owner p) n 0) (sym (same k)))
    ∙ total_sum_by (λ (o : Order). cond (eqb o.owner p) (f o) 0) orders none

-- a sound day holds, if its withdrawn lots are those of the calls
holds : (s : Settings) (start w : World) (calls : List Call) → SoundDay s start w
    → ((k : ℕ) → (order_at w.day.orders k).withdrawn ≡ withdrawn_over calls start (suc k)) → Holds s start calls w
holds s start w calls sound withdrawn = record {
  balanced = record {
    sums = λ k stands. omega (arith, (sound.rows.places k stands).sum, withdrawn k);
    cover = λ p.
        omega (
          arith,
          sound.cover p,
          owned_total (λ o. o.withdrawn) (λ k. withdrawn_over calls start (suc k)) p w.day.orders withdrawn,
          owned_total (λ o. o.terms.sum) (λ k. (order_at w.day.orders k).terms.sum) p w.day.orders (λ _. refl),
        );
  };
  apart = sound.apart;
  states = λ k stands. state_of (made w) k (order_at w.day.orders k) (sound.market.orders k stands) (sound.rows.places k stands);
  numbers = λ k stands. (sound.rows.places k stands).number;
  settings = sound.settings;
  fits = sound.fits;
  register = sym (take-append-drop w.day.used w.register) ∙ ap (λ (rows : List Row). made w ++ rows) sound.free;
  single = sound.rows.single;
}

-- every list of calls leaves a sound day
ran_sound : (s : Settings) (start : World) (calls : List Call) (w : World) → AllByRecursion LawfulCall calls → SoundDay s start w → SoundDay s start (after calls w)
ran_sound s start [] w lawful sound = sound
ran_sound s start (c ∷ cs) w lawful sound = ran_sound s start cs (step c w).world lawful.1 (stepped s start w c lawful.0 sound).sound

-- and withdraws what each of its calls does
ran_withdrawn : (s : Settings) (start : World) (calls : List Call) (w : World) → AllByRecursion LawfulCall calls → SoundDay s start w
    → (k : ℕ) → (order_at (after calls w).day.orders k).withdrawn ≡ (order_at w.day.orders k).withdrawn + withdrawn_over calls w (suc k)
ran_withdrawn s start [] w lawful sound k = omega arith
ran_withdrawn s start (c ∷ cs) w lawful sound k =
    let first = stepped s start w c lawful.0 sound in
    omega (arith, first.withdrawn k, ran_withdrawn s start cs (step c w).world lawful.1 first.sound k)

pub every_list : EveryList
every_list s register cover calls lawful =
    let start : World = opening s register cover in
    let sound : SoundDay s start (after calls start) = ran_sound s start calls start lawful (opening_sound s register cover) in
    let withdrawn : (k : ℕ) → (order_at (after calls start).day.orders k).withdrawn ≡ withdrawn_over calls start (suc k) =
    λ k. omega (arith, ran_withdrawn s start calls start lawful (opening_sound s register cover) k) in
    record {
      holds = holds s start (after calls start) calls sound withdrawn;
      next = λ c is. called s start (after calls start) c is sound;
      older = λ c is. older s start c (after calls start) (step c (after calls start)) sound (stepped s start (after calls start) c is sound);
      closed = closed s start (after calls start) sound;
      stated = states s start (after calls start) calls sound withdrawn;
      shown = λ d security code rates totals. report_law s d security code rates totals (after calls start).day.orders (λ k stands active. ((sound.market.orders k stands).showing active).0);
    }
