-- What every day keeps, with its register and its cover.
use Rattle.std.proofs.Common.{◌≡◌, ℕ, suc, ◌+◌, ◌-◌, ◌<◌, ◌≤◌, cond, eqb, List, [], ◌∷◌, ◌++◌, length, take, drop, sum_by, sym, refl, ap, ◌∙◌, subst, append_assoc, arith}
use Rattle.std.specs.List.{AllByRecursion}
use Rattle.std.proofs.lemmas.List.{length-take, length-take-le, length-drop, length-append, take-append-drop, take_at, drop_at, take-take, drop-take, take-append-le, drop-append-le, drop-drop}
use Rattle.std.proofs.lemmas.List.Sums.{sum_by-cons, get_or-le-sum_by}
use Rattle.std.proofs.lemmas.Bool.Decides.{nat_tests}
use Rattle.orders.specs.declared.kinds.Direction.TheVariants.{Deposit}
use Rattle.orders.specs.declared.kinds.Order.{Order}
use Rattle.orders.specs.declared.kinds.Remainder.TheVariants.{Queue}
use Rattle.orders.specs.declared.kinds.Row.{Row}
use Rattle.orders.specs.declared.kinds.State.TheVariants.{Waiting, Active}
use Rattle.orders.specs.declared.settings.Settings.{Settings}
use Rattle.clearing.specs.Book.{Book}
use Rattle.model.specs.Calls.{handed, given_back, opening}
use Rattle.model.specs.Days.{World, Outcome, written}
use Rattle.model.specs.Entry.{OneRowEach}
use Rattle.model.specs.Law.{Apart}
use Rattle.model.specs.Ledger.{made, named_lots}
use Rattle.model.specs.Market.{none, order_at, lots_of}
use Rattle.model.specs.Place.{market_of}
use Rattle.model.proofs.Covered.{owned}
use Rattle.model.specs.Sound.{SoundMarket, LawfulDay}
use Rattle.model.proofs.Writes.{sums_le}

-- the order at place k of a day that made these rows
pub record SoundPlace (rows : List Row) (k : ℕ) (o : Order) : Type 0 where
  pub owner : o.owner ≤ 63
  pub number : o.number ≡ suc k
  pub waits : o.state ≡ Waiting → (o.terms.direction ≡ Deposit) × (o.terms.remainder ≡ Queue → ⊥)
  pub rests : o.state ≡ Active → o.terms.remainder ≡ Queue
  pub sum : o.terms.sum ≡ named_lots (suc k) rows + lots_of o + o.withdrawn

-- orders and the rows that were made of them
pub record SoundRows (orders : List Order) (rows : List Row) : Type 0 where
  pub places : (k : ℕ) → k < length orders → SoundPlace rows k (order_at orders k)
  pub unnamed : (k : ℕ) → length orders ≤ k → named_lots (suc k) rows ≡ 0
  pub some : AllByRecursion (λ r. 1 ≤ r.lots) rows
  pub single : OneRowEach rows

-- a day that began so
pub record SoundDay (s : Settings) (start w : World) : Type 0 where
  pub market : SoundMarket (market_of w.day)
  pub rows : SoundRows w.day.orders (made w)
  pub apart : Apart w.day.orders
  pub cover : (p : ℕ) → w.cover.held p + owned (λ o. o.withdrawn) p w.day.orders ≡ start.cover.held p + owned (λ o. o.terms.sum) p w.day.orders
  pub settings : w.day.settings ≡ s
  pub within : w.day.used ≤ s.rows
  pub fits : w.day.used ≤ length start.register
  pub long : length w.register ≡ length start.register
  pub free : drop w.day.used w.register ≡ drop w.day.used start.register

-- a newly opened day
pub opening_sound : (s : Settings) (register : List Row) (cover : Book) → SoundDay s (opening s register cover) (opening s register cover)
opening_sound s register cover = record {
  market = record {
    orders = λ k inside. absurd (omega arith);
    few = λ d. omega arith;
    queued = λ k inside. absurd (omega arith);
    inside = λ k outside. refl;
  };
  rows = record {
    places = λ k inside. absurd (omega arith);
    unnamed = λ k outside. refl;
    some = tt;
    single = λ i j none inside. absurd (omega arith);
  };
  apart = λ j k inside. absurd (omega arith);
  cover = λ p. refl;
  settings = refl;
  within = omega arith;
  fits = omega arith;
  long = refl;
  free = refl;
}

-- a sound day is a lawful one
pub lawful_of : (s : Settings) (start w : World) → SoundDay s start w → LawfulDay w.day
lawful_of s start w sound = record {
  market = sound.market;
  waits = λ k stands is. ((sound.rows.places k stands).waits is).0;
  within = omega (arith, sound.within, ap (λ (t : Settings). t.rows) sound.settings);
}

-- the used rows are made
pub made_length : (s : Settings) (start w : World) → SoundDay s start w → length (made w) ≡ w.day.used
made_length s start w sound = length-take-le w.day.used w.register (omega (arith, sound.fits, sound.long))

-- participant p's lots, by the orders that are his, are held
pub owned_held : (s : Settings) (start w : World) → SoundDay s start w → (p : ℕ) → owned lots_of p w.day.orders ≤ w.cover.held p
owned_held s start w sound p =
    let parts : sum_by (λ o. cond (eqb o.owner p) (lots_of o) 0 + cond (eqb o.owner p) o.withdrawn 0) w.day.orders ≤ owned (λ o. o.terms.sum) p w.day.orders =
    sums_le (λ o. cond (eqb o.owner p) (lots_of o) 0 + cond (eqb o.owner p) o.withdrawn 0) (λ o. cond (eqb o.owner p) o.terms.sum 0)
    w.day.orders w.day.orders none refl (λ k inside. let whole = (sound.market.orders k inside).whole in grind (arith, nat_tests)) in
    omega (arith, sound.cover p, added w.day.orders)
  where
    added : (orders : List Order) → sum_by (λ o. cond (eqb o.owner p) (lots_of o) 0 + cond (eqb o.owner p) o.withdrawn 0) orders ≡ owned lots_of p orders + owned (λ o. o.withdrawn) p orders
    added [] = refl
    added (o ∷ os) =
        omega (
          arith,
          added os,
          sum_by-cons (λ (o : Order). cond (eqb o.owner p) (lots_of o) 0 + cond (eqb o.owner p) o.withdrawn 0) o os,
          sum_by-cons (λ (o : Order). cond (eqb o.owner p) (lots_of o) 0) o os,
          sum_by-cons (λ (o : Order). cond (eqb o.owner p) o.withdrawn 0) o os,
        )

-- an order's lots are held by its owner
pub lots_held : (s : Settings) (start w : World) → SoundDay s start w → (k : ℕ) → k < length w.day.orders
    → lots_of (order_at w.day.orders k) ≤ w.cover.held (order_at w.day.orders k).owner
lots_held s start w sound k inside =
    let part = get_or-le-sum_by (λ (o : Order). cond (eqb o.owner (order_at w.day.orders k).owner) (lots_of o) 0) w.day.orders k none inside in
    let all = owned_held s start w sound (order_at w.day.orders k).owner in
    grind (arith, nat_tests)

-- rows written from the first free one on
pub take_written : (register : List Row) (used : ℕ) (new : List Row) → used ≤ length register → take (used + length new) (written register used new) ≡ take used register ++ new
take_written register used new fits =
    ap (take (used + length new)) (sym (append_assoc (take used register) new (drop (used + length new) register)))
    ∙ take_at (take used register ++ new) (drop (used + length new) register) (used + length new)
    (omega (arith, length-append (take used register) new, length-take-le used register fits))

pub drop_written : (register : List Row) (used : ℕ) (new : List Row) → used ≤ length register → drop (used + length new) (written register used new) ≡ drop (used + length new) register
drop_written register used new fits =
    ap (drop (used + length new)) (sym (append_assoc (take used register) new (drop (used + length new) register)))
    ∙ drop_at (take used register ++ new) (drop (used + length new) register) (used + length new)
    (omega (arith, length-append (take used register) new, length-take-le used register fits))

pub length_written : (register : List Row) (used : ℕ) (new : List Row) → used + length new ≤ length register → length (written register used new) ≡ length register
length_written register used new fits =
    omega (
      arith,
      length-append (take used register) (new ++ drop (used + length new) register),
      length-append new (drop (used + length new) register),
      length-drop (used + length new) register,
      length-take-le used register (omega arith),
    )

pub written_none : (register : List Row) (used : ℕ) → written register used [] ≡ register
written_none register used = let e : used + 0 ≡ used = omega arith in ap (λ (u : ℕ). take used register ++ drop u register) e ∙ take-append-drop used register

-- the rows that are handed to a call hold all that are used
pub handed_fits : (s : Settings) (start w : World) (r : ℕ) → SoundDay s start w → length (take r w.register) ≡ s.rows → w.day.used ≤ r
handed_fits s start w r sound all = omega (arith, sound.within, length-take r w.register)

-- a day with the first rows of its register
pub handed_sound : (s : Settings) (start w : World) (r : ℕ) → SoundDay s start w → length (take r w.register) ≡ s.rows → SoundDay s (handed r start) (handed r w)
handed_sound s start w r sound all =
    let fits : w.day.used ≤ r = handed_fits s start w r sound all in
    let rest : r ≡ w.day.used + (r - w.day.used) = omega arith in
    let freed : (xs : List Row) → drop w.day.used (take r xs) ≡ take (r - w.day.used) (drop w.day.used xs) =
    λ xs. ap (λ (n : ℕ). drop w.day.used (take n xs)) rest ∙ drop-take w.day.used (r - w.day.used) xs in
    record {
      market = sound.market;
      rows = subst (SoundRows w.day.orders) (sym (take-take w.day.used r w.register fits)) sound.rows;
      apart = sound.apart;
      cover = sound.cover;
      settings = sound.settings;
      within = sound.within;
      fits = omega (arith, sound.fits, length-take r start.register);
      long = omega (arith, sound.long, length-take r w.register, length-take r start.register);
      free = freed w.register ∙ ap (take (r - w.day.used)) sound.free ∙ sym (freed start.register);
    }

-- a day that a call left of the first rows, with the register's other rows behind them
pub given_sound : (s : Settings) (start w : World) (r : ℕ) (o : Outcome) → SoundDay s start w → length (take r w.register) ≡ s.rows
    → SoundDay s (handed r start) o.world → SoundDay s start (given_back r w o).world
given_sound s start w r o sound all inner =
    let fits : w.day.used ≤ r = handed_fits s start w r sound all in
    let rest : w.day.used + (r - w.day.used) ≡ r = omega arith in
    let behind : (xs : List Row) → drop (r - w.day.used) (drop w.day.used xs) ≡ drop r xs =
    λ xs. drop-drop (r - w.day.used) w.day.used xs ∙ ap (λ (n : ℕ). drop n xs) rest in
    let others : drop r w.register ≡ drop r start.register =
    sym (behind w.register) ∙ ap (drop (r - w.day.used)) sound.free ∙ behind start.register in
    let inside : o.world.day.used ≤ length o.world.register = omega (arith, inner.fits, inner.long) in
    record {
      market = inner.market;
      rows = subst (SoundRows o.world.day.orders) (sym (take-append-le o.world.day.used o.world.register (drop r w.register) inside)) inner.rows;
      apart = inner.apart;
      cover = inner.cover;
      settings = inner.settings;
      within = inner.within;
      fits = omega (arith, inner.fits, length-take r start.register);
      long = omega (arith, inner.long, sound.long, length-append o.world.register (drop r w.register), length-drop r w.register, length-take r start.register);
      free =
          drop-append-le o.world.day.used o.world.register (drop r w.register) inside
          ∙ ap (λ (xs : List Row). xs ++ drop r w.register) inner.free
          ∙ ap (λ (xs : List Row). drop o.world.day.used (take r start.register) ++ xs) others
          ∙ sym (drop-append-le o.world.day.used (take r start.register) (drop r start.register) inner.fits)
          ∙ ap (drop o.world.day.used) (take-append-drop r start.register);
    }
