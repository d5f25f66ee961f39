-- One turn of a day: an order enters or not, and then one more order stands in the day, or one of its orders has ended.
use Rattle.std.proofs.Common.{◌≡◌, ℕ, zero, suc, ◌+◌, ◌<◌, ◌≤◌, true, ◌⊎◌, List, [], ◌++◌, length, sym, refl, ap, ◌∙◌, subst, inl, inr, arith}
use Rattle.std.specs.List.{AllByRecursion}
use Rattle.std.proofs.ByRecursion.{All-append, All-weaker}
use Rattle.std.proofs.lemmas.List.{append-nil}
use Rattle.std.proofs.lemmas.Bool.{cases_lt}
use Rattle.orders.specs.declared.kinds.Direction.TheVariants.{Deposit}
use Rattle.orders.specs.declared.kinds.Order.{Order}
use Rattle.orders.specs.declared.kinds.Remainder.TheVariants.{Queue}
use Rattle.orders.specs.declared.kinds.Row.{Row}
use Rattle.orders.specs.declared.kinds.State.TheVariants.{Done, Waiting, Active}
use Rattle.orders.specs.declared.kinds.Terms.{Terms}
use Rattle.orders.specs.declared.settings.Settings.{Settings}
use Rattle.model.specs.Choices.{concluded_with}
use Rattle.model.specs.Days.{World}
use Rattle.model.specs.Entry.{OneRowEach, NewRow, Touched}
use Rattle.model.specs.Ledger.{made, named_lots}
use Rattle.model.specs.Market.{order_at, lots_of}
use Rattle.model.specs.Place.{market_of}
use Rattle.model.specs.Rounds.{Meeting}
use Rattle.model.proofs.NamedRows.{names_order, named_append, unnamed_all, pair_named, single_append}
use Rattle.model.proofs.RowSums.{named_partner, concluded_with_others}
use Rattle.model.specs.Sound.{SoundMarket}
use Rattle.model.proofs.Sound.{Met}
use Rattle.model.proofs.SoundDays.{SoundPlace, SoundRows, SoundDay}

-- an order that a turn left as asked, no more active than it was, and with nothing withdrawn
pub record Lasting (before after : Order) : Type 0 where
  pub owner : after.owner ≡ before.owner
  pub terms : after.terms ≡ before.terms
  pub withdrawn : after.withdrawn ≡ before.withdrawn
  pub active : after.state ≡ Active → before.state ≡ Active

-- the orders, the queue and the new rows of a day in which order n enters, that order aside
pub record Turned (s : Settings) (w : World) (n : ℕ) (orders : List Order) (queue : List ℕ) (new : List Row) : Type 0 where
  pub market : SoundMarket (record { orders = orders; queue = queue; rows = [] })
  pub same : length orders ≡ length w.day.orders
  pub lasting : (k : ℕ) → k < length orders → Lasting (order_at w.day.orders k) (order_at orders k)
  pub places : (k : ℕ) → k < length orders → (suc k ≡ n → ⊥) → SoundPlace (made w ++ new) k (order_at orders k)
  pub unnamed : (k : ℕ) → length orders ≤ k → (suc k ≡ n → ⊥) → named_lots (suc k) (made w ++ new) ≡ 0
  pub some : AllByRecursion (λ r. 1 ≤ r.lots) (made w ++ new)
  pub single : OneRowEach (made w ++ new)
  pub within : w.day.used + length new ≤ s.rows
  pub fits : w.day.used + length new ≤ length w.register

-- nothing entered
pub turned_none : (s : Settings) (start w : World) (n : ℕ) → SoundDay s start w → Turned s w n w.day.orders w.day.queue []
turned_none s start w n sound =
    let rows : SoundRows w.day.orders (made w ++ []) = subst (SoundRows w.day.orders) (sym (append-nil (made w))) sound.rows in
    record {
      market = sound.market;
      same = refl;
      lasting = λ k inside. record { owner = refl; terms = refl; withdrawn = refl; active = λ is. is };
      places = λ k inside other. rows.places k inside;
      unnamed = λ k outside other. rows.unnamed k outside;
      some = rows.some;
      single = rows.single;
      within = omega (arith, sound.within);
      fits = omega (arith, sound.fits, sound.long);
    }

-- a touched order is in its state still, or it is done
pub touched_state : (c : ℕ) (o after : Order) → Touched c o after → (after.state ≡ o.state) ⊎ (after.state ≡ Done)
touched_state zero o after touched = inl (ap (λ (x : Order). x.state) (touched.untouched refl))
touched_state (suc c) o after touched =
    elim (cases_lt 0 (lots_of after)) [
      | inl more ↦ inl (touched.goes_on more)
      | inr nothing ↦ inr (touched.ended (omega arith) (omega arith))
    ]

pub touched_active : (c : ℕ) (o after : Order) → Touched c o after → after.state ≡ Active → o.state ≡ Active
touched_active c o after touched is = elim (touched_state c o after touched) [ inl same ↦ sym same ∙ is | inr done ↦ cc ]

pub touched_waiting : (c : ℕ) (o after : Order) → Touched c o after → after.state ≡ Waiting → o.state ≡ Waiting
touched_waiting c o after touched is = elim (touched_state c o after touched) [ inl same ↦ sym same ∙ is | inr done ↦ cc ]

-- a place whose order was touched, with the rows that name it
place_touched : (old new : List Row) (k : ℕ) (o after : Order) → Touched (named_lots (suc k) new) o after → SoundPlace old k o → SoundPlace (old ++ new) k after
place_touched old new k o after touched sound = record {
  owner = subst (λ (p : ℕ). p ≤ 63) (sym touched.owner) sound.owner;
  number = touched.number ∙ sound.number;
  waits = λ is. subst (λ (t : Terms). (t.direction ≡ Deposit) × (t.remainder ≡ Queue → ⊥)) (sym touched.terms) (sound.waits (touched_waiting (named_lots (suc k) new) o after touched is));
  rests = λ is. ap (λ (t : Terms). t.remainder) touched.terms ∙ sound.rests (touched_active (named_lots (suc k) new) o after touched is);
  sum =
      let more = named_append (suc k) old new in
      omega (arith, ap (λ (t : Terms). t.sum) touched.terms, sound.sum, touched.lots, touched.withdrawn);
}

-- an order entered
pub turned_met : (s : Settings) (start w : World) (e : Terms) (n : ℕ) (met : Meeting) → SoundDay s start w → Met e n (market_of w.day) met
    → named_lots n (made w) ≡ 0 → w.day.used + length met.market.rows ≤ s.rows → w.day.used + length met.market.rows ≤ length w.register
    → Turned s w n met.market.orders met.market.queue met.market.rows
turned_met s start w e n met sound is fresh within fits = record {
  market = record { orders = is.sound.orders; few = is.sound.few; queued = is.sound.queued; inside = is.sound.inside };
  same = is.enters.same;
  lasting = λ k inside. let t = is.enters.orders k (omega (arith, is.enters.same)) in
      record { owner = t.owner; terms = t.terms; withdrawn = t.withdrawn; active = touched_active _ _ _ t };
  places = λ k inside other.
      let there : k < length w.day.orders = omega (arith, is.enters.same) in
      place_touched (made w) met.market.rows k (order_at w.day.orders k) (order_at met.market.orders k)
      (subst (λ (c : ℕ). Touched c (order_at w.day.orders k) (order_at met.market.orders k)) (sym (named k other)) (is.enters.orders k there))
      (sound.rows.places k there);
  unnamed = λ k outside other.
      let there : length w.day.orders ≤ k = omega (arith, is.enters.same) in
      let more = named_append (suc k) (made w) met.market.rows in
      omega (
        arith,
        named k other,
        sound.rows.unnamed k there,
        concluded_with_others e n w.day.orders met.market.rows k is.enters.rows (λ inside _. omega arith),
      );
  some = All-append (λ r. 1 ≤ r.lots) (made w) met.market.rows sound.rows.some
      (All-weaker (NewRow e n w.day.orders) (λ r. 1 ≤ r.lots) (λ r new. new.some) met.market.rows is.enters.rows);
  single = single_append n (made w) met.market.rows sound.rows.single is.enters.single (unnamed_all n (made w) sound.rows.some fresh)
      (All-weaker (NewRow e n w.day.orders) (λ r. names_order n r ≡ true) (λ r new. pair_named e.direction n new.place r new.pair) met.market.rows is.enters.rows);
  within = within;
  fits = fits;
}
  where
    named : (k : ℕ) → (suc k ≡ n → ⊥) → named_lots (suc k) met.market.rows ≡ concluded_with e.direction n met.market.rows k
    named k other = named_partner e n w.day.orders met.market.rows k is.enters.rows (λ same. other (sym same))
