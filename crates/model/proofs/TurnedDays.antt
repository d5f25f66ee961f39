-- The days that turns leave.
use Rattle.std.proofs.Common.{◌≡◌, ℕ, suc, ◌+◌, ◌<◌, ◌≤◌, List, [], ◌∷◌, ◌++◌, length, drop, set, sym, ap, ◌∙◌, subst, ap₂, inl, inr, arith}
use Rattle.std.proofs.lemmas.List.{length_push, length-set, drop-drop}
use Rattle.clearing.specs.Book.{Book}
use Rattle.orders.specs.declared.kinds.Order.{Order}
use Rattle.orders.specs.declared.kinds.Row.{Row}
use Rattle.orders.specs.declared.kinds.State.TheVariants.{Done, Active}
use Rattle.orders.specs.declared.kinds.Terms.{Terms}
use Rattle.orders.specs.declared.settings.Settings.{Settings}
use Rattle.model.specs.Choices.{TermsMeet, Admissible}
use Rattle.model.specs.Days.{World, written}
use Rattle.model.specs.Law.{Apart}
use Rattle.model.specs.Ledger.{made}
use Rattle.model.specs.Market.{order_at}
use Rattle.model.specs.Place.{registered}
use Rattle.model.specs.PlaceLaw.{Covers}
use Rattle.model.specs.WithdrawLaw.{Releases}
use Rattle.model.proofs.Covered.{of_owner, of_owner_add, held_covers, held_releases, owned, owned_push, owned_set, owned_same}
use Rattle.model.specs.Sound.{SoundOrder, SoundMarket}
use Rattle.model.proofs.SoundDays.{SoundPlace, SoundRows, SoundDay, take_written, drop_written, length_written, written_none}
use Rattle.model.proofs.Turns.{Turned}
use Rattle.model.proofs.Writes.{at_push, at_set, sound_push, sound_set}

-- the world that a turn leaves
abbrev pub left_by : World → List Order → List ℕ → List Row → Book → World
left_by w orders queue new cover = record {
  day = record { settings = w.day.settings; clock = w.day.clock; orders = orders; queue = queue; used = w.day.used + length new };
  register = written w.register w.day.used new;
  cover = cover;
}

-- the same, with no new row
abbrev pub kept_by : World → List Order → List ℕ → Book → World
kept_by w orders queue cover = record {
  day = record { settings = w.day.settings; clock = w.day.clock; orders = orders; queue = queue; used = w.day.used };
  register = w.register;
  cover = cover;
}

pub kept_is : (w : World) (orders : List Order) (queue : List ℕ) (cover : Book) → left_by w orders queue [] cover ≡ kept_by w orders queue cover
kept_is w orders queue cover =
    let same : w.day.used + 0 ≡ w.day.used = omega arith in
    ap₂ (λ (used : ℕ) (register : List Row). record {
      day = record { settings = w.day.settings; clock = w.day.clock; orders = orders; queue = queue; used = used };
      register = register;
      cover = cover;
    }) same (written_none w.register w.day.used)

-- the order of two that meet does not matter
pub meet_swap : (a b : Terms) → TermsMeet a b → TermsMeet b a
meet_swap a b (inl m) = inr (m.1, m.0, m.2)
meet_swap a b (inr m) = inl (m.1, m.0, m.2)

meet_self : (a : Terms) → TermsMeet a a → ⊥
meet_self a (inl m) = let x = m.0 in let y = m.1 in let z : ◌≡◌ {A = ℕ} 0 1 = cc in omega arith
meet_self a (inr m) = let x = m.0 in let y = m.1 in let z : ◌≡◌ {A = ℕ} 0 1 = cc in omega arith

-- active orders that were active before are apart still
apart_lasting : (before after : List Order) → length after ≡ length before → Apart before
    → ((k : ℕ) → k < length after → (order_at after k).state ≡ Active → ((order_at before k).state ≡ Active) × ((order_at after k).terms ≡ (order_at before k).terms)) → Apart after
apart_lasting before after same apart was j k inside within first second meet =
    apart j k (omega arith) (omega arith) (was j inside first).0 (was k within second).0
    (subst (λ (t : Terms). TermsMeet t (order_at before k).terms) (was j inside first).1
    (subst (λ (t : Terms). TermsMeet (order_at after j).terms t) (was k within second).1 meet))

-- the free rows after a turn
free_after : (s : Settings) (start w : World) (new : List Row) → SoundDay s start w → w.day.used + length new ≤ length w.register
    → drop (w.day.used + length new) (written w.register w.day.used new) ≡ drop (w.day.used + length new) start.register
free_after s start w new sound fits =
    drop_written w.register w.day.used new (omega arith)
    ∙ sym (drop-drop (length new) w.day.used w.register)
    ∙ ap (drop (length new)) sound.free
    ∙ drop-drop (length new) w.day.used start.register

-- the day that a turn leaves, from its orders, its queue and its cover
left_sound : (s : Settings) (start w : World) (n : ℕ) (orders : List Order) (queue : List ℕ) (new : List Row) (orders' : List Order) (queue' : List ℕ) (cover : Book)
    → SoundDay s start w → Turned s w n orders queue new
    → SoundMarket (record { orders = orders'; queue = queue'; rows = [] }) → SoundRows orders' (made w ++ new) → Apart orders'
    → ((p : ℕ) → cover.held p + owned (λ o. o.withdrawn) p orders' ≡ start.cover.held p + owned (λ o. o.terms.sum) p orders')
    → SoundDay s start (left_by w orders' queue' new cover)
left_sound s start w n orders queue new orders' queue' cover sound turned market rows apart covered = record {
  market = market;
  rows = subst (SoundRows orders') (sym (take_written w.register w.day.used new (omega (arith, sound.fits, sound.long)))) rows;
  apart = apart;
  cover = covered;
  settings = sound.settings;
  within = turned.within;
  fits = omega (arith, turned.fits, sound.long);
  long = length_written w.register w.day.used new turned.fits ∙ sound.long;
  free = free_after s start w new sound turned.fits;
}

-- what the orders of a turn were asked for and have withdrawn is as it was
turned_owned : (s : Settings) (w : World) (n : ℕ) (orders : List Order) (queue : List ℕ) (new : List Row) → Turned s w n orders queue new → (p : ℕ)
    → (owned (λ o. o.terms.sum) p orders ≡ owned (λ o. o.terms.sum) p w.day.orders) × (owned (λ o. o.withdrawn) p orders ≡ owned (λ o. o.withdrawn) p w.day.orders)
turned_owned s w n orders queue new turned p = (
  owned_same (λ o. o.terms.sum) p orders w.day.orders turned.same
      (λ k inside. ((turned.lasting k inside).owner, ap (λ (t : Terms). t.sum) (turned.lasting k inside).terms)),
  owned_same (λ o. o.withdrawn) p orders w.day.orders turned.same (λ k inside. ((turned.lasting k inside).owner, (turned.lasting k inside).withdrawn)),
)

-- one order has ended, and some of its lots are released
pub ended_sound : (s : Settings) (start w : World) (k : ℕ) (orders : List Order) (queue : List ℕ) (new : List Row) (x : Order) (lots : ℕ) (cover : Book)
    → SoundDay s start w → Turned s w (suc k) orders queue new → k < length orders
    → SoundOrder x → SoundPlace (made w ++ new) k x → x.state ≡ Done
    → x.owner ≡ (order_at w.day.orders k).owner → x.terms ≡ (order_at w.day.orders k).terms → x.withdrawn ≡ (order_at w.day.orders k).withdrawn + lots
    → Releases (order_at w.day.orders k).owner lots w.cover cover
    → SoundDay s start (left_by w (set orders k x) queue new cover)
ended_sound s start w k orders queue new x lots cover sound turned stands fit place done owner terms withdrawn releases =
    left_sound s start w (suc k) orders queue new (set orders k x) queue cover sound turned
    (sound_set (record { orders = orders; queue = queue; rows = [] }) k x [] turned.market stands fit (terms ∙ sym (turned.lasting k stands).terms))
    (record {
      places = at_set (SoundPlace (made w ++ new)) orders k x stands (λ j inside other. turned.places j inside (λ same. other (omega arith))) place;
      unnamed = λ j outside. turned.unnamed j (omega (arith, length-set orders k x)) (λ same. omega (arith, length-set orders k x));
      some = turned.some;
      single = turned.single;
    })
    (apart_lasting w.day.orders (set orders k x) (length-set orders k x ∙ turned.same) sound.apart
    (at_set (λ j o. o.state ≡ Active → ((order_at w.day.orders j).state ≡ Active) × (o.terms ≡ (order_at w.day.orders j).terms)) orders k x stands
    (λ j inside other is. ((turned.lasting j inside).active is, (turned.lasting j inside).terms))
    (λ is. let z : ◌≡◌ {A = ℕ} 0 1 = cc in absurd (omega arith))))
    covered
  where
    -- his figure before and after
    his : (p : ℕ) → of_owner p (order_at w.day.orders k).owner x.withdrawn
        ≡ of_owner p (order_at w.day.orders k).owner (order_at orders k).withdrawn + of_owner p (order_at w.day.orders k).owner lots
    his p =
        ap (of_owner p (order_at w.day.orders k).owner) (withdrawn ∙ ap (λ (n : ℕ). n + lots) (sym (turned.lasting k stands).withdrawn))
        ∙ of_owner_add p (order_at w.day.orders k).owner (order_at orders k).withdrawn lots

    covered : (p : ℕ) → cover.held p + owned (λ o. o.withdrawn) p (set orders k x) ≡ start.cover.held p + owned (λ o. o.terms.sum) p (set orders k x)
    covered p =
        let same = turned_owned s w (suc k) orders queue new turned p in
        let asked : of_owner p (order_at w.day.orders k).owner x.terms.sum ≡ of_owner p (order_at w.day.orders k).owner (order_at orders k).terms.sum =
        ap (λ (t : Terms). of_owner p (order_at w.day.orders k).owner t.sum) (terms ∙ sym (turned.lasting k stands).terms) in
        omega (
          arith,
          sound.cover p,
          his p,
          held_releases (order_at w.day.orders k).owner lots w.cover cover releases p,
          owned_set (λ o. o.withdrawn) p (order_at w.day.orders k).owner orders k x stands (turned.lasting k stands).owner owner,
          owned_set (λ o. o.terms.sum) p (order_at w.day.orders k).owner orders k x stands (turned.lasting k stands).owner owner,
        )

-- orders that are apart, and one more that none of them meets
apart_push : (orders : List Order) (x : Order) → Apart orders → (x.state ≡ Active → (k : ℕ) → k < length orders → Admissible x.terms (order_at orders k) → ⊥) → Apart (orders ++ (x ∷ []))
apart_push orders x apart clear j k inside within first second =
    at_push (λ i o. (k : ℕ) → k < length (orders ++ (x ∷ [])) → o.state ≡ Active → (order_at (orders ++ (x ∷ [])) k).state ≡ Active → TermsMeet o.terms (order_at (orders ++ (x ∷ [])) k).terms → ⊥) orders x
    (λ i there. at_push (λ k o. (order_at orders i).state ≡ Active → o.state ≡ Active → TermsMeet (order_at orders i).terms o.terms → ⊥) orders x
    (λ k stands. apart i k there stands) (λ old is meets. clear is i there (old, meet_swap (order_at orders i).terms x.terms meets)))
    (at_push (λ k o. x.state ≡ Active → o.state ≡ Active → TermsMeet x.terms o.terms → ⊥) orders x
    (λ k stands is old meets. clear is k stands (old, meets)) (λ is _ meets. meet_self x.terms meets))
    j inside k within first second

-- one more order stands behind all others, and its lots that are not withdrawn are covered
pub pushed_sound : (s : Settings) (start w : World) (orders : List Order) (queue : List ℕ) (new : List Row) (x : Order) (lots : ℕ) (cover : Book)
    → SoundDay s start w → Turned s w (suc (length w.day.orders)) orders queue new
    → SoundOrder x → SoundPlace (made w ++ new) (length w.day.orders) x → registered x.terms.direction orders < 64
    → (x.state ≡ Active → (k : ℕ) → k < length orders → Admissible x.terms (order_at orders k) → ⊥)
    → x.terms.sum ≡ x.withdrawn + lots → Covers x.owner lots w.cover cover
    → SoundDay s start (left_by w (orders ++ (x ∷ [])) (queue ++ (length orders ∷ [])) new cover)
pushed_sound s start w orders queue new x lots cover sound turned fit place few clear whole covers =
    left_sound s start w (suc (length w.day.orders)) orders queue new (orders ++ (x ∷ [])) (queue ++ (length orders ∷ [])) cover sound turned
    (sound_push (record { orders = orders; queue = queue; rows = [] }) x [] turned.market fit few)
    (record {
      places = at_push (SoundPlace (made w ++ new)) orders x (λ k inside. turned.places k inside (λ same. omega (arith, turned.same)))
          (subst (λ (k : ℕ). SoundPlace (made w ++ new) k x) (sym turned.same) place);
      unnamed = λ k outside. turned.unnamed k (omega (arith, length_push orders x)) (λ same. omega (arith, length_push orders x, turned.same));
      some = turned.some;
      single = turned.single;
    })
    (apart_push orders x
    (apart_lasting w.day.orders orders turned.same sound.apart (λ k inside is. ((turned.lasting k inside).active is, (turned.lasting k inside).terms))) clear)
    covered
  where
    covered : (p : ℕ) → cover.held p + owned (λ o. o.withdrawn) p (orders ++ (x ∷ [])) ≡ start.cover.held p + owned (λ o. o.terms.sum) p (orders ++ (x ∷ []))
    covered p =
        let same = turned_owned s w (suc (length w.day.orders)) orders queue new turned p in
        omega (
          arith,
          sound.cover p,
          held_covers x.owner lots w.cover cover covers p,
          owned_push (λ o. o.withdrawn) p orders x,
          owned_push (λ o. o.terms.sum) p orders x,
          ap (of_owner p x.owner) whole ∙ of_owner_add p x.owner x.withdrawn lots,
        )
