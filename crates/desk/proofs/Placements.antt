-- Place, refused or accepted.
use Rattle.std.proofs.Common.{◌≡◌, ℕ, ◌+◌, ◌-◌, ◌<◌, ◌≤◌, Bool, true, false, cond, List, [], ◌∷◌, length, take, set, Some, None, sym, refl, ap, ◌∙◌, arith}
use Rattle.std.proofs.lemmas.List.{length-take-le, take_more_set}
use Rattle.std.proofs.lemmas.List.Sums.{sum_by-cons}
use Rattle.std.proofs.lemmas.Bool.{cond-false}
use Rattle.clearing.specs.Book.{Book, can_reserve, can_release, reserved, released}
use Rattle.clearing.specs.Makeup.{Makeup, shown, taken, returned, reserved_in}
use Rattle.orders.specs.Answers.{accepted, refused_for}
use Rattle.orders.specs.Checks.{waits_first}
use Rattle.orders.specs.Table.{first}
use Rattle.orders.specs.declared.kinds.Direction.{Direction}
use Rattle.orders.specs.declared.kinds.Direction.TheVariants.{Deposit, Repo}
use Rattle.orders.specs.declared.kinds.Mode.{Mode}
use Rattle.orders.specs.declared.kinds.Order.{Order}
use Rattle.orders.specs.declared.kinds.Row.{Row}
use Rattle.orders.specs.declared.kinds.Terms.{Terms}
use Rattle.orders.specs.declared.refusals.Refusal.{Refusal}
use Rattle.orders.specs.declared.refusals.Refusal.TheVariants as refused
use Rattle.orders.specs.declared.settings.Settings.{Settings}
use Rattle.model.specs.Days.{Day, World, written}
use Rattle.model.specs.Place.{entered, next_number, opposite, place_table, placed, placed_meeting, placed_waiting, placing, registered, same_direction, waiting, withdrawn_of}
use Rattle.model.specs.Rounds.{Rule}
use Rattle.model.specs.States.{day_of}
use Rattle.model.specs.declared.state.DayState.{DayState}
use Rattle.model.proofs.Tables.{Passed, none_below, passed}
use Rattle.desk.specs.Entry.{day_met, day_with, meeting_in}
use Rattle.desk.specs.Inside.{place_inside, placed_inside}
use Rattle.desk.specs.Judging.{place_tests}
use Rattle.desk.specs.Kept.{Sound}
use Rattle.desk.specs.Worlds.{world_of}
use Rattle.desk.proofs.Tables.{place_covered, place_refused}
use Rattle.desk.proofs.Withdrawals.{judged_none, judged_some}

-- one more order in the tables
pub day_pushed : (d : Day) (orders : List Order) (queue : List ℕ) (count : ℕ) (o : Order) → count < length orders → count < length queue
    → record { settings = d.settings; clock = d.clock; orders = take (count + 1) (set orders count o); queue = take (count + 1) (set queue count count); used = d.used }
    ≡ day_with (record { settings = d.settings; clock = d.clock; orders = take count orders; queue = take count queue; used = d.used }) o
day_pushed d orders queue count o inside within =
    rw (take_more_set orders count o inside, take_more_set queue count count within, length-take-le count orders (omega arith)) refl

-- every order is registered in one of the two directions
one_direction : (d : Direction) → cond (same_direction Deposit d) 1 0 + cond (same_direction Repo d) 1 0 ≡ 1
one_direction Deposit = refl
one_direction Repo = refl

pub all_registered : (orders : List Order) → registered Deposit orders + registered Repo orders ≡ length orders
all_registered [] = refl
all_registered (o ∷ os) =
    omega (
      arith,
      sum_by-cons (λ (x : Order). cond (same_direction Deposit x.terms.direction) 1 0) o os,
      sum_by-cons (λ (x : Order). cond (same_direction Repo x.terms.direction) 1 0) o os,
      one_direction o.terms.direction,
      all_registered os,
    )

-- so there is room for one more of a direction that has less than 64
pub room_left : (d : Direction) (orders : List Order) → ((c : Direction) → registered c orders ≤ 64) → registered d orders < 64 → length orders < 128
room_left Deposit orders few less = omega (arith, all_registered orders, few Repo)
room_left Repo orders few less = omega (arith, all_registered orders, few Deposit)

-- whether it waits, asked with the mode of the settings
pub waits_is : (s : Settings) (mode : Mode) (e : Terms) (b : Bool) → mode ≡ s.mode → b ≡ waits_first mode e → waits_first s.mode e ≡ b
waits_is s mode e b m is = ap (λ (x : Mode). waits_first x e) (sym m) ∙ sym is

module _ (rule : Rule) (p : ℕ) (e : Terms) (w : World) where
  -- a refusal changes nothing
  refuses : (r : Refusal) → first (place_table w p e) ≡ Some r → placing rule p e w ≡ record { answer = refused_for r; world = w }
  unfolding placing
  refuses r is = judged_some (place_table w p e) w (placed rule w p e) r is

  keeps : (m : Makeup) (r : Refusal) → first (place_table w p e) ≡ Some r → m ≡ place_inside rule p e w m
  unfolding place_inside
  keeps m r is = rw (is, place_inside) refl

  pub tests_refuse : (r : Refusal) → Some r ≡ first (place_tests w.day (length w.register) p e) → placing rule p e w ≡ record { answer = refused_for r; world = w }
  tests_refuse r is = refuses r (place_refused w p e r (sym is))

  pub tests_keep : (m : Makeup) (r : Refusal) → Some r ≡ first (place_tests w.day (length w.register) p e) → m ≡ place_inside rule p e w m
  tests_keep m r is = keeps m r (place_refused w p e r (sym is))

  -- all tests but that of the cover are passed
  module _ (tested : None ≡ first (place_tests w.day (length w.register) p e)) where
    module _ (bare : false ≡ can_reserve w.cover p e.sum) where
      uncovered : first (place_table w p e) ≡ Some refused.Cover
      uncovered = place_covered w p e (sym tested) ∙ rw (sym bare) refl

      pub cover_refuses : (cover : Book) → cover ≡ reserved w.cover p e.sum
          → placing rule p e w ≡ record { answer = refused_for refused.Cover; world = record { day = w.day; register = w.register; cover = cover } }
      cover_refuses cover is = refuses refused.Cover uncovered ∙ rw (is, sym bare) refl

      pub cover_keeps : (m after : Makeup) → after ≡ cond (can_reserve w.cover p e.sum) (taken m p e.sum) m → after ≡ place_inside rule p e w m
      cover_keeps m after is = is ∙ cond-false (can_reserve w.cover p e.sum) (taken m p e.sum) m (sym bare) ∙ keeps m refused.Cover uncovered

    module _ (covered : true ≡ can_reserve w.cover p e.sum) where
      accepted_table : first (place_table w p e) ≡ None
      accepted_table = place_covered w p e (sym tested) ∙ rw (sym covered) refl

      pub accepted_passed : Passed w p e
      accepted_passed = passed w p e (none_below (place_table w p e) accepted_table)

      accepts : placing rule p e w ≡ placed rule w p e
      unfolding placing
      accepts = judged_none (place_table w p e) w (placed rule w p e) accepted_table

      accepts_inside : (m : Makeup) → place_inside rule p e w m ≡ placed_inside rule p e w m
      unfolding place_inside
      accepts_inside m = rw (accepted_table, place_inside) refl

      -- an order that waits
      module _ (waits : waits_first w.day.settings.mode e ≡ true) where
        pub waits_placed : (number : ℕ) → number ≡ next_number w.day → (day : Day) (cover : Book) (o : Order)
            → o ≡ waiting number p e → day ≡ day_with w.day o → cover ≡ reserved w.cover p e.sum
            → placing rule p e w ≡ record { answer = accepted (number ∷ 0 ∷ []); world = record { day = day; register = w.register; cover = cover } }
        unfolding placed placed_waiting
        waits_placed number n day cover o is d c = accepts ∙ rw (waits, placed, placed_waiting, d, c, is, n) refl

        pub waits_inside : (m after : Makeup) → w.cover ≡ shown m → after ≡ cond (can_reserve w.cover p e.sum) (taken m p e.sum) m → after ≡ place_inside rule p e w m
        unfolding placed_inside
        waits_inside m after shows h = h ∙ sym (accepts_inside m ∙ rw (waits, placed_inside, sym shows) refl)

      -- any other
      module _ (early : waits_first w.day.settings.mode e ≡ false) (number left lots : ℕ) (n : number ≡ next_number w.day)
          (l : left ≡ (meeting_in rule w.day e number).left) (out : lots ≡ withdrawn_of e left) where
        pub meets_placed : (day : Day) (register : List Row) (cover after : Book)
            → day ≡ day_with (day_met w.day (meeting_in rule w.day e number)) (entered number p e left)
            → register ≡ written w.register w.day.used (meeting_in rule w.day e number).market.rows
            → cover ≡ reserved w.cover p e.sum → after ≡ released cover p lots
            → placing rule p e w ≡ record { answer = accepted (number ∷ (e.sum - left) ∷ []); world = record { day = day; register = register; cover = after } }
        unfolding placed placed_meeting
        meets_placed day register cover after d r c a = accepts ∙ rw (early, placed, placed_meeting, d, r, a, c, out, l, n) refl

        pub meets_inside : (m held after : Makeup) (cover : Book) → w.cover ≡ shown m → cover ≡ shown held
            → held ≡ cond (can_reserve w.cover p e.sum) (taken m p e.sum) m
            → after ≡ cond (can_release cover p lots) (returned held p lots) held → after ≡ place_inside rule p e w m
        unfolding placed_inside
        meets_inside m held after cover shows still h a =
            let before : reserved_in m p e.sum ≡ held = rw (sym shows) (sym h) in
            a ∙ sym (accepts_inside m ∙ rw (early, placed_inside, before, sym still, sym n, sym l, sym out) refl)

-- an order that passed finds a place in the arrays, and room for its rows
module _ (s : DayState) (register : List Row) (cover : Book) (p : ℕ) (e : Terms) (sound : Sound s) (is : Passed (world_of s register cover) p e) where
  pub place_left : length (day_of s).orders < 128
  place_left = room_left e.direction (day_of s).orders sound.market.few is.few

  pub rows_left : waits_first s.settings.mode e ≡ false → s.used + opposite e.direction (day_of s).orders ≤ length register
  rows_left early = omega (arith, is.room early, is.register, sound.within)
