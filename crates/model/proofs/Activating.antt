-- One activation, and what its law says.
use Rattle.std.proofs.Common.{◌≡◌, ℕ, suc, ◌+◌, ◌-◌, ◌<◌, ◌≤◌, Bool, true, false, List, [], ◌++◌, length, sym, refl, ap, subst, arith}
use Rattle.std.proofs.lemmas.List.{append-nil}
use Rattle.std.proofs.lemmas.Bool.{both_ways}
use Rattle.clearing.specs.Book.{released}
use Rattle.orders.specs.declared.kinds.Direction.TheVariants.{Deposit}
use Rattle.orders.specs.declared.kinds.Order.{Order}
use Rattle.orders.specs.declared.kinds.Row.{Row}
use Rattle.orders.specs.declared.kinds.State.TheVariants.{Done, Waiting, Active}
use Rattle.orders.specs.declared.settings.Settings.{Settings}
use Rattle.model.specs.Calls.{LawfulRule}
use Rattle.model.specs.Choices.{taken, concluded_with}
use Rattle.model.specs.Clock.{Activated, entered_late, activated_failing, activated_meeting, activated}
use Rattle.model.specs.ClockLaw as laws
use Rattle.model.specs.Days.{World}
use Rattle.model.specs.Ledger.{made, named_lots}
use Rattle.model.specs.Market.{order_at, lots_of}
use Rattle.model.specs.Place.{opposite, volume_fails, market_of}
use Rattle.model.specs.Rounds.{Rule, Meeting}
use Rattle.model.specs.WithdrawLaw.{Ended, Releases}
use Rattle.model.proofs.Covered.{releases_released}
use Rattle.model.proofs.Entries.{entry}
use Rattle.model.proofs.PlaceLaws.{fails_little, little_fails}
use Rattle.model.proofs.NamedRows.{named_append}
use Rattle.model.proofs.RowSums.{named_entering}
use Rattle.model.specs.Sound.{SoundOrder, LawfulDay}
use Rattle.model.proofs.LawfulDays.{Leaves, failing_leaves, late_done, late_few, alone, meeting_leaves}
use Rattle.model.proofs.Sound.{Met}
use Rattle.model.proofs.SoundDays.{SoundPlace, SoundDay, lawful_of, lots_held, take_written}
use Rattle.model.proofs.TurnedDays.{ended_sound}
use Rattle.model.proofs.Turns.{Turned, turned_met}
use Rattle.model.proofs.Withdrawing.{done_order, done_place, only_ended, taken_ended, taken_sound}

-- an activation: its law, the day it leaves, and what it left of the other orders and rows
pub record Activates (s : Settings) (start : World) (k : ℕ) (w : World) (a : Activated) : Type 0 where
  pub law : laws.Activation k a.failed a.lots w a.world
  pub sound : SoundDay s start a.world
  pub leaves : Leaves k w a
  pub new : List Row
  pub grown : made a.world ≡ made w ++ new

module _ (s : Settings) (start w : World) (k : ℕ) (sound : SoundDay s start w) (stands : k < length w.day.orders) (waits : (order_at w.day.orders k).state ≡ Waiting) where
  -- an order that waits has all its lots, and no row names it
  untouched : (named_lots (suc k) (made w) ≡ 0) × (lots_of (order_at w.day.orders k) ≡ (order_at w.day.orders k).terms.sum) × ((order_at w.day.orders k).withdrawn ≡ 0)
  untouched =
      let hides = (sound.market.orders k stands).waiting waits in
      let whole = (sound.rows.places k stands).sum in
      (omega arith, omega arith, omega arith)

  not_active : (order_at w.day.orders k).state ≡ Active → ⊥
  not_active is = let z : ◌≡◌ {A = ℕ} 0 1 = cc in omega arith

  day : LawfulDay w.day
  day = lawful_of s start w sound

  pub failing : volume_fails (order_at w.day.orders k).terms w.day.orders ≡ true → Activates s start k w (activated_failing k w)
  unfolding activated_failing
  failing fails =
      let little = fails_little (order_at w.day.orders k).terms w.day.orders fails in
      record {
        law = record {
          settings = refl;
          clock = refl;
          fails = λ _. (
            record {
              mark = little.0;
              little = little.1;
              orders = only_ended w.day.orders k _ stands (taken_ended (order_at w.day.orders k));
              queue = refl;
              used = refl;
              register = refl;
              cover = releases_released w.cover _ _ (sound.rows.places k stands).owner (lots_held s start w sound k stands);
            },
            refl,
          );
          enters = λ no. let z : ◌≡◌ {A = ℕ} 0 1 = cc in absurd (omega arith);
        };
        sound = taken_sound s start w k sound stands;
        leaves = failing_leaves w k day stands waits;
        new = [];
        grown = sym (append-nil (made w));
      }

  module _ (met : Meeting) (is : Met (order_at w.day.orders k).terms (suc k) (market_of w.day) met)
      (passes : volume_fails (order_at w.day.orders k).terms w.day.orders ≡ false)
      (rows : length w.register ≡ s.rows) (room : w.day.used + opposite Deposit w.day.orders ≤ length w.register) where
    abbrev late : Order
    late = entered_late (order_at w.day.orders k) met.left

    ends : late.state ≡ Done
    ends = late_done w k day stands waits met is

    few : length met.market.rows ≤ opposite Deposit w.day.orders
    few = late_few w k day stands waits met is

    turned : Turned s w (suc k) met.market.orders met.market.queue met.market.rows
    turned = turned_met s start w (order_at w.day.orders k).terms (suc k) met sound is untouched.0 (omega (arith, few)) (omega (arith, few))

    left_part : met.left ≤ (order_at w.day.orders k).terms.sum
    left_part = omega (arith, is.left)

    releases : Releases (order_at w.day.orders k).owner met.left w.cover (released w.cover (order_at w.day.orders k).owner met.left)
    releases =
        releases_released w.cover _ _ (sound.rows.places k stands).owner
        (omega (arith, lots_held s start w sound k stands, untouched.1, left_part))

    late_order : SoundOrder late
    late_order = done_order (order_at w.day.orders k) late (sound.market.orders k stands) refl ends refl (omega (arith, untouched.2, left_part))

    late_place : SoundPlace (made w ++ met.market.rows) k late
    late_place =
        let more = named_append (suc k) (made w) met.market.rows in
        let named : named_lots (suc k) met.market.rows ≡ taken w.day.orders (concluded_with (order_at w.day.orders k).terms.direction (suc k) met.market.rows) =
        named_entering (order_at w.day.orders k).terms (suc k) w.day.orders met.market.rows is.enters.rows in
        done_place (made w ++ met.market.rows) k late (sound.rows.places k stands).owner (sound.rows.places k stands).number ends refl
        (omega (arith, untouched.0, untouched.2, is.left))

    late_ended : Ended (order_at met.market.orders k) late
    late_ended =
        subst (λ (o : Order). Ended o late) (sym (alone w k day stands waits met is k stands not_active))
        (record { number = refl; owner = refl; terms = refl; state = ends; none = refl })

    pub entering : Activates s start k w (activated_meeting k w met)
    unfolding activated_meeting
    entering =
        let there : k < length met.market.orders = omega (arith, is.enters.same) in
        let back : (order_at w.day.orders k).terms.sum - ((order_at w.day.orders k).terms.sum - met.left) ≡ met.left = omega (arith, left_part) in
        record {
          law = record {
            settings = refl;
            clock = refl;
            fails = λ on. let z : ◌≡◌ {A = ℕ} 0 1 = cc in absurd (omega arith);
            enters = λ _. record {
              enough = λ mark little.
                  both_ways (volume_fails (order_at w.day.orders k).terms w.day.orders) passes (little_fails (order_at w.day.orders k).terms w.day.orders mark little);
              market = met.market;
              enters = is.enters;
              conclusion = omega (arith, is.left);
              orders = only_ended met.market.orders k late there late_ended;
              queue = refl;
              used = refl;
              fits = omega (arith, few);
              register = refl;
              cover = subst (λ (lots : ℕ). Releases (order_at w.day.orders k).owner lots w.cover (released w.cover (order_at w.day.orders k).owner met.left)) (sym back) releases;
            };
          };
          sound = ended_sound s start w k met.market.orders met.market.queue met.market.rows late met.left _
              sound turned there late_order late_place ends refl refl refl releases;
          leaves = meeting_leaves w k day stands waits met is (omega (arith, ap (λ (t : Settings). t.rows) sound.settings));
          new = met.market.rows;
          grown = take_written w.register w.day.used met.market.rows (omega (arith, sound.fits, sound.long));
        }

-- the order at place k enters
pub activates : (rule : Rule) → LawfulRule rule → (s : Settings) (start w : World) (k : ℕ) → SoundDay s start w → k < length w.day.orders
    → (order_at w.day.orders k).state ≡ Waiting → length w.register ≡ s.rows → w.day.used + opposite Deposit w.day.orders ≤ length w.register
    → Activates s start k w (activated rule k w)
unfolding activated
activates rule lawful s start w k sound stands waits rows room = by (volume_fails (order_at w.day.orders k).terms w.day.orders) refl
  where
    by : (t : Bool) → volume_fails (order_at w.day.orders k).terms w.day.orders ≡ t → Activates s start k w (activated rule k w)
    by true is = rw (is, activated) (failing s start w k sound stands waits is)
    by false is =
        rw (is, activated)
        (entering s start w k sound stands waits _
        (entry rule w.day.settings (order_at w.day.orders k).terms (suc k) (market_of w.day) lawful sound.market refl)
        is rows room)
