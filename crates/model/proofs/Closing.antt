-- Close, and the final statement.
use Rattle.std.proofs.Common.{◌≡◌, ℕ, suc, ◌+◌, ◌-◌, ◌<◌, ◌≤◌, cond, eqb, List, [], ◌∷◌, length, get_or, sym, refl, ap, ◌∙◌, subst, arith}
use Rattle.std.specs.List.{AllByRecursion}
use Rattle.std.proofs.ByRecursion.{All-from_get_or}
use Rattle.std.proofs.lemmas.List.{get_or-map, length-map}
use Rattle.std.proofs.lemmas.List.Sums.{sum_by-cons}
use Rattle.std.proofs.lemmas.Bool.Decides.{nat_tests}
use Rattle.clearing.specs.Book.{Book, released}
use Rattle.orders.specs.declared.kinds.Order.{Order}
use Rattle.orders.specs.declared.lifecycle.Event.TheVariants.{Close}
use Rattle.orders.specs.declared.settings.Settings.{Settings}
use Rattle.model.specs.Calls.{Call}
use Rattle.model.specs.Close.{Stated, released_all, closing, statement}
use Rattle.model.specs.CloseLaw.{Closed, unstated, States}
use Rattle.model.specs.Days.{World}
use Rattle.model.specs.Ledger.{withdrawn_over}
use Rattle.model.specs.Market.{none, order_at, lots_of}
use Rattle.model.specs.Withdraw.{taken_out}
use Rattle.model.specs.WithdrawLaw.{Ended}
use Rattle.model.proofs.Covered.{releases_released, held_releases, owned}
use Rattle.model.proofs.SoundDays.{SoundDay, owned_held}
use Rattle.model.proofs.Totals.{total_sum_by}
use Rattle.model.proofs.Withdrawing.{ends_close}

-- a book from which all lots of some orders were released
record ReleasesAll (orders : List Order) (before after : Book) : Type 0 where
  kept : (p : ℕ) → after.free p + after.held p ≡ before.free p + before.held p
  held : (p : ℕ) → after.held p + owned lots_of p orders ≡ before.held p

-- one of them
owned_more : (p : ℕ) (o : Order) (os : List Order) → owned lots_of p (o ∷ os) ≡ cond (eqb o.owner p) (lots_of o) 0 + owned lots_of p os
owned_more p o os = sum_by-cons (λ (x : Order). cond (eqb x.owner p) (lots_of x) 0) o os

released_all_lem : (b : Book) (orders : List Order) → AllByRecursion (λ o. o.owner ≤ 63) orders → ((p : ℕ) → owned lots_of p orders ≤ b.held p) → ReleasesAll orders b (released_all b orders)
unfolding released_all
released_all_lem b [] known enough = record { kept = λ p. refl; held = λ p. omega arith }
released_all_lem b (o ∷ os) known enough =
    let his : lots_of o ≤ b.held o.owner = let here = enough o.owner in let both = owned_more o.owner o os in grind (arith, nat_tests) in
    let first = releases_released b o.owner (lots_of o) known.0 his in
    let one = held_releases o.owner (lots_of o) b (released b o.owner (lots_of o)) first in
    let rest = released_all_lem (released b o.owner (lots_of o)) os known.1 (λ p. omega (arith, one p, owned_more p o os, enough p)) in
    record { kept = λ p. rest.kept p ∙ first.kept p; held = λ p. omega (arith, rest.held p, one p, owned_more p o os) }

-- the order at place k after the close
pub closed_at : (w : World) (k : ℕ) → k < length w.day.orders → order_at (closing w).day.orders k ≡ taken_out Close (order_at w.day.orders k)
unfolding closing
closed_at w k stands = get_or-map (taken_out Close) w.day.orders k none none stands

pub closed : (s : Settings) (start w : World) → SoundDay s start w → Closed w (closing w)
unfolding closing
closed s start w sound =
    let releases = released_all_lem w.cover w.day.orders
    (All-from_get_or (λ o. o.owner ≤ 63) w.day.orders none (λ k stands. (sound.rows.places k stands).owner)) (owned_held s start w sound) in
    record {
      settings = refl;
      clock = refl;
      used = refl;
      register = refl;
      same = length-map w.day.orders (taken_out Close);
      orders = λ k stands. subst (Ended (order_at w.day.orders k)) (sym (closed_at w k stands))
          (record { number = refl; owner = refl; terms = refl; state = ends_close (order_at w.day.orders k).state; none = refl });
      kept = releases.kept;
      held = λ p. ap (λ (n : ℕ). (released_all w.cover w.day.orders).held p + n) (total_sum_by (λ (o : Order). cond (eqb o.owner p) (lots_of o) 0) w.day.orders none) ∙ releases.held p;
    }

-- the line of the order at place k
stated_at : (w : World) (k : ℕ) → k < length w.day.orders
    → get_or (statement (closing w).day.orders) k unstated
    ≡ record { concluded = (order_at w.day.orders k).terms.sum - ((order_at w.day.orders k).withdrawn + lots_of (order_at w.day.orders k)); withdrawn = (order_at w.day.orders k).withdrawn + lots_of (order_at w.day.orders k) }
unfolding closing
stated_at w k stands =
    get_or-map _ (closing w).day.orders k none unstated (omega (arith, length-map w.day.orders (taken_out Close)))
    ∙ ap (λ (o : Order). record { concluded = o.terms.sum - o.withdrawn; withdrawn = o.withdrawn }) (closed_at w k stands)

pub states : (s : Settings) (start w : World) (calls : List Call) → SoundDay s start w
    → ((k : ℕ) → (order_at w.day.orders k).withdrawn ≡ withdrawn_over calls start (suc k)) → States calls start w (closing w)
unfolding closing
states s start w calls sound withdrawn = record {
  all = length-map (closing w).day.orders _ ∙ length-map w.day.orders (taken_out Close);
  concluded = λ k stands. ap (λ (x : Stated). x.concluded) (stated_at w k stands) ∙ omega (arith, (sound.rows.places k stands).sum);
  withdrawn = λ k stands. ap (λ (x : Stated). x.withdrawn) (stated_at w k stands) ∙ omega (arith, withdrawn k);
}
