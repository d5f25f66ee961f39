-- Withdraw, refused or accepted.
use Rattle.std.proofs.Common.{◌≡◌, ℕ, pred, List, [], ◌∷◌, Some, None, sym, refl, ◌∙◌}
use Rattle.clearing.specs.Book.{Book, released}
use Rattle.clearing.specs.Makeup.{Makeup, released_in}
use Rattle.orders.specs.Answers.{accepted, refused_for}
use Rattle.orders.specs.Table.{Table, first}
use Rattle.orders.specs.declared.kinds.Order.{Order}
use Rattle.orders.specs.declared.kinds.Row.{Row}
use Rattle.orders.specs.declared.lifecycle.Event.TheVariants.{Withdrawal}
use Rattle.orders.specs.declared.refusals.Refusal.{Refusal}
use Rattle.model.specs.Days.{Day, World, Outcome, judged}
use Rattle.model.specs.Market.{order_at, lots_of}
use Rattle.model.specs.Withdraw.{withdraw_table, taken_out, with_order_at, withdrawn, withdrawing}
use Rattle.model.specs.States.{day_of}
use Rattle.model.specs.declared.state.DayState.{DayState}
use Rattle.desk.specs.Worlds.{world_of}
use Rattle.desk.specs.Inside.{withdraw_inside}

pub judged_some : (table : Table) (w : World) (done : Outcome) (r : Refusal) → first table ≡ Some r → judged table w done ≡ record { answer = refused_for r; world = w }
judged_some table w done r e = rw (judged, e) refl

pub judged_none : (table : Table) (w : World) (done : Outcome) → first table ≡ None → judged table w done ≡ done
judged_none table w done e = rw (judged, e) refl

pub withdraw_refused : (n p : ℕ) (w : World) (r : Refusal) → first (withdraw_table w.day n p) ≡ Some r → withdrawing n p w ≡ record { answer = refused_for r; world = w }
unfolding withdrawing
withdraw_refused n p w r e = judged_some (withdraw_table w.day n p) w (withdrawn n w) r e

pub inside_refused : (n p : ℕ) (d : Day) (m : Makeup) (r : Refusal) → first (withdraw_table d n p) ≡ Some r → m ≡ withdraw_inside n p d m
unfolding withdraw_inside
inside_refused n p d m r e = rw (withdraw_inside, e) refl

-- an accepted call takes the order at place k out and releases its lots
module _ (n p k : ℕ) (s : DayState) (passes : None ≡ first (withdraw_table (day_of s) n p)) (is : k ≡ pred n) (was : Order) (here : was ≡ order_at (day_of s).orders k) where
  pub withdraw_accepted : (register : List Row) (before cover : Book) (lots : ℕ) (o : Order) (after : Day)
      → lots ≡ lots_of was → o ≡ taken_out Withdrawal was → cover ≡ released before was.owner (lots_of was) → after ≡ with_order_at (day_of s) k o
      → withdrawing n p (world_of s register before) ≡ record { answer = accepted (lots ∷ []); world = record { day = after; register = register; cover = cover } }
  unfolding withdrawing withdrawn
  withdraw_accepted register before cover lots o after l out c a =
      judged_none (withdraw_table (day_of s) n p) (world_of s register before) (withdrawn n (world_of s register before)) (sym passes)
      ∙ rw (a, l, out, c, here, is) refl

  pub inside_accepted : (m after : Makeup) → after ≡ released_in m was.owner (lots_of was) → after ≡ withdraw_inside n p (day_of s) m
  unfolding withdraw_inside
  inside_accepted m after makes = makes ∙ rw (withdraw_inside, sym passes, here, is) refl
