-- Clock, refused or accepted.
use Rattle.std.proofs.Common.{◌≡◌, ℕ, List, [], ◌∷◌, length, Some, None, sym, refl, ◌∙◌, subst, arith}
use Rattle.clearing.specs.Makeup.{Makeup}
use Rattle.orders.specs.Answers.{accepted, refused_for}
use Rattle.orders.specs.Table.{first}
use Rattle.orders.specs.declared.refusals.Refusal.{Refusal}
use Rattle.model.specs.Clock.{due, clock_table, activations, at_time, clocked, clocking}
use Rattle.model.specs.Days.{World, judged}
use Rattle.model.specs.Rounds.{Rule}
use Rattle.model.specs.Sound.{LawfulDay}
use Rattle.model.proofs.LawfulDays.{due_once, due_rest}
use Rattle.model.proofs.Tables.{none_below, clock_passed}
use Rattle.desk.specs.Due.{MayEnter}
use Rattle.desk.specs.Inside.{activations_inside, clock_inside}

pub clock_refused : (rule : Rule) (time : ℕ) (w : World) (r : Refusal) → first (clock_table w time) ≡ Some r → clocking rule time w ≡ record { answer = refused_for r; world = w }
unfolding clocking
clock_refused rule time w r e = rw (judged, e) refl

-- the due orders may enter
pub clock_ready : (time : ℕ) (w : World) (ks : List ℕ) → LawfulDay w.day → first (clock_table w time) ≡ None → ks ≡ due time w.day.orders
    → MayEnter ks (at_time time w).day w.register
clock_ready time w ks day e is =
    let passed = clock_passed w time (none_below (clock_table w time) e) in
    subst (λ (js : List ℕ). MayEnter js (at_time time w).day w.register) (sym is)
    (record {
      waiting = due_rest time w.day.orders;
      once = due_once time w.day.orders;
      rows = passed.register;
      room = omega (arith, passed.room, passed.register, day.within);
    })

-- an accepted call lets them enter at that time
pub clock_accepted : (rule : Rule) (time : ℕ) (w : World) (ks : List ℕ) (lots : ℕ) (after : World) → first (clock_table w time) ≡ None → ks ≡ due time w.day.orders
    → lots ≡ (activations rule ks (at_time time w)).lots → after ≡ (activations rule ks (at_time time w)).world
    → clocking rule time w ≡ record { answer = accepted (length ks ∷ lots ∷ []); world = after }
unfolding clocking clocked
clock_accepted rule time w ks lots after e is concluded leaves = rw (judged, e, concluded, leaves, is) refl

-- what the clearing is made of then
pub inside_refused : (rule : Rule) (time : ℕ) (w : World) (m : Makeup) (r : Refusal) → first (clock_table w time) ≡ Some r → m ≡ clock_inside rule time w m
unfolding clock_inside
inside_refused rule time w m r e = rw (clock_inside, e) refl

pub inside_accepted : (rule : Rule) (time : ℕ) (w : World) (m after : Makeup) (ks : List ℕ) → first (clock_table w time) ≡ None → ks ≡ due time w.day.orders
    → after ≡ activations_inside rule ks (at_time time w) m → after ≡ clock_inside rule time w m
unfolding clock_inside
inside_accepted rule time w m after ks e is makes = makes ∙ rw (clock_inside, e, is) refl
