-- Days that calls have made are lawful, and every call makes another.
use mathlib.Core.Bool.{Bool-set}
use Rattle.std.proofs.Common.{◌≡◌, ℕ, List, [], ◌∷◌, ◌++◌, length, sym, refl, ap, ◌∙◌, subst}
use mathlib.Core.Logic.{∥∥₁_elim, ∥∥₁_map}
use native.Mathlib.Bridge.{le_prop}
use native.Mathlib.Nat.{ℕ_set}
use Rattle.std.proofs.ByRecursion.{All-push}
use Rattle.orders.specs.declared.kinds.Direction.TheVariants.{Deposit}
use Rattle.orders.specs.declared.kinds.Terms.{Terms}
use Rattle.orders.specs.declared.settings.Settings.{Settings}
use Rattle.model.specs.Calls.{Call, place, withdraw, clock, LawfulRule, LawfulCall, handed, step}
use Rattle.model.specs.Clock.{clocking}
use Rattle.model.specs.Close.{closing}
use Rattle.model.specs.Days.{Day, World, Outcome, opened}
use Rattle.model.specs.Market.{order_at}
use Rattle.model.specs.Place.{same_direction, placing}
use Rattle.model.specs.Reach.{Hand, day_by, day_after, LawfulHands, Reached, ReachedClosed}
use Rattle.model.specs.Rounds.{Rule}
use Rattle.model.specs.Sound.{LawfulDay}
use Rattle.model.specs.Withdraw.{withdrawing}
use Rattle.model.proofs.Handed.{place_whole, clock_whole}
use Rattle.model.proofs.LawfulDays.{opened_lawful, placing_lawful, withdrawing_lawful, clocking_lawful, closing_lawful}
use Rattle.model.proofs.Writes.{same_direction_lem}

-- a newly opened day
pub reached_opened : (s : Settings) → Reached (opened s)
reached_opened s = ∣ (s, [], tt, refl) ∣₁

-- one more call
after_push : (hands : List Hand) (h : Hand) (d : Day) → day_after (hands ++ (h ∷ [])) d ≡ day_by h (day_after hands d)
after_push [] h d = refl
after_push (g ∷ gs) h d = after_push gs h (day_by g d)

pub reached_step : (c : Call) → LawfulCall c → (w : World) → Reached w.day → Reached (step c w).world.day
reached_step c lawful w reached =
    ∥∥₁_map reached (λ t. (
      t.0,
      t.1 ++ (by ∷ []),
      All-push (λ (h : Hand). LawfulCall h.call) t.1 by t.2 lawful,
      after_push t.1 by (opened t.0) ∙ ap (day_by by) t.3,
    ))
  where
    by : Hand
    by = record { call = c; register = w.register; cover = w.cover }

-- each kind of call, over a whole register
pub reached_placing : (rule : Rule) → LawfulRule rule → (p : ℕ) (e : Terms) (w : World) → Reached w.day → Reached (placing rule p e w).world.day
reached_placing rule lawful p e w reached =
    subst (λ (o : Outcome). Reached o.world.day) (place_whole rule p e w) (reached_step (place rule (length w.register) p e) lawful w reached)

pub reached_withdrawing : (n p : ℕ) (w : World) → Reached w.day → Reached (withdrawing n p w).world.day
reached_withdrawing n p w reached = reached_step (withdraw n p) tt w reached

pub reached_clocking : (rule : Rule) → LawfulRule rule → (time : ℕ) (w : World) → Reached w.day → Reached (clocking rule time w).world.day
reached_clocking rule lawful time w reached =
    subst (λ (o : Outcome). Reached o.world.day) (clock_whole rule time w) (reached_step (clock rule (length w.register) time) lawful w reached)

pub reached_closing : (w : World) → Reached w.day → ReachedClosed (closing w).day
reached_closing w reached =
    ∥∥₁_map reached (λ t. (
      t.0,
      t.1,
      w.register,
      w.cover,
      t.2,
      ap (λ (d : Day). (closing (record { day = d; register = w.register; cover = w.cover })).day) t.3,
    ))

-- every call keeps a lawful day
step_lawful : (c : Call) → LawfulCall c → (w : World) → LawfulDay w.day → LawfulDay (step c w).world.day
step_lawful (place rule rows p e) lawful w day = placing_lawful rule lawful p e (handed rows w) day
step_lawful (withdraw n p) lawful w day = withdrawing_lawful n p w day
step_lawful (clock rule rows time) lawful w day = clocking_lawful rule lawful time (handed rows w) day

after_lawful : (hands : List Hand) (d : Day) → LawfulHands hands → LawfulDay d → LawfulDay (day_after hands d)
after_lawful [] d lawful day = day
after_lawful (h ∷ hs) d lawful day =
    after_lawful hs (day_by h d) lawful.1 (step_lawful h.call lawful.0 (record { day = d; register = h.register; cover = h.cover }) day)

-- a day that is lawful by some proof is lawful: each part of it has one proof at most
pub lawful_out : (d : Day) → ∥ LawfulDay d ∥₁ → LawfulDay d
lawful_out d some = record {
  market = record {
    orders = λ k inside. record {
      least = ∥∥₁_elim some le_prop (λ day. (day.market.orders k inside).least);
      most = ∥∥₁_elim some le_prop (λ day. (day.market.orders k inside).most);
      percent = ∥∥₁_elim some le_prop (λ day. (day.market.orders k inside).percent);
      whole = ∥∥₁_elim some le_prop (λ day. (day.market.orders k inside).whole);
      showing = λ is. (
        ∥∥₁_elim some le_prop (λ day. ((day.market.orders k inside).showing is).0),
        ∥∥₁_elim some le_prop (λ day. ((day.market.orders k inside).showing is).1),
      );
      waiting = λ is. (
        ∥∥₁_elim some (ℕ_set _ _) (λ day. ((day.market.orders k inside).waiting is).0),
        ∥∥₁_elim some (ℕ_set _ _) (λ day. ((day.market.orders k inside).waiting is).1),
      );
      ended = λ is. ∥∥₁_elim some (ℕ_set _ _) (λ day. (day.market.orders k inside).ended is);
    };
    few = λ side. ∥∥₁_elim some le_prop (λ day. day.market.few side);
    queued = λ k inside. ∥∥₁_elim some (ℕ_set _ _) (λ day. day.market.queued k inside);
    inside = λ k outside. ∥∥₁_elim some (ℕ_set _ _) (λ day. day.market.inside k outside);
  };
  waits = λ k inside is.
      sym (same_direction_lem Deposit (order_at d.orders k).terms.direction
      (∥∥₁_elim some (Bool-set _ _) (λ day. ap (same_direction Deposit) (day.waits k inside is))));
  within = ∥∥₁_elim some le_prop (λ day. day.within);
}

pub reached_lawful : (d : Day) → Reached d → LawfulDay d
reached_lawful d reached =
    lawful_out d (∥∥₁_map reached (λ t. subst LawfulDay t.3 (after_lawful t.1 (opened t.0) t.2 (opened_lawful t.0))))

pub closed_lawful : (d : Day) → ReachedClosed d → LawfulDay d
closed_lawful d reached =
    lawful_out d (∥∥₁_map reached (λ t. subst LawfulDay t.5
    (closing_lawful (record { day = day_after t.1 (opened t.0); register = t.2; cover = t.3 }) (after_lawful t.1 (opened t.0) t.4 (opened_lawful t.0)))))
