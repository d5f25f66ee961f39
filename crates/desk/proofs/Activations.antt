-- Activations, one after another.
use Rattle.std.proofs.Common.{◌≡◌, ℕ, suc, ◌+◌, ◌-◌, ◌*◌, ◌<◌, ◌≤◌, Bool, true, false, eqb, List, ◌∷◌, length, get_or, drop, count_by, sym, refl, ap, ◌∙◌, subst, mul-le-mul_left, arith}
use Rattle.std.specs.List.{AllByRecursion}
use Rattle.std.proofs.lemmas.List.{drop_more, at_drop_more, at_drop_all}
use Rattle.std.proofs.lemmas.Bool.Decides.{nat_tests}
use Rattle.clearing.specs.Book.{Book, released}
use Rattle.clearing.specs.Makeup.{Makeup, released_in}
use Rattle.orders.specs.declared.kinds.Direction.{Direction}
use Rattle.orders.specs.declared.kinds.Direction.TheVariants.{Deposit}
use Rattle.orders.specs.declared.kinds.Order.{Order}
use Rattle.orders.specs.declared.kinds.Row.{Row}
use Rattle.orders.specs.declared.kinds.State.TheVariants.{Waiting}
use Rattle.orders.specs.declared.lifecycle.Event.TheVariants.{Withdrawal}
use Rattle.orders.specs.declared.settings.Settings.{Settings}
use Rattle.model.specs.Calls.{LawfulRule}
use Rattle.model.specs.Clock.{entered_late, activated_failing, activated_meeting, activated, activations, Clocking}
use Rattle.model.specs.Days.{Day, World, written}
use Rattle.model.specs.Market.{order_at, lots_of}
use Rattle.model.specs.Place.{opposite, volume_fails}
use Rattle.model.specs.Rounds.{Rule, Meeting}
use Rattle.model.specs.Sound.{LawfulDay}
use Rattle.model.specs.Withdraw.{taken_out, with_order_at}
use Rattle.model.proofs.LawfulDays.{AtRest, activated_lawful, beside_fewer, rest_waits}
use Rattle.model.proofs.Places.{count_cons}
use Rattle.desk.specs.Due.{MayEnter}
use Rattle.desk.specs.Entry.{day_met, meeting_in}
use Rattle.desk.specs.Inside.{withdrawn_late, activations_inside}
use Rattle.desk.specs.Kept.{Sound}
use Rattle.desk.specs.Worlds.{world_of}
use Rattle.model.specs.States.{day_of}
use Rattle.model.specs.declared.state.DayState.{DayState}

-- an order that waits is a deposit, so its rows have room
pub late_room : (d : Day) (k room : ℕ) (o : Order) → LawfulDay d → k < length d.orders → (order_at d.orders k).state ≡ Waiting → o ≡ order_at d.orders k
    → d.used + opposite Deposit d.orders ≤ room → d.used + opposite o.terms.direction d.orders ≤ room
late_room d k room o day stands waits is fits =
    subst (λ (way : Direction). d.used + opposite way d.orders ≤ room) (sym (ap (λ (x : Order). x.terms.direction) is ∙ day.waits k stands waits)) fits

-- it enters by its number, with its terms
pub late_meeting : (rule : Rule) (d : Day) (k : ℕ) (o : Order) → o ≡ order_at d.orders k → meeting_in rule d o.terms (k + 1) ≡ meeting_in rule d (order_at d.orders k).terms (suc k)
late_meeting rule d k o is = let next : k + 1 ≡ suc k = omega arith in rw (next, is) refl

-- what a waiting order that met the queue leaves
pub met_lots : (k : ℕ) (w : World) (met : Meeting) (o : Order) (left : ℕ) → o ≡ order_at w.day.orders k → left ≡ met.left
    → o.terms.sum - left ≡ (activated_meeting k w met).lots
unfolding activated_meeting
met_lots k w met o left is rest = rw (is, rest) refl

pub met_world : (k : ℕ) (w : World) (met : Meeting) (o late : Order) (left : ℕ) (s : DayState) (after : Day) (register : List Row) (cover : Book)
    → after ≡ with_order_at (day_of s) k late → o ≡ order_at w.day.orders k → left ≡ met.left → day_of s ≡ day_met w.day met → late ≡ entered_late o left
    → register ≡ written w.register w.day.used met.market.rows → cover ≡ released w.cover o.owner left
    → record {
      day = after;
      register = register;
      cover = cover;
    } ≡ (activated_meeting k w met).world
unfolding activated_meeting
met_world k w met o late left s after register cover puts is rest enters lately rows covers =
    ap (λ (d : Day). record { day = d; register = register; cover = cover }) (puts ∙ ap (λ (d : Day). with_order_at d k late) enters)
    ∙ rw (lately, rows, covers, rest, is) refl

-- its volume test
pub late_test : (s : DayState) (k : ℕ) (o : Order) (b : Bool) → o ≡ order_at (day_of s).orders k → b ≡ volume_fails o.terms (day_of s).orders
    → volume_fails (order_at (day_of s).orders k).terms (day_of s).orders ≡ b
late_test s k o b is test = sym (test ∙ ap (λ (x : Order). volume_fails x.terms (day_of s).orders) is)

-- the volume test says which way an activation goes
pub fails_activated : (rule : Rule) (k : ℕ) (w : World) → volume_fails (order_at w.day.orders k).terms w.day.orders ≡ true → activated_failing k w ≡ activated rule k w
unfolding activated
fails_activated rule k w e = rw (activated, e) refl

pub passes_activated : (rule : Rule) (k : ℕ) (w : World) → volume_fails (order_at w.day.orders k).terms w.day.orders ≡ false
    → activated_meeting k w (meeting_in rule w.day (order_at w.day.orders k).terms (suc k)) ≡ activated rule k w
unfolding activated
passes_activated rule k w e = rw (activated, e) refl

pub fails_withdrawn : (rule : Rule) (k : ℕ) (w : World) → volume_fails (order_at w.day.orders k).terms w.day.orders ≡ true
    → lots_of (order_at w.day.orders k) ≡ withdrawn_late rule k w
unfolding withdrawn_late
fails_withdrawn rule k w e = rw (withdrawn_late, e) refl

pub passes_withdrawn : (rule : Rule) (k : ℕ) (w : World) → volume_fails (order_at w.day.orders k).terms w.day.orders ≡ false
    → (meeting_in rule w.day (order_at w.day.orders k).terms (suc k)).left ≡ withdrawn_late rule k w
unfolding withdrawn_late
passes_withdrawn rule k w e = rw (withdrawn_late, e) refl

-- an order whose volume test failed is taken out
pub failed_world : (k : ℕ) (s : DayState) (register : List Row) (before : Book) (was o : Order) (after : Day) (cover : Book) → was ≡ order_at (day_of s).orders k
    → o ≡ taken_out Withdrawal was → cover ≡ released before was.owner (lots_of was) → after ≡ with_order_at (day_of s) k o
    → record {
      day = after;
      register = register;
      cover = cover;
    } ≡ (activated_failing k (world_of s register before)).world
unfolding activated_failing
failed_world k s register before was o after cover here leaves covers is = rw (is, leaves, covers, here) refl

pub failed_lots : (k : ℕ) (w : World) → 0 ≡ (activated_failing k w).lots
unfolding activated_failing
failed_lots k w = refl

-- one of some orders has entered, and the others may still
pub enter_next : (rule : Rule) → LawfulRule rule → (k : ℕ) (ks : List ℕ) (w after : World) → LawfulDay w.day → MayEnter (k ∷ ks) w.day w.register
    → after ≡ (activated rule k w).world → length after.register ≡ length w.register
    → LawfulDay after.day × MayEnter ks after.day after.register
enter_next rule lawful k ks w after day ready is long =
    let left = activated_lawful rule lawful w k day ready.waiting.0.0 ready.waiting.0.1 (omega (arith, ready.room, ready.rows)) in
    let absent : count_by (eqb k) ks ≡ 0 = let count = count_cons k k ks in let most = ready.once k in grind (arith, nat_tests) in
    let fewer : length ks * opposite Deposit after.day.orders ≤ length ks * opposite Deposit w.day.orders =
    subst (λ (a : World). length ks * opposite Deposit a.day.orders ≤ length ks * opposite Deposit w.day.orders) (sym is)
    (mul-le-mul_left (length ks) (beside_fewer Deposit k w.day.orders (activated rule k w).world.day.orders left.beside)) in
    let used : after.day.used ≤ w.day.used + opposite Deposit w.day.orders =
    subst (λ (a : World). a.day.used ≤ w.day.used + opposite Deposit w.day.orders) (sym is) left.used in (
      subst (λ (a : World). LawfulDay a.day) (sym is) left.day,
      record {
        waiting = subst (λ (a : World). AllByRecursion (AtRest a.day.orders) ks) (sym is)
            (rest_waits k ks w.day.orders (activated rule k w).world.day.orders left.beside absent ready.waiting.1);
        once = λ j. omega (arith, count_cons j k ks, ready.once j);
        rows = long ∙ ready.rows ∙ sym (ap (λ (a : World). a.day.settings.rows) is ∙ ap (λ (s : Settings). s.rows) left.settings);
        room = omega (arith, ready.room);
      },
    )

-- a pass over some places: what is left to do from place i on gives the whole
pub record Ahead (rule : Rule) (ks : List ℕ) (w : World) (m : Makeup) (i lots : ℕ) (reached : World) (inside : Makeup) : Type 0 where
  pub lawful : LawfulDay reached.day
  pub ready : MayEnter (drop i ks) reached.day reached.register
  pub lots_are : lots + (activations rule (drop i ks) reached).lots ≡ (activations rule ks w).lots
  pub world_is : (activations rule (drop i ks) reached).world ≡ (activations rule ks w).world
  pub inside_is : activations_inside rule (drop i ks) reached inside ≡ activations_inside rule ks w m
  pub most : lots ≤ i * 1000000

-- the next order may enter
pub ahead_ready : (rule : Rule) (ks : List ℕ) (w : World) (m : Makeup) (i lots : ℕ) (reached : World) (inside : Makeup) → i < length ks → Ahead rule ks w m i lots reached inside
    → MayEnter (get_or ks i 0 ∷ drop (i + 1) ks) reached.day reached.register
ahead_ready rule ks w m i lots reached inside more ahead = subst (λ (js : List ℕ). MayEnter js reached.day reached.register) (drop_more ks i 0 more) ahead.ready

pub ahead_more : (rule : Rule) (ks : List ℕ) (w : World) (m : Makeup) (i lots : ℕ) (reached : World) (inside : Makeup) (n : ℕ) (after : World) (within : Makeup) → LawfulRule rule → i < length ks
    → Ahead rule ks w m i lots reached inside
    → n ≡ (activated rule (get_or ks i 0) reached).lots → after ≡ (activated rule (get_or ks i 0) reached).world
    → within ≡ released_in inside (order_at reached.day.orders (get_or ks i 0)).owner (withdrawn_late rule (get_or ks i 0) reached)
    → length after.register ≡ length reached.register → n ≤ 1000000
    → Ahead rule ks w m (i + 1) (lots + n) after within
unfolding activations activations_inside
ahead_more rule ks w m i lots reached inside n after within lawful more ahead concluded is makes long few =
    let next = enter_next rule lawful (get_or ks i 0) (drop (i + 1) ks) reached after ahead.lawful (ahead_ready rule ks w m i lots reached inside more ahead) is long in
    let rest : activations rule (drop i ks) reached ≡ activations rule (get_or ks i 0 ∷ drop (i + 1) ks) reached = at_drop_more (λ js. activations rule js reached) ks i 0 more in
    let made : activations_inside rule (drop i ks) reached inside ≡ activations_inside rule (get_or ks i 0 ∷ drop (i + 1) ks) reached inside = at_drop_more (λ js. activations_inside rule js reached inside) ks i 0 more in
    let first : (activated rule (get_or ks i 0) reached).lots + (activations rule (drop (i + 1) ks) (activated rule (get_or ks i 0) reached).world).lots ≡ (activations rule (drop i ks) reached).lots =
    sym (ap (λ (c : Clocking). c.lots) rest) in
    let later : activations rule (drop (i + 1) ks) after ≡ activations rule (drop (i + 1) ks) (activated rule (get_or ks i 0) reached).world = ap (activations rule (drop (i + 1) ks)) is in
    record {
      lawful = next.0;
      ready = next.1;
      lots_are = omega (arith, ahead.lots_are, first, ap (λ (c : Clocking). c.lots) later);
      world_is = ap (λ (c : Clocking). c.world) (later) ∙ sym (ap (λ (c : Clocking). c.world) rest) ∙ ahead.world_is;
      inside_is = ap (activations_inside rule (drop (i + 1) ks) after) makes
          ∙ ap (λ (a : World). activations_inside rule (drop (i + 1) ks) a (released_in inside (order_at reached.day.orders (get_or ks i 0)).owner (withdrawn_late rule (get_or ks i 0) reached))) is
          ∙ sym made ∙ ahead.inside_is;
      most = omega (arith, ahead.most);
    }

-- when no place is left, all is done
pub ahead_all : (rule : Rule) (ks : List ℕ) (w : World) (m : Makeup) (i lots : ℕ) (reached : World) (inside : Makeup) → length ks ≤ i → Ahead rule ks w m i lots reached inside
    → (lots ≡ (activations rule ks w).lots) × (reached ≡ (activations rule ks w).world) × (inside ≡ activations_inside rule ks w m)
unfolding activations activations_inside
ahead_all rule ks w m i lots reached inside all ahead =
    let none : activations rule (drop i ks) reached ≡ record { lots = 0; world = reached } = at_drop_all (λ js. activations rule js reached) ks i all in (
      omega (arith, ahead.lots_are, ap (λ (c : Clocking). c.lots) none),
      sym (ap (λ (c : Clocking). c.world) none) ∙ ahead.world_is,
      sym (at_drop_all (λ js. activations_inside rule js reached inside) ks i all) ∙ ahead.inside_is,
    )

-- a state after an activation is kept
pub activated_keeps : (rule : Rule) → LawfulRule rule → (s : DayState) (register : List Row) (cover : Book) (k : ℕ) → Sound s → k < length (day_of s).orders → (order_at (day_of s).orders k).state ≡ Waiting
    → length register ≡ s.settings.rows → s.used + opposite Deposit (day_of s).orders ≤ length register
    → (after : Day) → after ≡ (activated rule k (world_of s register cover)).world.day → ∥ LawfulDay after ∥₁
activated_keeps rule lawful s register cover k sound stands waits long room after is =
    let left = activated_lawful rule lawful (world_of s register cover) k sound stands waits (omega (arith, long, room)) in
    ∣ subst LawfulDay (sym is) left.day ∣₁
