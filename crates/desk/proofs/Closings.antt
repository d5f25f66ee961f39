-- The close, order by order.
use Rattle.std.proofs.Common.{◌≡◌, ℕ, ◌+◌, ◌-◌, ◌<◌, ◌≤◌, List, ◌++◌, map, length, take, drop, set, sym, refl, ap, ◌∙◌, arith}
use Rattle.std.proofs.lemmas.List.Edits.{map_over_more}
use Rattle.std.proofs.lemmas.List.{at_drop_more, at_drop_all, take_all, drop_all, append-nil, get_or_default, get_or-append_right, length-append, length-map, length-take, length-drop, length-take-le, drop_more}
use Rattle.clearing.specs.Book.{Book, released}
use Rattle.clearing.specs.Makeup.{Makeup}
use Rattle.orders.specs.declared.kinds.Order.{Order}
use Rattle.orders.specs.declared.kinds.Row.{Row}
use Rattle.orders.specs.declared.lifecycle.Event.TheVariants.{Close}
use Rattle.model.specs.Close.{released_all, closing}
use Rattle.model.specs.Market.{none, order_at, lots_of}
use Rattle.model.specs.Days.{Day}
use Rattle.model.specs.Withdraw.{taken_out, with_order_at}
use Rattle.model.specs.States.{day_of}
use Rattle.model.specs.declared.state.DayState.{DayState}
use Rattle.desk.specs.Inside.{ended_inside, close_inside}
use Rattle.desk.specs.Worlds.{world_of}

-- the orders with the first i of them ended
abbrev pub ended_to : ℕ → List Order → List Order
ended_to i orders = map (taken_out Close) (take i orders) ++ drop i orders

-- the first i of the orders, with cover b over make-up m, are ended and released
pub record OrdersEnded (orders : List Order) (b : Book) (m : Makeup) (i : ℕ) (now : List Order) (cover : Book) (inside : Makeup) : Type 0 where
  pub orders_are : now ≡ ended_to i orders
  pub cover_is : released_all cover (drop i orders) ≡ released_all b orders
  pub inside_is : close_inside (drop i orders) inside ≡ close_inside orders m

-- the next order still stands as it was
pub ended_next : (orders : List Order) (i : ℕ) → i < length orders → order_at (ended_to i orders) i ≡ order_at orders i
ended_next orders i inside =
    let long : length (map (taken_out Close) (take i orders)) ≡ i = length-map (take i orders) (taken_out Close) ∙ length-take-le i orders (omega arith) in
    get_or-append_right (map (taken_out Close) (take i orders)) (drop i orders) i i none long (omega arith)
    ∙ (let z : i - i ≡ 0 = omega arith in rw (z, drop_more orders i none inside) refl)

ended_long : (orders : List Order) (i : ℕ) → length (ended_to i orders) ≡ length orders
ended_long orders i = simp (length-append, length-map, length-take, length-drop) (omega arith)

pub ended_at : (orders : List Order) (b : Book) (m : Makeup) (i : ℕ) (now : List Order) (cover : Book) (within : Makeup) → i < length orders
    → OrdersEnded orders b m i now cover within → order_at now i ≡ order_at orders i
ended_at orders b m i now cover within inside ended = ap (λ (os : List Order). order_at os i) ended.orders_are ∙ ended_next orders i inside

pub orders_ended_more : (orders : List Order) (b : Book) (m : Makeup) (i : ℕ) (now : List Order) (cover : Book) (within : Makeup) (o : Order) (left : Book) (remains : Makeup) → i < length orders
    → OrdersEnded orders b m i now cover within → o ≡ taken_out Close (order_at now i)
    → left ≡ released cover (order_at now i).owner (lots_of (order_at now i))
    → remains ≡ ended_inside (order_at now i) within
    → OrdersEnded orders b m (i + 1) (set now i o) left remains
unfolding released_all close_inside
orders_ended_more orders b m i now cover within o left remains inside ended ends covers makes =
    let here : order_at now i ≡ order_at orders i = ended_at orders b m i now cover within inside ended in
    let stands : i < length now = rw (ended.orders_are, ended_long orders i) inside in
    let rest : released_all cover (drop i orders) ≡ released_all (released cover (order_at orders i).owner (lots_of (order_at orders i))) (drop (i + 1) orders) =
    at_drop_more (released_all cover) orders i none inside in
    let others : close_inside (drop i orders) within ≡ close_inside (drop (i + 1) orders) (ended_inside (order_at orders i) within) =
    at_drop_more (λ os. close_inside os within) orders i none inside in
    record {
      orders_are = ap (set now i) ends ∙ map_over_more (taken_out Close) orders now i (order_at now i) inside ended.orders_are (get_or_default now i none (order_at now i) stands);
      cover_is = ap (λ (c : Book). released_all c (drop (i + 1) orders)) covers ∙ rw here (sym rest ∙ ended.cover_is);
      inside_is = ap (close_inside (drop (i + 1) orders)) makes ∙ rw here (sym others ∙ ended.inside_is);
    }

-- the make-up when all are ended
pub orders_ended_inside : (orders : List Order) (b : Book) (m : Makeup) (i : ℕ) (now : List Order) (cover : Book) (inside : Makeup) → length orders ≤ i → OrdersEnded orders b m i now cover inside
    → inside ≡ close_inside orders m
unfolding close_inside
orders_ended_inside orders b m i now cover inside all ended = sym (at_drop_all (λ os. close_inside os inside) orders i all) ∙ ended.inside_is

pub orders_ended_all : (orders : List Order) (b : Book) (m : Makeup) (i : ℕ) (now : List Order) (cover : Book) (inside : Makeup) → length orders ≤ i → OrdersEnded orders b m i now cover inside
    → (now ≡ map (taken_out Close) orders) × (cover ≡ released_all b orders) × (inside ≡ close_inside orders m)
unfolding released_all close_inside
orders_ended_all orders b m i now cover inside all ended = (
  ended.orders_are ∙ rw (take_all i orders all, drop_all i orders all) (append-nil (map (taken_out Close) orders)),
  sym (at_drop_all (released_all cover) orders i all) ∙ ended.cover_is,
  orders_ended_inside orders b m i now cover inside all ended,
)

-- a state whose orders are ended
pub closed_world : (s : DayState) (ended : List Order) → ended ≡ map (taken_out Close) (day_of s).orders → (before cover : Book) → cover ≡ released_all before (day_of s).orders → (register : List Row)
    → closing (world_of s register before)
    ≡ record {
      day = record { settings = s.settings; clock = s.clock; orders = ended; queue = take s.count s.queue; used = s.used };
      register = register;
      cover = cover;
    }
unfolding closing
closed_world s ended is before cover covers register = rw (is, covers) refl

-- the same of a day that is under way to its close

-- the first i orders of day a, with cover b over make-up m, are ended and released
pub record Ended (a : Day) (b : Book) (m : Makeup) (i : ℕ) (day : Day) (cover : Book) (inside : Makeup) : Type 0 where
  pub settings : day.settings ≡ a.settings
  pub clock : day.clock ≡ a.clock
  pub orders : day.orders ≡ ended_to i a.orders
  pub queue : day.queue ≡ a.queue
  pub used : day.used ≡ a.used
  pub cover_is : released_all cover (drop i a.orders) ≡ released_all b a.orders
  pub inside_is : close_inside (drop i a.orders) inside ≡ close_inside a.orders m

pub ended_more : (a : Day) (b : Book) (m : Makeup) (i : ℕ) (day : Day) (cover : Book) (within : Makeup) (after : Day) (left : Book) (remains : Makeup) → i < length a.orders
    → Ended a b m i day cover within
    → after ≡ with_order_at day i (taken_out Close (order_at day.orders i))
    → left ≡ released cover (order_at day.orders i).owner (lots_of (order_at day.orders i))
    → remains ≡ ended_inside (order_at day.orders i) within
    → Ended a b m (i + 1) after left remains
unfolding released_all close_inside
ended_more a b m i day cover within after left remains inside ended is covers makes =
    let here : order_at day.orders i ≡ order_at a.orders i = ap (λ (os : List Order). order_at os i) ended.orders ∙ ended_next a.orders i inside in
    let stands : i < length day.orders = rw (ended.orders, ended_long a.orders i) inside in
    let one : set day.orders i (taken_out Close (order_at day.orders i)) ≡ ended_to (i + 1) a.orders =
    map_over_more (taken_out Close) a.orders day.orders i (order_at day.orders i) inside ended.orders (get_or_default day.orders i none (order_at day.orders i) stands) in
    let rest : released_all cover (drop i a.orders) ≡ released_all (released cover (order_at a.orders i).owner (lots_of (order_at a.orders i))) (drop (i + 1) a.orders) =
    at_drop_more (released_all cover) a.orders i none inside in
    let others : close_inside (drop i a.orders) within ≡ close_inside (drop (i + 1) a.orders) (ended_inside (order_at a.orders i) within) =
    at_drop_more (λ os. close_inside os within) a.orders i none inside in
    record {
      settings = ap (λ (d : Day). d.settings) is ∙ ended.settings;
      clock = ap (λ (d : Day). d.clock) is ∙ ended.clock;
      orders = ap (λ (d : Day). d.orders) is ∙ one;
      queue = ap (λ (d : Day). d.queue) is ∙ ended.queue;
      used = ap (λ (d : Day). d.used) is ∙ ended.used;
      cover_is = ap (λ (c : Book). released_all c (drop (i + 1) a.orders)) covers ∙ rw here (sym rest ∙ ended.cover_is);
      inside_is = ap (close_inside (drop (i + 1) a.orders)) makes ∙ rw here (sym others ∙ ended.inside_is);
    }

pub ended_all : (a : Day) (b : Book) (m : Makeup) (i : ℕ) (day : Day) (cover : Book) (inside : Makeup) → length a.orders ≤ i → Ended a b m i day cover inside
    → (register : List Row) → closing (record { day = a; register = register; cover = b }) ≡ record { day = day; register = register; cover = cover }
unfolding closing released_all
ended_all a b m i day cover inside all ended register =
    let orders : day.orders ≡ map (taken_out Close) a.orders =
    ended.orders ∙ rw (take_all i a.orders all, drop_all i a.orders all) (append-nil (map (taken_out Close) a.orders)) in
    let left : cover ≡ released_all b a.orders = sym (at_drop_all (released_all cover) a.orders i all) ∙ ended.cover_is in
    rw (← ended.settings, ← ended.clock, ← orders, ← ended.queue, ← ended.used, ← left) refl

pub ended_inside_lem : (a : Day) (b : Book) (m : Makeup) (i : ℕ) (day : Day) (cover : Book) (inside : Makeup) → length a.orders ≤ i → Ended a b m i day cover inside
    → inside ≡ close_inside a.orders m
unfolding close_inside
ended_inside_lem a b m i day cover inside all ended = sym (at_drop_all (λ os. close_inside os inside) a.orders i all) ∙ ended.inside_is
