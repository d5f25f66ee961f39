-- The rows that an entry makes: their sums by pair and by order, that each is lawful, and how many they are.
use Rattle.std.proofs.Common.{◌≡◌, ℕ, zero, suc, ◌+◌, ◌<◌, ◌≤◌, Bool, true, false, cond, not, ◌&&◌, ◌||◌, eqb, ◌⊎◌, List, [], ◌∷◌, length, get_or, sum_by, count_by, sym, refl, ap, ◌∙◌, ap₂, inl, inr, arith}
use Rattle.std.specs.List.{AllByRecursion}
use Rattle.std.proofs.ByRecursion.{All-get_or, All-from_get_or, All-weaker}
use Rattle.std.proofs.lemmas.List.Sums.{sum_by-cons}
use Rattle.std.proofs.lemmas.Bool.{cases_Bool, cond_both, cond-true, cond-false, eqb-true, eq-eqb, both_ways}
use Rattle.std.proofs.lemmas.Bool.Decides.{nat_tests}
use Rattle.orders.specs.declared.kinds.Direction.{Direction}
use Rattle.orders.specs.declared.kinds.Direction.TheVariants.{Deposit, Repo}
use Rattle.orders.specs.declared.kinds.Order.{Order}
use Rattle.orders.specs.declared.kinds.Row.{Row}
use Rattle.orders.specs.declared.kinds.Terms.{Terms}
use Rattle.orders.specs.declared.settings.Settings.{Settings}
use Rattle.model.specs.Choices.{Admissible, total, is_pair, concluded_with}
use Rattle.model.specs.Entry.{NewRow, OneRowEach}
use Rattle.model.specs.Market.{none, order_at, is_active}
use Rattle.model.specs.Place.{same_direction, opposite}
use Rattle.model.specs.Rounds.{share_at}
use Rattle.model.specs.Rows.{row_with, same_pair, grown, add_row, add_rows}
use Rattle.model.proofs.Totals.{total_same, total_le, total_one, total_swap, total_count_by, sum_by_same, sum_by_zero}

-- the lots of the rows whose pair passes a test
abbrev lots_where : (ℕ → ℕ → Bool) → List Row → ℕ
lots_where p rows = sum_by (λ r. cond (p r.deposit r.repo) r.lots 0) rows

-- one more conclusion counts where its pair passes
lots_where_add_row : (p : ℕ → ℕ → Bool) (row : Row) (rows : List Row) → lots_where p (add_row row rows) ≡ lots_where p rows + cond (p row.deposit row.repo) row.lots 0
unfolding add_row
lots_where_add_row p row [] = refl
lots_where_add_row p row (r ∷ rs) = first (same_pair row r) refl (lots_where_add_row p row rs)
  where
    part : Row → ℕ
    part q = cond (p q.deposit q.repo) q.lots 0

    first : (t : Bool) → same_pair row r ≡ t → lots_where p (add_row row rs) ≡ lots_where p rs + part row
        → lots_where p (cond t (grown r row.lots ∷ rs) (r ∷ add_row row rs)) ≡ lots_where p (r ∷ rs) + cond (p row.deposit row.repo) row.lots 0
    first true same rest =
        let at : (row.deposit ≡ r.deposit) × (row.repo ≡ r.repo) = grind (arith, nat_tests) in
        let test : p row.deposit row.repo ≡ p r.deposit r.repo = ap₂ p at.0 at.1 in
        let grows : part (grown r row.lots) ≡ part r + part row = grind (arith, nat_tests) in
        omega (arith, sum_by-cons part r rs, sum_by-cons part (grown r row.lots) rs, grows)
    first false differ rest = omega (arith, sum_by-cons part r rs, sum_by-cons part r (add_row row rs))

-- the row with the order at place c: its pair, lots and rate
is_pair_row_with : (s : Settings) (d : Direction) (n : ℕ) (orders : List Order) (c lots k : ℕ) → is_pair d n k (row_with s d n orders c lots) ≡ eqb c k
is_pair_row_with s Deposit n orders c lots k = grind (arith, nat_tests)
is_pair_row_with s Repo n orders c lots k = grind (arith, nat_tests)

lots_row_with : (s : Settings) (d : Direction) (n : ℕ) (orders : List Order) (c lots : ℕ) → (row_with s d n orders c lots).lots ≡ lots
lots_row_with s Deposit n orders c lots = refl
lots_row_with s Repo n orders c lots = refl

rate_row_with : (s : Settings) (d : Direction) (n : ℕ) (orders : List Order) (c lots : ℕ) → (row_with s d n orders c lots).rate ≡ (order_at orders c).terms.rate
rate_row_with s Deposit n orders c lots = refl
rate_row_with s Repo n orders c lots = refl

concluded_with_add_row : (d : Direction) (n k : ℕ) (row : Row) (rows : List Row) → concluded_with d n (add_row row rows) k ≡ concluded_with d n rows k + cond (is_pair d n k row) row.lots 0
concluded_with_add_row Deposit n k = lots_where_add_row (λ a b. eqb a n && eqb b (suc k))
concluded_with_add_row Repo n k = lots_where_add_row (λ a b. eqb a (suc k) && eqb b n)

-- a round's rows add to each pair its share
pub concluded_with_add_rows : (s : Settings) (d : Direction) (n : ℕ) (orders : List Order) (cs shares : List ℕ) (rows : List Row) (k : ℕ)
    → concluded_with d n (add_rows s d n orders cs shares rows) k ≡ concluded_with d n rows k + share_at k cs shares
unfolding add_rows share_at
concluded_with_add_rows s d n orders [] shares rows k = omega arith
concluded_with_add_rows s d n orders (c ∷ cs) [] rows k = omega arith
concluded_with_add_rows s d n orders (c ∷ cs) (lots ∷ shares) rows k =
    omega (arith, concluded_with_add_rows s d n orders cs shares (cond (eqb lots 0) rows (add_row (row_with s d n orders c lots) rows)) k, one (eqb lots 0) refl)
  where
    one : (t : Bool) → eqb lots 0 ≡ t → concluded_with d n (cond t rows (add_row (row_with s d n orders c lots) rows)) k ≡ concluded_with d n rows k + cond (eqb c k) lots 0
    one true empty = let nothing : cond (eqb c k) lots 0 ≡ 0 = grind (arith, nat_tests) in omega arith
    one false more =
        concluded_with_add_row d n k (row_with s d n orders c lots) rows
        ∙ ap (λ (x : ℕ). concluded_with d n rows k + x) (ap₂ (λ (t : Bool) (x : ℕ). cond t x 0) (is_pair_row_with s d n orders c lots k) (lots_row_with s d n orders c lots))

-- what holds of a new row, and of a row of its pair that grows, holds of all
all_add_row : (P : Row → Type 0) (row : Row) (rows : List Row) → P row → ((r : Row) → P r → P (grown r row.lots)) → AllByRecursion P rows → AllByRecursion P (add_row row rows)
unfolding add_row
all_add_row P row [] here grows h = (here, tt)
all_add_row P row (r ∷ rs) here grows h = first (same_pair row r) (all_add_row P row rs here grows h.1)
  where
    first : (t : Bool) → AllByRecursion P (add_row row rs) → AllByRecursion P (cond t (grown r row.lots ∷ rs) (r ∷ add_row row rs))
    first true rest = (grows r h.0, h.1)
    first false rest = (h.0, rest)

new_row_row_with : (s : Settings) (e : Terms) (n : ℕ) (before orders : List Order) (c lots : ℕ) → c < length before → Admissible e (order_at before c)
    → (order_at orders c).terms ≡ (order_at before c).terms → 1 ≤ lots → NewRow e n before (row_with s e.direction n orders c lots)
new_row_row_with s e n before orders c lots stands met same some = record {
  place = c;
  stands = stands;
  pair = is_pair_row_with s e.direction n orders c lots c ∙ eq-eqb c c refl;
  met = met;
  rate = rate_row_with s e.direction n orders c lots ∙ ap (λ (t : Terms). t.rate) same;
  some = omega (arith, lots_row_with s e.direction n orders c lots);
}

is_pair_grown : (d : Direction) (n k : ℕ) (r : Row) (lots : ℕ) → is_pair d n k (grown r lots) ≡ is_pair d n k r
is_pair_grown Deposit n k r lots = refl
is_pair_grown Repo n k r lots = refl

new_row_grown : (e : Terms) (n : ℕ) (orders : List Order) (lots : ℕ) (r : Row) → NewRow e n orders r → NewRow e n orders (grown r lots)
new_row_grown e n orders lots r new = record {
  place = new.place;
  stands = new.stands;
  pair = is_pair_grown e.direction n new.place r lots ∙ new.pair;
  met = new.met;
  rate = new.rate;
  some = omega (arith, new.some);
}

-- a place at which a round may conclude: its order was there before the entry, admissible, and has the terms that it had
pub record Partner (e : Terms) (before orders : List Order) (c : ℕ) : Type 0 where
  pub stands : c < length before
  pub met : Admissible e (order_at before c)
  pub terms : (order_at orders c).terms ≡ (order_at before c).terms

-- a round's rows are rows of the entry
pub new_rows_add_rows : (s : Settings) (e : Terms) (n : ℕ) (before orders : List Order) (cs shares : List ℕ) (rows : List Row)
    → AllByRecursion (Partner e before orders) cs → AllByRecursion (NewRow e n before) rows → AllByRecursion (NewRow e n before) (add_rows s e.direction n orders cs shares rows)
unfolding add_rows
new_rows_add_rows s e n before orders [] shares rows partners new = new
new_rows_add_rows s e n before orders (c ∷ cs) [] rows partners new = new
new_rows_add_rows s e n before orders (c ∷ cs) (lots ∷ shares) rows partners new =
    new_rows_add_rows s e n before orders cs shares (cond (eqb lots 0) rows (add_row (row_with s e.direction n orders c lots) rows)) partners.1
    (cond_both (eqb lots 0) rows (add_row (row_with s e.direction n orders c lots) rows) (AllByRecursion (NewRow e n before)) (λ none. new)
    (λ some. all_add_row (NewRow e n before) (row_with s e.direction n orders c lots) rows
    (new_row_row_with s e n before orders c lots partners.0.stands partners.0.met partners.0.terms (grind (arith, nat_tests)))
    (λ r was. new_row_grown e n before (row_with s e.direction n orders c lots).lots r was) new))

-- no two rows of one pair, row by row
abbrev Distinct : List Row → Type 0
Distinct [] = Unit {0}
Distinct (r ∷ rs) = AllByRecursion (λ q. same_pair r q ≡ false) rs × Distinct rs

distinct_from : (rows : List Row) → OneRowEach rows → Distinct rows
distinct_from [] single = tt
distinct_from (r ∷ rs) single = (
  All-from_get_or (λ q. same_pair r q ≡ false) rs r (λ i l. apart i l (same_pair r (get_or rs i r)) refl),
  distinct_from rs (λ i j none l m a b. let same : suc i ≡ suc j = single (suc i) (suc j) none (omega arith) (omega arith) a b in omega arith),
)
  where
    apart : (i : ℕ) → i < length rs → (t : Bool) → same_pair r (get_or rs i r) ≡ t → same_pair r (get_or rs i r) ≡ false
    apart i l false is = is
    apart i l true is =
        let at : (r.deposit ≡ (get_or rs i r).deposit) × (r.repo ≡ (get_or rs i r).repo) = grind (arith, nat_tests) in
        let same : 0 ≡ suc i = single 0 (suc i) r (omega arith) (omega arith) at.0 at.1 in
        grind arith

distinct_to : (rows : List Row) → Distinct rows → OneRowEach rows
distinct_to [] distinct i j none l m a b = omega arith
distinct_to (r ∷ rs) distinct zero zero none l m a b = refl
distinct_to (r ∷ rs) distinct zero (suc j) none l m a b =
    let differ : same_pair r (get_or rs j none) ≡ false = All-get_or (λ q. same_pair r q ≡ false) rs j none (omega arith) distinct.0 in
    grind (arith, nat_tests)
distinct_to (r ∷ rs) distinct (suc i) zero none l m a b =
    let differ : same_pair r (get_or rs i none) ≡ false = All-get_or (λ q. same_pair r q ≡ false) rs i none (omega arith) distinct.0 in
    grind (arith, nat_tests)
distinct_to (r ∷ rs) distinct (suc i) (suc j) none l m a b = ap suc (distinct_to rs distinct.1 i j none (omega arith) (omega arith) a b)

distinct_add_row : (row : Row) (rows : List Row) → Distinct rows → Distinct (add_row row rows)
unfolding add_row
distinct_add_row row [] distinct = (tt, tt)
distinct_add_row row (r ∷ rs) distinct = first (same_pair row r) refl (distinct_add_row row rs distinct.1)
  where
    first : (t : Bool) → same_pair row r ≡ t → Distinct (add_row row rs) → Distinct (cond t (grown r row.lots ∷ rs) (r ∷ add_row row rs))
    first true same rest = distinct
    first false differ rest = (all_add_row (λ q. same_pair r q ≡ false) row rs (grind (arith, nat_tests)) (λ q was. was) distinct.0, rest)

distinct_add_rows : (s : Settings) (d : Direction) (n : ℕ) (orders : List Order) (cs shares : List ℕ) (rows : List Row)
    → Distinct rows → Distinct (add_rows s d n orders cs shares rows)
unfolding add_rows
distinct_add_rows s d n orders [] shares rows distinct = distinct
distinct_add_rows s d n orders (c ∷ cs) [] rows distinct = distinct
distinct_add_rows s d n orders (c ∷ cs) (lots ∷ shares) rows distinct =
    distinct_add_rows s d n orders cs shares (cond (eqb lots 0) rows (add_row (row_with s d n orders c lots) rows))
    (cond_both (eqb lots 0) rows (add_row (row_with s d n orders c lots) rows) Distinct (λ none. distinct)
    (λ some. distinct_add_row (row_with s d n orders c lots) rows distinct))

-- a pair still has one row after a round
pub single_add_rows : (s : Settings) (d : Direction) (n : ℕ) (orders : List Order) (cs shares : List ℕ) (rows : List Row)
    → OneRowEach rows → OneRowEach (add_rows s d n orders cs shares rows)
single_add_rows s d n orders cs shares rows single =
    distinct_to (add_rows s d n orders cs shares rows) (distinct_add_rows s d n orders cs shares rows (distinct_from rows single))

-- a row names one partner of the entering order
pair_place : (d : Direction) (n k : ℕ) (r : Row) → is_pair d n k r ≡ true → (j : ℕ) → is_pair d n j r ≡ eqb j k
pair_place Deposit n k r pair j = grind (arith, nat_tests)
pair_place Repo n k r pair j = grind (arith, nat_tests)

-- a new row counts at one place
new_total : (e : Terms) (n : ℕ) (orders : List Order) (r : Row) (x : ℕ) → NewRow e n orders r → total (length orders) (λ k. cond (is_pair e.direction n k r) x 0) ≡ x
new_total e n orders r x new =
    total_same (length orders) _ _ (λ k l. ap (λ (t : Bool). cond t x 0) (pair_place e.direction n new.place r new.pair k))
    ∙ total_one (length orders) new.place x new.stands

-- a place that new rows name has an order admissible to the entering one
new_partner : (e : Terms) (n : ℕ) (orders : List Order) (k : ℕ) (r : Row) → NewRow e n orders r → is_pair e.direction n k r ≡ true → (k < length orders) × Admissible e (order_at orders k)
new_partner e n orders k r new pair =
    let is : k ≡ new.place = eqb-true k new.place (sym (pair_place e.direction n new.place r new.pair k) ∙ pair) in
    rw is (new.stands, new.met)

-- no row counts at a place where no order is admissible to the entering one
others_none : (e : Terms) (n : ℕ) (orders : List Order) (rows : List Row) (k : ℕ) (x : Row → ℕ) → AllByRecursion (NewRow e n orders) rows
    → (k < length orders → Admissible e (order_at orders k) → ⊥) → sum_by (λ r. cond (is_pair e.direction n k r) (x r) 0) rows ≡ 0
others_none e n orders rows k x new not =
    sum_by_zero _ rows
    (All-weaker _ _
    (λ r is. cond_both (is_pair e.direction n k r) (x r) 0 (λ y. y ≡ 0)
    (λ pair. let at = new_partner e n orders k r is pair in elim (not at.0 at.1) [ ]) (λ other. refl))
    rows new)

-- nothing is concluded with an order that is not registered or not admissible
pub concluded_with_others : (e : Terms) (n : ℕ) (orders : List Order) (rows : List Row) (k : ℕ) → AllByRecursion (NewRow e n orders) rows
    → (k < length orders → Admissible e (order_at orders k) → ⊥) → concluded_with e.direction n rows k ≡ 0
concluded_with_others e n orders rows k = others_none e n orders rows k (λ r. r.lots)

is_pair_apart : (d : Direction) (n k : ℕ) (r q : Row) → same_pair r q ≡ false → is_pair d n k r ≡ true → is_pair d n k q ≡ false
is_pair_apart Deposit n k r q differ pair = grind (arith, nat_tests)
is_pair_apart Repo n k r q differ pair = grind (arith, nat_tests)

-- rows of distinct pairs have at most one of a pair
count_pair : (d : Direction) (n k : ℕ) (rows : List Row) → Distinct rows → count_by (is_pair d n k) rows ≤ 1
count_pair d n k [] distinct = omega arith
count_pair d n k (r ∷ rs) distinct =
    elim (cases_Bool (is_pair d n k r)) [
      | inl pair ↦
          let none : count_by (is_pair d n k) rs ≡ 0 =
          sum_by_zero _ rs (All-weaker _ _ (λ q differ. cond-false (is_pair d n k q) 1 0 (is_pair_apart d n k r q differ pair)) rs distinct.0) in
          omega (arith, sum_by-cons (λ q. cond (is_pair d n k q) 1 0) r rs, cond-true {A = ℕ} (is_pair d n k r) 1 0 pair)
      | inr other ↦
          omega (arith, sum_by-cons (λ q. cond (is_pair d n k q) 1 0) r rs, cond-false {A = ℕ} (is_pair d n k r) 1 0 other, count_pair d n k rs distinct.1)
    ]

-- an active order of the other direction
abbrev opposes : Direction → Order → Bool
opposes d o = is_active o.state && not (same_direction d o.terms.direction)

opposes_admissible : (e : Terms) (o : Order) → Admissible e o → opposes e.direction o ≡ true
opposes_admissible e o met = elim met.1 [ inl a ↦ rw (met.0, a.0, a.1) | inr b ↦ rw (met.0, b.0, b.1) ]

one_each : (rows : List Row) → sum_by (λ r. 1) rows ≡ length rows
one_each [] = refl
one_each (r ∷ rs) = omega (arith, sum_by-cons (λ q. 1) r rs, one_each rs)

-- the rows of an entry are at most as many as there are active orders of the other direction
pub few_rows : (e : Terms) (n : ℕ) (orders : List Order) (rows : List Row) → AllByRecursion (NewRow e n orders) rows → OneRowEach rows → length rows ≤ opposite e.direction orders
few_rows e n orders rows new single =
    let each : sum_by (λ r. total (length orders) (λ k. cond (is_pair e.direction n k r) 1 0)) rows ≡ sum_by (λ r. 1) rows =
    sum_by_same _ _ rows (All-weaker _ _ (λ r is. new_total e n orders r 1 is) rows new) in
    omega (
      arith,
      each,
      one_each rows,
      total_swap (length orders) (λ k r. cond (is_pair e.direction n k r) 1 0) rows,
      total_count_by (opposes e.direction) orders none,
      total_le (length orders) (λ k. count_by (is_pair e.direction n k) rows) (λ k. cond (opposes e.direction (order_at orders k)) 1 0) (λ k l. here k (cases_Bool (opposes e.direction (order_at orders k)))),
    )
  where
    here : (k : ℕ) → (opposes e.direction (order_at orders k) ≡ true) ⊎ (opposes e.direction (order_at orders k) ≡ false)
        → count_by (is_pair e.direction n k) rows ≤ cond (opposes e.direction (order_at orders k)) 1 0
    here k (inl t) = rw t (count_pair e.direction n k rows (distinct_from rows single))
    here k (inr f) =
        omega (
          arith,
          others_none e n orders rows k (λ r. 1) new
              (λ l met. both_ways (opposes e.direction (order_at orders k)) f (opposes_admissible e (order_at orders k) met)),
        )

-- a row of a pair names the entering order and its partner, and no other
pair_names : (d : Direction) (n k : ℕ) (r : Row) → is_pair d n k r ≡ true → (m : ℕ) → (eqb r.deposit m || eqb r.repo m) ≡ (eqb m n || eqb m (suc k))
pair_names Deposit n k r pair m = grind (arith, nat_tests)
pair_names Repo n k r pair m = grind (arith, nat_tests)

-- the rows that name another order than the entering one are those of their pair
pub named_partner : (e : Terms) (n : ℕ) (orders : List Order) (rows : List Row) (k : ℕ) → AllByRecursion (NewRow e n orders) rows → (n ≡ suc k → ⊥)
    → sum_by (λ r. cond (eqb r.deposit (suc k) || eqb r.repo (suc k)) r.lots 0) rows ≡ concluded_with e.direction n rows k
named_partner e n orders rows k new other =
    sum_by_same _ _ rows
    (All-weaker _ _
    (λ r is. ap (λ (t : Bool). cond t r.lots 0)
    (pair_names e.direction n is.place r is.pair (suc k) ∙ names is.place ∙ sym (pair_place e.direction n is.place r is.pair k)))
    rows new)
  where
    names : (j : ℕ) → (eqb (suc k) n || eqb (suc k) (suc j)) ≡ eqb k j
    names j = grind (arith, nat_tests)

-- all rows name the entering order
pub named_entering : (e : Terms) (n : ℕ) (orders : List Order) (rows : List Row) → AllByRecursion (NewRow e n orders) rows
    → sum_by (λ r. cond (eqb r.deposit n || eqb r.repo n) r.lots 0) rows ≡ total (length orders) (concluded_with e.direction n rows)
named_entering e n orders rows new =
    sum_by_same _ _ rows
    (All-weaker _ _
    (λ r is. ap (λ (t : Bool). cond t r.lots 0) (pair_names e.direction n is.place r is.pair n ∙ names is.place) ∙ sym (new_total e n orders r r.lots is))
    rows new)
    ∙ sym (total_swap (length orders) (λ k r. cond (is_pair e.direction n k r) r.lots 0) rows)
  where
    names : (j : ℕ) → (eqb n n || eqb n (suc j)) ≡ true
    names j = grind (arith, nat_tests)
