-- Orders that are put behind the others or written over one of them, and what a market keeps then.
use Rattle.std.proofs.Common.{◌≡◌, ℕ, ◌+◌, ◌<◌, ◌≤◌, Bool, true, false, cond, eqb, List, [], ◌∷◌, ◌++◌, length, get_or, set, sum_by, count_by, sym, refl, ap, ◌∙◌, subst, inl, inr, arith}
use Rattle.std.proofs.lemmas.List.{get_or_append_left, get_or_push, get_or-set_same, get_or-set_other, length_push, length-set}
use Rattle.std.proofs.lemmas.List.Sums.{sum_by_push, sum_by-set}
use Rattle.std.proofs.lemmas.Bool.{cases_lt, cases_eq}
use Rattle.std.proofs.lemmas.Bool.Decides.{nat_tests}
use Rattle.orders.specs.declared.kinds.Direction.{Direction}
use Rattle.orders.specs.declared.kinds.Direction.TheVariants.{Deposit, Repo}
use Rattle.orders.specs.declared.kinds.Order.{Order}
use Rattle.orders.specs.declared.kinds.Row.{Row}
use Rattle.orders.specs.declared.kinds.Terms.{Terms}
use Rattle.model.specs.Choices.{total}
use Rattle.model.specs.Market.{Market, none, order_at}
use Rattle.model.specs.Place.{same_direction, registered}
use Rattle.model.specs.Sound.{SoundOrder, SoundMarket}
use Rattle.model.proofs.Totals.{total_same, total_le, total_sum_by}

-- sums over lists that agree place by place
pub sums_same : {X : Type 0} (f : X → ℕ) (xs ys : List X) (d : X) → length xs ≡ length ys
    → ((k : ℕ) → k < length ys → f (get_or xs k d) ≡ f (get_or ys k d)) → sum_by f xs ≡ sum_by f ys
sums_same f xs ys d long same =
    sym (total_sum_by f xs d)
    ∙ ap (λ (n : ℕ). total n (λ k. f (get_or xs k d))) long
    ∙ total_same (length ys) (λ k. f (get_or xs k d)) (λ k. f (get_or ys k d)) same
    ∙ total_sum_by f ys d

pub sums_le : {X : Type 0} (f g : X → ℕ) (xs ys : List X) (d : X) → length xs ≡ length ys
    → ((k : ℕ) → k < length ys → f (get_or xs k d) ≤ g (get_or ys k d)) → sum_by f xs ≤ sum_by g ys
sums_le f g xs ys d long less =
    let first : total (length xs) (λ k. f (get_or xs k d)) ≡ sum_by f xs = total_sum_by f xs d in
    let last : total (length ys) (λ k. g (get_or ys k d)) ≡ sum_by g ys = total_sum_by g ys d in
    let same : total (length xs) (λ k. f (get_or xs k d)) ≡ total (length ys) (λ k. f (get_or xs k d)) = ap (λ (n : ℕ). total n (λ k. f (get_or xs k d))) long in
    let le : total (length ys) (λ k. f (get_or xs k d)) ≤ total (length ys) (λ k. g (get_or ys k d)) =
    total_le (length ys) (λ k. f (get_or xs k d)) (λ k. g (get_or ys k d)) less in
    omega arith

-- what holds of the orders and of the one put behind them
pub at_push : (P : ℕ → Order → Type 0) (orders : List Order) (x : Order) → ((k : ℕ) → k < length orders → P k (order_at orders k)) → P (length orders) x
    → (k : ℕ) → k < length (orders ++ (x ∷ [])) → P k (order_at (orders ++ (x ∷ [])) k)
at_push P orders x each new k inside =
    elim (cases_lt k (length orders)) [
      | inl below ↦ subst (P k) (sym (get_or_append_left orders (x ∷ []) none k below)) (each k below)
      | inr above ↦
          let is : length orders ≡ k = omega (arith, length_push orders x) in
          subst (P k) (sym (get_or_push orders x none k is)) (subst (λ (j : ℕ). P j x) is new)
    ]

-- what holds of all orders but the one at place k, and of the one written there
pub at_set : (P : ℕ → Order → Type 0) (orders : List Order) (k : ℕ) (x : Order) → k < length orders
    → ((j : ℕ) → j < length orders → (j ≡ k → ⊥) → P j (order_at orders j)) → P k x
    → (j : ℕ) → j < length (set orders k x) → P j (order_at (set orders k x) j)
at_set P orders k x stands each new j inside =
    elim (cases_eq j k) [
      | inl is ↦ subst (λ (i : ℕ). P i (order_at (set orders k x) i)) (sym is) (subst (P k) (sym (get_or-set_same orders k x none stands)) new)
      | inr other ↦ subst (P j) (sym (get_or-set_other orders k j x none other)) (each j (omega (arith, length-set orders k x)) other)
    ]

pub same_direction_lem : (d c : Direction) → same_direction d c ≡ true → d ≡ c
same_direction_lem Deposit Deposit e = refl
same_direction_lem Deposit Repo e = cc
same_direction_lem Repo Deposit e = cc
same_direction_lem Repo Repo e = refl

-- one more order, last in the queue
pub sound_push : (m : Market) (x : Order) (rows : List Row) → SoundMarket m → SoundOrder x → registered x.terms.direction m.orders < 64
    → SoundMarket (record { orders = m.orders ++ (x ∷ []); queue = m.queue ++ (length m.orders ∷ []); rows = rows })
sound_push m x rows sound new room = record {
  orders = at_push (λ k o. SoundOrder o) m.orders x sound.orders new;
  few = λ d. counted d (same_direction d x.terms.direction) refl;
  queued = λ k inside.
      let count : count_by (eqb k) (m.queue ++ (length m.orders ∷ [])) ≡ count_by (eqb k) m.queue + cond (eqb k (length m.orders)) 1 0 =
      sum_by_push (λ j. cond (eqb k j) 1 0) m.queue (length m.orders) in
      count ∙ elim (cases_lt k (length m.orders)) [
        | inl below ↦ let once = sound.queued k below in grind (arith, nat_tests)
        | inr above ↦ let never = sound.inside k above in let long = length_push m.orders x in grind (arith, nat_tests)
      ];
  inside = λ k outside.
      let count : count_by (eqb k) (m.queue ++ (length m.orders ∷ [])) ≡ count_by (eqb k) m.queue + cond (eqb k (length m.orders)) 1 0 =
      sum_by_push (λ j. cond (eqb k j) 1 0) m.queue (length m.orders) in
      let long = length_push m.orders x in
      let never = sound.inside k (omega arith) in
      count ∙ grind (arith, nat_tests);
}
  where
    counted : (d : Direction) (t : Bool) → same_direction d x.terms.direction ≡ t → registered d (m.orders ++ (x ∷ [])) ≤ 64
    counted d true is =
        let count = sum_by_push (λ (o : Order). cond (same_direction d o.terms.direction) 1 0) m.orders x in
        let same : d ≡ x.terms.direction = same_direction_lem d x.terms.direction is in
        let fewer : registered d m.orders < 64 = subst (λ (c : Direction). registered c m.orders < 64) (sym same) room in
        rw (count, is) (omega arith)
    counted d false is =
        let count = sum_by_push (λ (o : Order). cond (same_direction d o.terms.direction) 1 0) m.orders x in
        let fewer = sound.few d in
        rw (count, is) (omega arith)

-- another order of the same terms at place k
pub sound_set : (m : Market) (k : ℕ) (x : Order) (rows : List Row) → SoundMarket m → k < length m.orders → SoundOrder x
    → x.terms ≡ (order_at m.orders k).terms → SoundMarket (record { orders = set m.orders k x; queue = m.queue; rows = rows })
sound_set m k x rows sound stands new same = record {
  orders = at_set (λ j o. SoundOrder o) m.orders k x stands (λ j l _. sound.orders j l) new;
  few = λ d.
      let count = sum_by-set (λ (o : Order). cond (same_direction d o.terms.direction) 1 0) m.orders k x none stands in
      let part : cond {A = ℕ} (same_direction d x.terms.direction) 1 0 ≡ cond {A = ℕ} (same_direction d (order_at m.orders k).terms.direction) 1 0 =
      ap (λ (t : Terms). cond {A = ℕ} (same_direction d t.direction) 1 0) same in
      omega (arith, sound.few d);
  queued = λ j l. sound.queued j (omega (arith, length-set m.orders k x));
  inside = λ j l. sound.inside j (omega (arith, length-set m.orders k x));
}
