-- Cover that is reserved and released, and the lots of each participant's orders.
use Rattle.std.proofs.Common.{◌≡◌, ℕ, ◌+◌, ◌-◌, ◌<◌, ◌≤◌, true, cond, eqb, List, [], ◌∷◌, ◌++◌, length, set, sum_by, sym, ap, ◌∙◌, subst, ap₂, inl, inr, arith}
use Rattle.std.proofs.lemmas.List.Sums.{sum_by_push, sum_by-set}
use Rattle.std.proofs.lemmas.Bool.{cases_eq, eq-eqb, ne_eqb}
use Rattle.std.proofs.lemmas.Bool.Decides.{nat_tests}
use Rattle.clearing.specs.Book.{Book, can_reserve, reserved, released}
use Rattle.orders.specs.declared.kinds.Order.{Order}
use Rattle.model.specs.Market.{none, order_at}
use Rattle.model.specs.PlaceLaw.{Covers}
use Rattle.model.specs.WithdrawLaw.{Releases}
use Rattle.model.proofs.Writes.{sums_same}

-- a reservation that is granted
pub covers_reserved : (b : Book) (p n : ℕ) → can_reserve b p n ≡ true → Covers p n b (reserved b p n)
covers_reserved b p n can = record {
  kept = λ q. grind (arith, nat_tests);
  owner = grind (arith, nat_tests);
  others = λ q other. grind (arith, nat_tests);
}

-- a release of held lots never says no
pub releases_released : (b : Book) (p n : ℕ) → p ≤ 63 → n ≤ b.held p → Releases p n b (released b p n)
releases_released b p n known enough = record {
  kept = λ q. grind (arith, nat_tests);
  owner = grind (arith, nat_tests);
  others = λ q other. grind (arith, nat_tests);
}

-- a reservation, and a release of some of it
pub covers_part : (p n m : ℕ) (b c d : Book) → m ≤ n → Covers p n b c → Releases p m c d → Covers p (n - m) b d
covers_part p n m b c d part covers releases = record {
  kept = λ q. releases.kept q ∙ covers.kept q;
  owner = omega (arith, covers.owner, releases.owner);
  others = λ q other. releases.others q other ∙ covers.others q other;
}

-- n lots of participant q, if he is p
abbrev pub of_owner : ℕ → ℕ → ℕ → ℕ
of_owner p q n = cond (eqb q p) n 0

pub of_owner_add : (p q a b : ℕ) → of_owner p q (a + b) ≡ of_owner p q a + of_owner p q b
of_owner_add p q a b = grind (arith, nat_tests)

-- each participant's held lots after a reservation and after a release
pub held_covers : (q n : ℕ) (b c : Book) → Covers q n b c → (p : ℕ) → c.held p ≡ b.held p + of_owner p q n
held_covers q n b c covers p =
    elim (cases_eq p q) [
      | inl his ↦ rw (eq-eqb q p (sym his)) (subst (λ (r : ℕ). c.held r ≡ b.held r + n) (sym his) covers.owner)
      | inr other ↦ rw (ne_eqb q p (λ same. other (sym same))) (omega (arith, covers.others p other))
    ]

pub held_releases : (q n : ℕ) (b c : Book) → Releases q n b c → (p : ℕ) → c.held p + of_owner p q n ≡ b.held p
held_releases q n b c releases p =
    elim (cases_eq p q) [
      | inl his ↦ rw (eq-eqb q p (sym his)) (subst (λ (r : ℕ). c.held r + n ≡ b.held r) (sym his) releases.owner)
      | inr other ↦ rw (ne_eqb q p (λ same. other (sym same))) (omega (arith, releases.others p other))
    ]

-- the sum of a figure over the orders of participant p
abbrev pub owned : (Order → ℕ) → ℕ → List Order → ℕ
owned f p orders = sum_by (λ o. of_owner p o.owner (f o)) orders

-- one more order
pub owned_push : (f : Order → ℕ) (p : ℕ) (orders : List Order) (x : Order) → owned f p (orders ++ (x ∷ [])) ≡ owned f p orders + of_owner p x.owner (f x)
owned_push f p orders x = sum_by_push (λ (o : Order). of_owner p o.owner (f o)) orders x

-- another order of participant q at place k
pub owned_set : (f : Order → ℕ) (p q : ℕ) (orders : List Order) (k : ℕ) (x : Order) → k < length orders → (order_at orders k).owner ≡ q → x.owner ≡ q
    → owned f p (set orders k x) + of_owner p q (f (order_at orders k)) ≡ owned f p orders + of_owner p q (f x)
owned_set f p q orders k x stands was is =
    ap (λ (r : ℕ). owned f p (set orders k x) + of_owner p r (f (order_at orders k))) (sym was)
    ∙ sum_by-set (λ (o : Order). of_owner p o.owner (f o)) orders k x none stands
    ∙ ap (λ (r : ℕ). owned f p orders + of_owner p r (f x)) is

-- orders of the same owners and figures
pub owned_same : (f : Order → ℕ) (p : ℕ) (after before : List Order) → length after ≡ length before
    → ((k : ℕ) → k < length after → ((order_at after k).owner ≡ (order_at before k).owner) × (f (order_at after k) ≡ f (order_at before k)))
    → owned f p after ≡ owned f p before
owned_same f p after before long same =
    sums_same (λ (o : Order). of_owner p o.owner (f o)) after before none long
    (λ k inside. let is = same k (omega arith) in ap₂ (of_owner p) is.0 is.1)
