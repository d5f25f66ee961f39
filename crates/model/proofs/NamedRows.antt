-- The rows that name an order.
use Rattle.std.proofs.Common.{◌≡◌, ℕ, ◌+◌, ◌-◌, ◌<◌, ◌≤◌, Bool, true, false, cond, ◌||◌, eqb, List, [], ◌∷◌, ◌++◌, length, get_or, sym, refl, ap, ◌∙◌, inl, inr, arith}
use Rattle.std.specs.List.{AllByRecursion}
use Rattle.std.proofs.ByRecursion.{All-get_or}
use Rattle.std.proofs.lemmas.List.{length-append, get_or_append_left, get_or-append_right}
use Rattle.std.proofs.lemmas.List.Sums.{sum_by-cons, sum_by-append}
use Rattle.std.proofs.lemmas.Bool.{cases_lt}
use Rattle.std.proofs.lemmas.Bool.Decides.{nat_tests}
use Rattle.orders.specs.declared.kinds.Direction.{Direction}
use Rattle.orders.specs.declared.kinds.Direction.TheVariants.{Deposit, Repo}
use Rattle.orders.specs.declared.kinds.Row.{Row}
use Rattle.model.specs.Choices.{is_pair}
use Rattle.model.specs.Entry.{OneRowEach}
use Rattle.model.specs.Ledger.{named_lots}
use Rattle.model.specs.Market.{none}

-- a row names order n
abbrev pub names_order : ℕ → Row → Bool
names_order n r = eqb r.deposit n || eqb r.repo n

-- the lots of two lists of rows
pub named_append : (n : ℕ) (old new : List Row) → named_lots n (old ++ new) ≡ named_lots n old + named_lots n new
named_append n old new = sum_by-append (λ (r : Row). cond (names_order n r) r.lots 0) old new

-- rows with lots of which none is of order n do not name it
pub unnamed_all : (n : ℕ) (rows : List Row) → AllByRecursion (λ r. 1 ≤ r.lots) rows → named_lots n rows ≡ 0 → AllByRecursion (λ r. names_order n r ≡ false) rows
unnamed_all n [] some zero_lots = tt
unnamed_all n (r ∷ rs) some zero_lots =
    let both : named_lots n (r ∷ rs) ≡ cond (names_order n r) r.lots 0 + named_lots n rs = sum_by-cons (λ (q : Row). cond (names_order n q) q.lots 0) r rs in
    let first : 1 ≤ r.lots = some.0 in
    (grind (arith, nat_tests), unnamed_all n rs some.1 (omega arith))

pub pair_named : (d : Direction) (n k : ℕ) (r : Row) → is_pair d n k r ≡ true → names_order n r ≡ true
pair_named Deposit n k r pair = grind (arith, nat_tests)
pair_named Repo n k r pair = grind (arith, nat_tests)

-- rows of an order that none before it names
pub single_append : (n : ℕ) (old new : List Row) → OneRowEach old → OneRowEach new → AllByRecursion (λ r. names_order n r ≡ false) old → AllByRecursion (λ r. names_order n r ≡ true) new → OneRowEach (old ++ new)
single_append n old new first last without with i j none inside within deposits repos =
    elim (cases_lt i (length old)) [
      | inl low ↦ elim (cases_lt j (length old)) [
        | inl lower ↦ first i j none low lower
            (sym (ap (λ (r : Row). r.deposit) (left i low)) ∙ deposits ∙ ap (λ (r : Row). r.deposit) (left j lower))
            (sym (ap (λ (r : Row). r.repo) (left i low)) ∙ repos ∙ ap (λ (r : Row). r.repo) (left j lower))
        | inr higher ↦ absurd (apart (get_or old i none) (get_or new (j - length old) none)
            (All-get_or (λ r. names_order n r ≡ false) old i none low without) (All-get_or (λ r. names_order n r ≡ true) new (j - length old) none (omega (arith, length-append old new)) with)
            (sym (ap (λ (r : Row). r.deposit) (left i low)) ∙ deposits ∙ ap (λ (r : Row). r.deposit) (right j higher))
            (sym (ap (λ (r : Row). r.repo) (left i low)) ∙ repos ∙ ap (λ (r : Row). r.repo) (right j higher)))
      ]
      | inr high ↦ elim (cases_lt j (length old)) [
        | inl lower ↦ absurd (apart (get_or old j none) (get_or new (i - length old) none)
            (All-get_or (λ r. names_order n r ≡ false) old j none lower without) (All-get_or (λ r. names_order n r ≡ true) new (i - length old) none (omega (arith, length-append old new)) with)
            (sym (ap (λ (r : Row). r.deposit) (left j lower)) ∙ sym deposits ∙ ap (λ (r : Row). r.deposit) (right i high))
            (sym (ap (λ (r : Row). r.repo) (left j lower)) ∙ sym repos ∙ ap (λ (r : Row). r.repo) (right i high)))
        | inr higher ↦
            let same : i - length old ≡ j - length old =
            last (i - length old) (j - length old) none (omega (arith, length-append old new)) (omega (arith, length-append old new))
            (sym (ap (λ (r : Row). r.deposit) (right i high)) ∙ deposits ∙ ap (λ (r : Row). r.deposit) (right j higher))
            (sym (ap (λ (r : Row). r.repo) (right i high)) ∙ repos ∙ ap (λ (r : Row). r.repo) (right j higher)) in
            omega arith
      ]
    ]
  where
    left : (k : ℕ) → k < length old → get_or (old ++ new) k none ≡ get_or old k none
    left k low = get_or_append_left old new none k low

    right : (k : ℕ) → length old ≤ k → get_or (old ++ new) k none ≡ get_or new (k - length old) none
    right k high = get_or-append_right old new (length old) k none refl high

    apart : (a b : Row) → names_order n a ≡ false → names_order n b ≡ true → a.deposit ≡ b.deposit → a.repo ≡ b.repo → ⊥
    apart a b off on same also = grind (arith, nat_tests)
