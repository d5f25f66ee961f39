-- Rows by their places: where a pair's row is, and what a conclusion changes.
use Rattle.std.proofs.Common.{◌≡◌, ℕ, zero, suc, ◌+◌, ◌-◌, ◌<◌, ◌≤◌, true, false, List, [], ◌∷◌, ◌++◌, length, get_or, take, drop, set, Some, None, position, sum_by, sym, refl, ap, ◌∙◌, subst, inl, inr, arith}
use Rattle.std.proofs.lemmas.List.{drop-drop, length-drop, drop-set-lt, get_or-take, length_push, length-set, length-take-le, take_more_set}
use Rattle.std.specs.List.{position_or_len}
use Rattle.std.proofs.Math.Seq.{take-set-lt}
use Rattle.std.proofs.lemmas.Bool.{cases_lt, cond_both}
use Rattle.std.proofs.lemmas.Bool.Decides.{nat_tests}
use Rattle.std.proofs.lemmas.List.Quantifiers.{position-Some}
use Rattle.std.proofs.lemmas.Option.{none-some}
use Rattle.std.proofs.lemmas.List.Sums.{fails_before_first, sum_by-cons}
use Rattle.orders.specs.declared.kinds.Row.{Row}
use Rattle.model.specs.Rows.{same_pair, grown, add_row}
use Rattle.desk.specs.Matching.{RowsMade}

-- no row
abbrev pub no_row : Row
no_row = record { deposit = 0; repo = 0; rate = record { hundredths = 0 }; lots = 0 }

-- the first row of the pair grows
row_grows : (row : Row) (rows : List Row) (at : ℕ) → at < length rows → same_pair row (get_or rows at no_row) ≡ true
    → ((k : ℕ) → k < at → same_pair row (get_or rows k no_row) ≡ false)
    → add_row row rows ≡ set rows at (grown (get_or rows at no_row) row.lots)
unfolding add_row
row_grows row [] at inside here before = absurd (omega arith)
row_grows row (r ∷ rs) zero inside here before = rw here refl
row_grows row (r ∷ rs) (suc at) inside here before =
    rw (before 0 (omega arith))
    (ap (λ xs. r ∷ xs) (row_grows row rs at (omega arith) here (λ k below. before (suc k) (omega arith))))

-- or it is new
row_new : (row : Row) (rows : List Row) → ((k : ℕ) → k < length rows → same_pair row (get_or rows k no_row) ≡ false)
    → add_row row rows ≡ rows ++ row ∷ []
unfolding add_row
row_new row [] nowhere = refl
row_new row (r ∷ rs) nowhere =
    rw (nowhere 0 (omega arith)) (ap (λ xs. r ∷ xs) (row_new row rs (λ k below. nowhere (suc k) (omega arith))))

pair_nowhere : (row : Row) (rows : List Row) → None ≡ position (same_pair row) rows → (k : ℕ) → k < length rows
    → same_pair row (get_or rows k no_row) ≡ false
pair_nowhere row rows none k below =
    elim (cases_lt (position_or_len (same_pair row) rows) (length rows)) [
      | inl inside ↦ absurd (none-some (position_or_len (same_pair row) rows) (none ∙ grind (arith, nat_tests)))
      | inr past ↦ fails_before_first (same_pair row) rows k no_row (omega arith)
    ]

-- the lots of all rows
pub lots_add_row : (row : Row) (rows : List Row) → sum_by (λ r. r.lots) (add_row row rows) ≡ sum_by (λ r. r.lots) rows + row.lots
unfolding add_row
lots_add_row row [] = omega (arith, sum_by-cons (λ (r : Row). r.lots) row [])
lots_add_row row (r ∷ rs) =
    cond_both (same_pair row r) (grown r row.lots ∷ rs) (r ∷ add_row row rs) (λ x. sum_by (λ r. r.lots) x ≡ sum_by (λ r. r.lots) (r ∷ rs) + row.lots)
    (λ _. omega (arith, sum_by-cons (λ (r : Row). r.lots) (grown r row.lots) rs, sum_by-cons (λ (r : Row). r.lots) r rs))
    (λ _. omega (arith, lots_add_row row rs, sum_by-cons (λ (r : Row). r.lots) r (add_row row rs), sum_by-cons (λ (r : Row). r.lots) r rs))

-- rows are never fewer
pub more_rows : (row : Row) (rows : List Row) → length rows ≤ length (add_row row rows)
unfolding add_row
more_rows row [] = omega arith
more_rows row (r ∷ rs) =
    cond_both (same_pair row r) (grown r row.lots ∷ rs) (r ∷ add_row row rs) (λ x. length (r ∷ rs) ≤ length x) (λ _. omega arith)
    (λ _. omega (arith, more_rows row rs))

-- lists that are the same from a place on are so from a later one on
pub same_later : {X : Type 0} (a b : ℕ) (xs ys : List X) → a ≤ b → drop a xs ≡ drop a ys → drop b xs ≡ drop b ys
same_later a b xs ys later same =
    let split : a + (b - a) ≡ b = omega arith in
    subst (λ (m : ℕ). drop m xs ≡ drop m ys) split (sym (drop-drop (b - a) a xs) ∙ ap (drop (b - a)) same ∙ drop-drop (b - a) a ys)

-- the places of the rows are as many as before
pub rows_long : {made before after : List Row} {n : ℕ} → RowsMade made before after n → n ≤ length before → n ≤ length after → length after ≡ length before
rows_long {made} {before} {after} {n} rows within within_after =
    omega (arith, ap length rows.rest, length-drop n after, length-drop n before)

-- a conclusion added to the first of some rows
module _ (row : Row) (rows : List Row) (made : ℕ) (inside : made ≤ length rows) where
  long : length (take made rows) ≡ made
  long = length-take-le made rows inside

  -- the row of its pair stands among them
  module _ (at : ℕ) (found : Some at ≡ position (same_pair row) (take made rows)) where
    there : (at < length (take made rows)) × (same_pair row (get_or (take made rows) at no_row) ≡ true)
        × ((k : ℕ) → k < at → same_pair row (get_or (take made rows) k no_row) ≡ false)
    there = position-Some (same_pair row) (take made rows) at no_row (sym found)

    pub row_inside : at < made
    row_inside = omega (arith, there.0, long)

    row_there : add_row row (take made rows) ≡ set (take made rows) at (grown (get_or rows at no_row) row.lots)
    row_there =
        row_grows row (take made rows) at there.0 there.1 there.2 ∙ rw (get_or-take made rows at no_row row_inside) refl

    pub added_there : RowsMade (add_row row (take made rows)) rows (set rows at (grown (get_or rows at no_row) row.lots)) made
    added_there = record {
      count = sym long ∙ sym (length-set (take made rows) at (grown (get_or rows at no_row) row.lots)) ∙ ap length (sym row_there);
      written = take-set-lt made rows at (grown (get_or rows at no_row) row.lots) row_inside ∙ sym row_there;
      rest = drop-set-lt made rows at (grown (get_or rows at no_row) row.lots) row_inside;
    }

  -- or it does not
  module _ (none : None ≡ position (same_pair row) (take made rows)) (room : length (add_row row (take made rows)) ≤ length rows) where
    row_last : add_row row (take made rows) ≡ take made rows ++ row ∷ []
    row_last = row_new row (take made rows) (pair_nowhere row (take made rows) none)

    pub new_room : made < length rows
    new_room = omega (arith, ap length row_last, length_push (take made rows) row, long)

    pub added_new : RowsMade (add_row row (take made rows)) rows (set rows made row) (made + 1)
    added_new = record {
      count = omega (arith, ap length row_last, length_push (take made rows) row, long);
      written = take_more_set rows made row new_room ∙ sym row_last;
      rest = drop-set-lt (made + 1) rows made row (omega arith);
    }
