-- The rows of a round, share by share.
use Rattle.std.proofs.Common.{◌≡◌, ℕ, ◌+◌, ◌^◌, ◌<◌, ◌≤◌, eqb, List, [], ◌∷◌, length, take, drop, sum_by, sum, sym, refl, ap, ◌∙◌, le_trans, arith}
use Rattle.std.proofs.lemmas.List.{drop_all, drop_more, length-take-le}
use Rattle.std.proofs.lemmas.List.Sums.{sum_by-cons, sum_by-drop_more}
use Rattle.std.proofs.lemmas.Bool.{cond_both, eqb-true}
use Rattle.orders.specs.declared.kinds.Direction.{Direction}
use Rattle.orders.specs.declared.kinds.Direction.TheVariants.{Deposit, Repo}
use Rattle.orders.specs.declared.kinds.Order.{Order}
use Rattle.orders.specs.declared.kinds.Row.{Row}
use Rattle.orders.specs.declared.settings.Settings.{Settings}
use Rattle.model.specs.Rows.{row_with, add_rows}
use Rattle.desk.specs.Matching.{RowsMade, with_share}
use Rattle.desk.proofs.RowPlaces.{lots_add_row, more_rows, rows_long, same_later}
use Rattle.desk.proofs.Spreading.{Turn}

lots_row_with : (s : Settings) (d : Direction) (n : ℕ) (orders : List Order) (k lots : ℕ) → (row_with s d n orders k lots).lots ≡ lots
lots_row_with s Deposit n orders k lots = refl
lots_row_with s Repo n orders k lots = refl

-- the lots of some rows
abbrev pub row_lots : List Row → ℕ
row_lots rows = sum_by (λ r. r.lots) rows

module _ (s : Settings) (d : Direction) (n : ℕ) (orders : List Order) where
  share_more : (k lots : ℕ) (rows : List Row) → length rows ≤ length (with_share s d n orders k lots rows)
  unfolding with_share
  share_more k lots rows =
      cond_both (eqb lots 0) rows _ (λ x. length rows ≤ length x) (λ _. omega arith) (λ _. more_rows (row_with s d n orders k lots) rows)

  share_lots : (k lots : ℕ) (rows : List Row) → row_lots (with_share s d n orders k lots rows) ≡ row_lots rows + lots
  unfolding with_share
  share_lots k lots rows =
      cond_both (eqb lots 0) rows _ (λ x. row_lots x ≡ row_lots rows + lots) (λ e. omega (arith, eqb-true lots 0 e))
      (λ _. omega (arith, lots_add_row (row_with s d n orders k lots) rows, lots_row_with s d n orders k lots))

  -- all shares of a round make no fewer rows, and as many lots more
  pub all_more : (places shares : List ℕ) (rows : List Row) → length rows ≤ length (add_rows s d n orders places shares rows)
  unfolding add_rows with_share
  all_more [] shares rows = omega arith
  all_more (k ∷ ks) [] rows = omega arith
  all_more (k ∷ ks) (lots ∷ shares) rows = le_trans (share_more k lots rows) (all_more ks shares (with_share s d n orders k lots rows))

  pub all_lots : (places shares : List ℕ) (rows : List Row) → length shares ≡ length places
      → row_lots (add_rows s d n orders places shares rows) ≡ row_lots rows + sum shares
  unfolding add_rows with_share
  all_lots [] [] rows long = omega arith
  all_lots [] (lots ∷ shares) rows long = absurd (omega arith)
  all_lots (k ∷ ks) [] rows long = absurd (omega arith)
  all_lots (k ∷ ks) (lots ∷ shares) rows long =
      omega (arith, all_lots ks shares (with_share s d n orders k lots rows) (omega arith), share_lots k lots rows, sum_by-cons (λ (x : ℕ). x) lots shares)

-- the rows so far, with the shares from i on, make up the whole
pub record Adding (s : Settings) (d : Direction) (n : ℕ) (orders : List Order) (places shares : List ℕ) (before whole : List Row) (i : ℕ) (rows : List Row) (count : ℕ) : Type 0 where
  pub coming : add_rows s d n orders (drop i places) (drop i shares) (take count rows) ≡ whole
  pub inside : count ≤ length rows
  pub wide : length rows ≡ length before
  pub rest : drop count rows ≡ drop count before
  pub fits : row_lots (take count rows) + sum (drop i shares) < 2 ^ 32

module _ {s : Settings} {d : Direction} {n : ℕ} {orders : List Order} {places shares : List ℕ} {before whole : List Row} {i : ℕ} {rows : List Row} {count : ℕ}
    (now : Adding s d n orders places shares before whole i rows count) where
  pub adding_all : length places ≤ i → RowsMade whole before rows count
  unfolding add_rows
  adding_all past =
      let is : take count rows ≡ whole = rw (drop_all i places past) at now.coming in
      record { count = sym (length-take-le count rows now.inside) ∙ ap length is; written = is; rest = now.rest }

  module _ (k lots : ℕ) (turn : Turn places shares i k lots) where
    abbrev next : List Row
    next = with_share s d n orders k lots (take count rows)

    next_coming : add_rows s d n orders (drop (i + 1) places) (drop (i + 1) shares) next ≡ whole
    unfolding add_rows with_share
    next_coming = rw (turn.2 0, turn.3 0) (rw (drop_more places i 0 turn.0, drop_more shares i 0 turn.1) at now.coming)

    next_sum : sum (drop i shares) ≡ lots + sum (drop (i + 1) shares)
    next_sum = omega (arith, sum_by-drop_more (λ (x : ℕ). x) shares i 0 turn.1, turn.3 0)

    pub adding_room : length whole ≤ length rows → length next ≤ length rows
    adding_room room = omega (arith, all_more s d n orders (drop (i + 1) places) (drop (i + 1) shares) next, ap length next_coming)

    pub adding_more : (after : List Row) (r : ℕ) → length whole ≤ length rows → r ≤ length after → RowsMade next rows after r
        → Adding s d n orders places shares before whole (i + 1) after r
    adding_more after r room within made =
        let later : count ≤ r = omega (arith, made.count, share_more s d n orders k lots (take count rows), length-take-le count rows now.inside) in
        record {
          coming = rw made.written next_coming;
          inside = within;
          wide = omega (arith, now.wide, rows_long made (omega (arith, made.count, adding_room room)) within);
          rest = made.rest ∙ same_later count r rows before later now.rest;
          fits = omega (arith, now.fits, ap row_lots made.written, share_lots s d n orders k lots (take count rows), next_sum);
        }
