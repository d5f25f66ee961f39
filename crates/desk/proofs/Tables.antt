-- The first refusal of a table in parts.
use Rattle.std.proofs.Common.{◌≡◌, ℕ, Bool, true, false, cond, not, eqb, [], ◌∷◌, ◌++◌, length, Some, None, Option, sym, refl, ◌∙◌, arith}
use Rattle.std.proofs.lemmas.Bool.Decides.{nat_tests}
use Rattle.clearing.specs.Book.{can_reserve}
use Rattle.orders.specs.Table.{Table, first, terms_table}
use Rattle.orders.specs.declared.kinds.Terms.{Terms}
use Rattle.orders.specs.declared.refusals.Refusal.{Refusal}
use Rattle.orders.specs.declared.refusals.Refusal.TheVariants as refused
use Rattle.model.specs.Days.{Day, World}
use Rattle.model.specs.Place.{place_table}
use Rattle.desk.specs.Judging.{place_tests, room_tests}

-- a refusal of the first part stands
some_by : (r q : Refusal) (b : Bool) (x y : Option Refusal) → cond b (Some q) x ≡ Some r → (x ≡ Some r → y ≡ Some r) → cond b (Some q) y ≡ Some r
some_by r q true x y e rest = e
some_by r q false x y e rest = rest e

pub first_some : (xs ys : Table) (r : Refusal) → first xs ≡ Some r → first (xs ++ ys) ≡ Some r
first_some [] ys r e = let z : ◌≡◌ {A = ℕ} 0 1 = cc in absurd (omega arith)
first_some (x ∷ xs) ys r e = some_by r x.0 x.1 (first xs) (first (xs ++ ys)) e (first_some xs ys r)

-- if the first part has none, the second is asked
none_by : (q : Refusal) (b : Bool) (x y z : Option Refusal) → cond b (Some q) x ≡ None → (x ≡ None → y ≡ z) → cond b (Some q) y ≡ z
none_by q true x y z e rest = let w : ◌≡◌ {A = ℕ} 0 1 = cc in absurd (omega arith)
none_by q false x y z e rest = rest e

pub first_none : (xs ys : Table) → first xs ≡ None → first (xs ++ ys) ≡ first ys
first_none [] ys e = refl
first_none (x ∷ xs) ys e = none_by x.0 x.1 (first xs) (first (xs ++ ys)) (first ys) e (first_none xs ys)

-- a line that does not apply is passed over
passes : (q : Refusal) (n m : ℕ) (x : Option Refusal) → n ≡ m → x ≡ cond (not (eqb n m)) (Some q) x
passes q n m x e = grind (arith, nat_tests)

-- at the right register length, the tests of place are those of its terms and then of its room
pub place_terms : (d : Day) (rows p : ℕ) (e : Terms) (r : Refusal) → rows ≡ d.settings.rows
    → first (terms_table d.settings d.clock p e) ≡ Some r → Some r ≡ first (place_tests d rows p e)
place_terms d rows p e r long is =
    sym (first_some (terms_table d.settings d.clock p e) (room_tests d rows e) r is)
    ∙ passes refused.RegisterLength rows d.settings.rows (first (terms_table d.settings d.clock p e ++ room_tests d rows e)) long

pub place_room : (d : Day) (rows p : ℕ) (e : Terms) → rows ≡ d.settings.rows
    → first (terms_table d.settings d.clock p e) ≡ None → first (room_tests d rows e) ≡ first (place_tests d rows p e)
place_room d rows p e long is =
    sym (first_none (terms_table d.settings d.clock p e) (room_tests d rows e) is)
    ∙ passes refused.RegisterLength rows d.settings.rows (first (terms_table d.settings d.clock p e ++ room_tests d rows e)) long

-- place is refused by its tests, or else for its cover
pub place_refused : (w : World) (p : ℕ) (e : Terms) (r : Refusal)
    → first (place_tests w.day (length w.register) p e) ≡ Some r → first (place_table w p e) ≡ Some r
place_refused w p e r is =
    first_some (place_tests w.day (length w.register) p e) ((refused.Cover, not (can_reserve w.cover p e.sum)) ∷ []) r is

pub place_covered : (w : World) (p : ℕ) (e : Terms) → first (place_tests w.day (length w.register) p e) ≡ None
    → first (place_table w p e) ≡ cond (not (can_reserve w.cover p e.sum)) (Some refused.Cover) None
place_covered w p e is =
    first_none (place_tests w.day (length w.register) p e) ((refused.Cover, not (can_reserve w.cover p e.sum)) ∷ []) is
