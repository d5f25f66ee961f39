-- The bounds of a base and of what lies on it.
use Rattle.std.proofs.Common.{rules, arith}
use Rattle.std.specs.Prelude.{◌≡◌, ℕ, ◌<◌, ◌≤◌}
use Rattle.clearing.specs.Book.{Book, total}
use Rattle.clearing.specs.Makeup.{lesser}
use Rattle.clearing.specs.Sheet.{sheet_book}
use Rattle.clearing.specs.TwoPots.{pots_of}
use Rattle.pile.specs.Bases.{base_book}
use Rattle.pile.specs.declared.base.Base.{Base}
use Rattle.pile.specs.declared.base.Base.TheVariants.{Sheet, Pots}

-- a book within the bounds of a clearing
pub record Bounded (b : Book) : Type 0 where
  pub most : (p : ℕ) → total b p ≤ 1000000000
  pub free : (p : ℕ) → 63 < p → b.free p ≡ 0
  pub held : (p : ℕ) → 63 < p → b.held p ≡ 0

pub base_bounded : (b : Base) → Bounded (base_book b)
unfolding sheet_book pots_of
base_bounded (Sheet s) = record { most = search rules; free = search rules; held = search rules }
base_bounded (Pots t) = record { most = search rules; free = search rules; held = search rules }

pub lesser_bounded : (a b : Book) → Bounded a → Bounded (lesser a b)
lesser_bounded a b h =
    record {
      most = λ p. omega (arith, h.most p);
      free = λ p x. omega (arith, h.free p x);
      held = λ p x. omega (arith, h.held p x);
    }
