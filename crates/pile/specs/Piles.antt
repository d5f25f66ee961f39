-- What a pile means.
use Rattle.std.specs.Prelude.{ℕ, cond, Some, None, Option, nat_le}
use Rattle.clearing.specs.Book.{Book}
use Rattle.clearing.specs.Makeup.{Makeup}
use Rattle.caps.specs.Caps.{cap_book, cap_makeup}
use Rattle.pile.specs.Bases.{base_book, base_makeup}
use Rattle.pile.specs.Parts.{empty_base, stacked}
use Rattle.pile.specs.declared.base.Base.{Base}
use Rattle.pile.specs.declared.base.BaseKind.{BaseKind}
use Rattle.pile.specs.declared.layers.Pile.{Pile}
use Rattle.pile.specs.declared.layers.Pile.TheVariants.{Bare, Capped, CappedTwice}

-- the free and held lots of a pile, at its top
abbrev pub pile_book : Pile → Book
pile_book (Bare base) = base_book base
pile_book (Capped top) = cap_book base_book top
pile_book (CappedTwice top) = cap_book (cap_book base_book) top

-- what a pile is made of
abbrev pub pile_makeup : Pile → Makeup
pile_makeup (Bare base) = base_makeup base
pile_makeup (Capped top) = cap_makeup base_makeup top
pile_makeup (CappedTwice top) = cap_makeup (cap_makeup base_makeup) top

-- what a pile is made of, if there is one
abbrev pub makeup_in : Option Pile → Option Makeup
makeup_in None = None
makeup_in (Some pile) = Some (pile_makeup pile)

-- a new pile has every figure 0; there is none of more than two caps
abbrev pub new_pile : BaseKind → ℕ → Option Makeup
new_pile kind n = cond (nat_le n 2) (Some (stacked n (empty_base kind))) None

-- what lies under the caps of a pile
abbrev pub base_of : Pile → Base
base_of (Bare base) = base
base_of (Capped top) = top.below
base_of (CappedTwice top) = top.below.below

-- a pile with another base under its caps
abbrev pub with_base : Pile → Base → Pile
with_base (Bare old) base = Bare base
with_base (Capped top) base = Capped (record { below = base; own = top.own })
with_base (CappedTwice top) base =
    CappedTwice (record { below = record { below = base; own = top.below.own }; own = top.own })
