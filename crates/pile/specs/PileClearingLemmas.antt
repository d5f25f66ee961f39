use Rattle.caps.specs.Caps.{count_book, cap_book}
use Rattle.pile.specs.Bases.{base_book}
use Rattle.pile.specs.Piles.{pile_book}
use Rattle.pile.specs.declared.layers.Pile.{Pile}
use Rattle.pile.specs.declared.layers.Pile.TheVariants.{Bare, Capped, CappedTwice}
use Rattle.pile.specs.Bounds.{Bounded, base_bounded, lesser_bounded}

pub pile_bounded : (pile : Pile) → Bounded (pile_book pile)
pile_bounded (Bare base) = base_bounded base
pile_bounded (Capped top) = lesser_bounded (base_book top.below) (count_book top) (base_bounded top.below)
pile_bounded (CappedTwice top) =
    lesser_bounded (cap_book base_book top.below) (count_book top)
    (lesser_bounded (base_book top.below.below) (count_book top.below) (base_bounded top.below.below))
