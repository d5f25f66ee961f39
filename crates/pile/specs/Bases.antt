-- What a base means.
use Rattle.clearing.specs.Book.{Book}
use Rattle.clearing.specs.Pots.{joint}
use Rattle.clearing.specs.Makeup.{Makeup, plain, pots}
use Rattle.clearing.specs.Sheet.{sheet_book}
use Rattle.clearing.specs.TwoPots.{pots_of}
use Rattle.pile.specs.declared.base.Base.{Base}
use Rattle.pile.specs.declared.base.Base.TheVariants.{Sheet, Pots}

-- the free and held lots of a base
abbrev pub base_book : Base → Book
base_book (Sheet s) = sheet_book s
base_book (Pots t) = joint (pots_of t)

-- what a base is made of
abbrev pub base_makeup : Base → Makeup
base_makeup (Sheet s) = plain (sheet_book s)
base_makeup (Pots t) = pots (pots_of t)
