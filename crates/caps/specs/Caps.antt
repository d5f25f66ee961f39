-- A cap over a clearing, given what the clearing below means.
use Rattle.clearing.specs.Book.{Book}
use Rattle.clearing.specs.Makeup.{Makeup, capped, lesser}
use Rattle.clearing.specs.Sheet.{sheet_book}
use Rattle.caps.specs.declared.Cap.{Cap}

module _ {C : Type 0} where
  -- the layer's own figures: the count is held, the cap less the count is free
  abbrev pub count_book : Cap C → Book
  count_book c = sheet_book c.own

  -- the lesser of what the clearing below has and of the layer's own figures
  abbrev pub cap_book : (C → Book) → Cap C → Book
  cap_book book c = lesser (book c.below) (count_book c)

  -- the layer's own figures over what is below
  abbrev pub cap_makeup : (C → Makeup) → Cap C → Makeup
  cap_makeup makeup c = capped (count_book c) (makeup c.below)
