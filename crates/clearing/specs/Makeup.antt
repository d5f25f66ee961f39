-- What a clearing is made of: all that its free and held lots hide.
use Rattle.std.specs.Prelude.{ℕ, min, cond}
use Rattle.clearing.specs.Book.{Book, to_held, to_free, can_reserve, can_release}
use Rattle.clearing.specs.Pots.{Pots, joint, drawn, refilled}

-- nothing behind its book, two pots, or a cap's own figures over what is below
pub data Makeup : Type 0 where
  plain : Book → Makeup
  pots : Pots → Makeup
  capped : Book → Makeup → Makeup

-- for each participant the lesser of what two books have
abbrev pub lesser : Book → Book → Book
lesser a b = record { free = λ p. min (a.free p) (b.free p); held = λ p. min (a.held p) (b.held p) }

-- the free and held lots that a make-up shows
abbrev pub shown : Makeup → Book
shown (plain b) = b
shown (pots t) = joint t
shown (capped own below) = lesser (shown below) own

-- n lots taken for participant p in every part
abbrev pub taken : Makeup → ℕ → ℕ → Makeup
taken (plain b) p n = plain (to_held b p n)
taken (pots t) p n = pots (drawn t p n)
taken (capped own below) p n = capped (to_held own p n) (taken below p n)

-- n lots given back for participant p in every part
abbrev pub returned : Makeup → ℕ → ℕ → Makeup
returned (plain b) p n = plain (to_free b p n)
returned (pots t) p n = pots (refilled t p n)
returned (capped own below) p n = capped (to_free own p n) (returned below p n)

-- n lots reserved for participant p, if they are free
abbrev pub reserved_in : Makeup → ℕ → ℕ → Makeup
reserved_in m p n = cond (can_reserve (shown m) p n) (taken m p n) m

-- n lots released for participant p, if they are held
abbrev pub released_in : Makeup → ℕ → ℕ → Makeup
released_in m p n = cond (can_release (shown m) p n) (returned m p n) m
