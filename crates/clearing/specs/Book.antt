-- The cover that a clearing keeps, and what its calls make of it.
use Rattle.std.specs.Prelude.{ℕ, ◌+◌, ◌-◌, Bool, cond, ◌&&◌, ◌==◌, nat_le, nat_lt}

-- each participant's free and held lots
pub record Book : Type 0 where
  pub free : ℕ → ℕ
  pub held : ℕ → ℕ

-- participant p's lots, free and held
abbrev pub total : Book → ℕ → ℕ
total b p = b.free p + b.held p

-- nothing free and nothing held
abbrev pub empty : Book
empty = record { free = λ _. 0; held = λ _. 0 }

-- the figures with participant p's replaced by n
abbrev pub put : (ℕ → ℕ) → ℕ → ℕ → ℕ → ℕ
put figures p n q = cond (q == p) n (figures q)

-- a participant from 0 to 63 with n lots free
abbrev pub can_reserve : Book → ℕ → ℕ → Bool
can_reserve b p n = nat_lt p 64 && nat_le n (b.free p)

-- a participant from 0 to 63 with n lots held
abbrev pub can_release : Book → ℕ → ℕ → Bool
can_release b p n = nat_lt p 64 && nat_le n (b.held p)

-- n lots of participant p moved from free to held
abbrev pub to_held : Book → ℕ → ℕ → Book
to_held b p n = record { free = put b.free p (b.free p - n); held = put b.held p (b.held p + n) }

-- n lots of participant p moved from held to free
abbrev pub to_free : Book → ℕ → ℕ → Book
to_free b p n = record { free = put b.free p (b.free p + n); held = put b.held p (b.held p - n) }

-- the book after participant p asked to reserve n lots
abbrev pub reserved : Book → ℕ → ℕ → Book
reserved b p n = cond (can_reserve b p n) (to_held b p n) b

-- the book after participant p asked to release n lots
abbrev pub released : Book → ℕ → ℕ → Book
released b p n = cond (can_release b p n) (to_free b p n) b

-- a figure that may be set: participant 0 to 63, at most 1,000,000,000, nothing held
abbrev pub settable : Book → ℕ → ℕ → Bool
settable b p x = nat_lt p 64 && nat_le x 1000000000 && b.held p == 0

-- participant p's free lots replaced by x
abbrev pub with_free : Book → ℕ → ℕ → Book
with_free b p x = record { free = put b.free p x; held = b.held }

-- the book after participant p's figure was to be x
abbrev pub limited : Book → ℕ → ℕ → Book
limited b p x = cond (settable b p x) (with_free b p x) b
