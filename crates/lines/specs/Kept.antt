-- What is kept of a line while it is read.
use Rattle.std.specs.Prelude.{ℕ, cond, List, [], ◌∷◌, ◌++◌, length, nat_lt}

-- the next byte is kept while there are fewer than 4,097
abbrev pub with_byte : List ℕ → ℕ → List ℕ
with_byte line byte = cond (nat_lt (length line) 4097) (line ++ (byte ∷ [])) line
