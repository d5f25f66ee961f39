-- The words of a script.
use Rattle.std.specs.Prelude.{ℕ, List, ◌∷◌, ◌++◌, map, Some, None, codes, decimal, Option}
use Rattle.std.specs.List.{join_with_byte}
use Rattle.sharing.specs.declared.chosen.Rule.{Rule}
use Rattle.sharing.specs.declared.chosen.Rule.TheVariants.{Time, ProRata, Parity}
use Rattle.pile.specs.declared.base.BaseKind.{BaseKind}
use Rattle.pile.specs.declared.base.BaseKind.TheVariants.{Sheet, Pots}

-- a sharing rule
abbrev pub rule_word : Rule → List ℕ
rule_word Time = codes "time"
rule_word ProRata = codes "prorata"
rule_word Parity = codes "parity"

-- the base of a clearing
abbrev pub base_word : BaseKind → List ℕ
base_word Sheet = codes "limit"
base_word Pots = codes "pots"

-- a word, with a space and what follows it, if anything does
abbrev pub followed : List ℕ → Option (List ℕ) → List ℕ
followed word None = word
followed word (Some rest) = word ++ (32 ∷ rest)

-- numbers with a space between each two
abbrev pub numbers : List ℕ → List ℕ
numbers ns = join_with_byte 32 (map decimal ns)
