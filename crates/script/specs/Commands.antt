-- The written form of every command.
use Rattle.std.specs.Prelude.{ℕ, ◌^◌, ◌<◌, List, [], ◌∷◌, ◌++◌, map, vec_items, codes, decimal}
use Rattle.std.specs.List.{join_with_byte, AllByRecursion}
use Rattle.script.specs.Words.{rule_word, base_word}
use Rattle.script.specs.Verbs.{verb_word}
use Rattle.script.specs.declared.command.Command.{Command}
use Rattle.script.specs.declared.command.Verb.{Verb}
use Rattle.script.specs.declared.command.Command.TheVariants as command

-- words in a row, with a space between each two
abbrev pub line : List (List ℕ) → List ℕ
line words = join_with_byte 32 words

-- the line that each command is written as
abbrev pub written : Command → List ℕ
written (command.Clearing base caps) = line (codes "clearing" ∷ base_word base ∷ decimal caps ∷ [])
written (command.Limit p x) = line (codes "limit" ∷ decimal p ∷ decimal x ∷ [])
written (command.Pots p m s) = line (codes "pots" ∷ decimal p ∷ decimal m ∷ decimal s ∷ [])
written (command.Cap l p x) = line (codes "cap" ∷ decimal l ∷ decimal p ∷ decimal x ∷ [])
written command.CoverAll = codes "cover"
written (command.Cover p) = line (codes "cover" ∷ decimal p ∷ [])
written (command.Need p s c) = line (codes "need" ∷ decimal p ∷ decimal s ∷ decimal c ∷ [])
written (command.Left p) = line (codes "left" ∷ decimal p ∷ [])
written (command.Reserve p s) = line (codes "reserve" ∷ decimal p ∷ decimal s ∷ [])
written (command.Release p s) = line (codes "release" ∷ decimal p ∷ decimal s ∷ [])
written (command.Share rule q n vs) = line (codes "share" ∷ rule_word rule ∷ decimal q ∷ decimal n ∷ map decimal (vec_items vs))

-- each number of a command is one that a script can write
abbrev pub Fits : Command → Type 0
Fits (command.Clearing base caps) = caps < 2 ^ 32
Fits (command.Limit p x) = (p < 2 ^ 32) × (x < 2 ^ 32)
Fits (command.Pots p m s) = (p < 2 ^ 32) × (m < 2 ^ 32) × (s < 2 ^ 32)
Fits (command.Cap l p x) = (l < 2 ^ 32) × (p < 2 ^ 32) × (x < 2 ^ 32)
Fits command.CoverAll = Unit {0}
Fits (command.Cover p) = p < 2 ^ 32
Fits (command.Need p s c) = (p < 2 ^ 32) × (s < 2 ^ 32) × (c < 2 ^ 32)
Fits (command.Left p) = p < 2 ^ 32
Fits (command.Reserve p s) = (p < 2 ^ 32) × (s < 2 ^ 32)
Fits (command.Release p s) = (p < 2 ^ 32) × (s < 2 ^ 32)
Fits (command.Share rule q n vs) = (q < 2 ^ 32) × (n < 2 ^ 32) × AllByRecursion (λ v. v < 2 ^ 32) (vec_items vs)

-- the line of a command whose first word is v, with what follows it
abbrev pub line_of : Verb → List ℕ → List ℕ
line_of v rest = verb_word v ++ (32 ∷ rest)
