-- The first word of a command that has others.
use Rattle.std.specs.Prelude.{ℕ, Bool, true, false, List, codes}
use Rattle.script.specs.declared.command.Verb.{Verb}
use Rattle.script.specs.declared.command.Verb.TheVariants as verb

-- the word of each verb
abbrev pub verb_word : Verb → List ℕ
verb_word verb.Clearing = codes "clearing"
verb_word verb.Limit = codes "limit"
verb_word verb.Pots = codes "pots"
verb_word verb.Cap = codes "cap"
verb_word verb.Cover = codes "cover"
verb_word verb.Need = codes "need"
verb_word verb.Left = codes "left"
verb_word verb.Reserve = codes "reserve"
verb_word verb.Release = codes "release"
verb_word verb.Share = codes "share"

-- only a list of sums needs memory to be read
abbrev pub allocates : Verb → Bool
allocates verb.Clearing = false
allocates verb.Limit = false
allocates verb.Pots = false
allocates verb.Cap = false
allocates verb.Cover = false
allocates verb.Need = false
allocates verb.Left = false
allocates verb.Reserve = false
allocates verb.Release = false
allocates verb.Share = true
