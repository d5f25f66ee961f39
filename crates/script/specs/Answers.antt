-- The written form of every answer.
use Rattle.std.specs.Prelude.{ℕ, Bool, true, false, List, [], ◌∷◌, ◌++◌, vec_items, codes, decimal}
use Rattle.clearing.specs.Refused.{number_of}
use Rattle.script.specs.declared.answer.Answer.{Answer}
use Rattle.script.specs.declared.answer.Answer.TheVariants as answer
use Rattle.script.specs.declared.answer.Reason.{Reason}
use Rattle.script.specs.declared.answer.Reason.TheVariants as reason
use Rattle.script.specs.declared.command.Verb.{Verb}
use Rattle.script.specs.declared.command.Verb.TheVariants as verb
use Rattle.script.specs.Commands.{line}

-- yes or no
abbrev pub verdict_word : Bool → List ℕ
verdict_word true = codes "yes"
verdict_word false = codes "no"

-- each number after a space
abbrev pub each_spaced : List ℕ → List ℕ
each_spaced [] = []
each_spaced (n ∷ ns) = 32 ∷ (decimal n ++ each_spaced ns)

-- the form of a command, for a reader
abbrev pub usage_text : Verb → List ℕ
usage_text verb.Clearing = codes "usage: clearing BASE CAPS"
usage_text verb.Limit = codes "usage: limit P X"
usage_text verb.Pots = codes "usage: pots P MONEY SECURITIES"
usage_text verb.Cap = codes "usage: cap LAYER P X"
usage_text verb.Cover = codes "usage: cover [P]"
usage_text verb.Need = codes "usage: need P SUM PERCENT"
usage_text verb.Left = codes "usage: left P"
usage_text verb.Reserve = codes "usage: reserve P S"
usage_text verb.Release = codes "usage: release P S"
usage_text verb.Share = codes "usage: share RULE Q LENGTH V1 V2 .."

-- why a line is bad, for a reader
abbrev pub reason_text : Reason → List ℕ
reason_text reason.TooLong = codes "longer than 4096 bytes"
reason_text reason.NotText = codes "not text"
reason_text reason.Unknown = codes "no such command"
reason_text (reason.Usage v) = usage_text v
reason_text reason.TooManyCaps = codes "at most 2 cap layers"
reason_text reason.NoLimits = codes "no limit sheet in this clearing"
reason_text reason.NoPots = codes "no pots in this clearing"
reason_text reason.NoLayer = codes "no such cap layer in this clearing"
reason_text reason.NoOrder = codes "an order has 1 to 1000000 lots and 0 to 100 percent"

-- the line that each answer is written as
abbrev pub answer_line : Answer → List ℕ
answer_line answer.ClearingReady = codes "clearing ok"
answer_line answer.Set = codes "set"
answer_line (answer.Refused r) = line (codes "refused" ∷ decimal (number_of r) ∷ [])
answer_line (answer.Cover p f h) = line (codes "cover" ∷ decimal p ∷ codes "free" ∷ decimal f ∷ codes "held" ∷ decimal h ∷ [])
answer_line (answer.CoverAll f h) = line (codes "cover all free" ∷ decimal f ∷ codes "held" ∷ decimal h ∷ [])
answer_line (answer.Need p v h c) = line (codes "need" ∷ decimal p ∷ codes "visible" ∷ decimal v ∷ codes "hidden" ∷ decimal h ∷ verdict_word c ∷ [])
answer_line (answer.Left p m s) = line (codes "left" ∷ decimal p ∷ codes "money" ∷ decimal m ∷ codes "securities" ∷ decimal s ∷ [])
answer_line (answer.Verdict b) = verdict_word b
answer_line (answer.Shares ns) = codes "shares" ++ each_spaced (vec_items ns)
answer_line (answer.Bad n r) = codes "bad line " ++ (decimal n ++ (codes ": " ++ reason_text r))
