-- What a line is read to.
use Rattle.std.specs.Prelude.{◌≡◌, ℕ, cond, List, [], ◌∷◌, Ok, Err, Result, ◌==◌, ◌≢◌}
use Rattle.script.specs.Commands.{Fits, written}
use Rattle.script.specs.Verbs.{verb_word}
use Rattle.script.specs.declared.command.Command.{Command}
use Rattle.script.specs.declared.command.Verb.{Verb}
use Rattle.script.specs.declared.command.Verb.TheVariants as verb
use Rattle.script.specs.declared.form.Unread.{Unread}
use Rattle.script.specs.declared.form.Unread.TheVariants as unread
use Rattle.script.specs.declared.reading.Fault.{Fault}
use Rattle.script.specs.declared.reading.Fault.TheVariants.{Unknown, Usage, NoMemory}

-- what stands before the first space, or all where there is none
abbrev pub first_word : List ℕ → List ℕ
first_word [] = []
first_word (b ∷ bs) = cond (b == 32) [] (b ∷ first_word bs)

-- r is the verb whose word this is; else there is none
abbrev pub BeginsWith : List ℕ → Result Verb Fault → Type 0
BeginsWith word (Ok v) = word ≡ verb_word v
BeginsWith word (Err e) = (e ≡ Unknown) × ((v : Verb) → word ≢ verb_word v)

-- no command is written so
abbrev pub NoCommand : List ℕ → Type 0
NoCommand line = (c : Command) → Fits c → line ≢ written c

-- r is the command that line is the written form of; else there is none, and the fault goes by the first word; or memory ran out for the sums of a share
abbrev pub Parses : List ℕ → Result Command Fault → Type 0
Parses line (Ok c) = Fits c × (line ≡ written c)
Parses line (Err Unknown) = NoCommand line × ((v : Verb) → first_word line ≢ verb_word v)
Parses line (Err (Usage v)) = NoCommand line × (first_word line ≡ verb_word v)
Parses line (Err NoMemory) = first_word line ≡ verb_word verb.Share

-- the fault of a line whose first word is v and whose arguments were not read
abbrev pub fault_of : Verb → Unread → Fault
fault_of v unread.NoForm = Usage v
fault_of v unread.NoMemory = NoMemory
