-- What a line of a script is answered, and what the clearing is made of after it.
use Rattle.std.specs.Prelude.{◌≡◌, ℕ, ◌+◌, ◌<◌, ◌≤◌, min, Bool, true, false, ◌||◌, List, length, Some, None, Ok, Err, IsUtf8, Option, Result, ◌==◌, slice_index}
use Rattle.clearing.specs.Makeup.{Makeup}
use Rattle.script.specs.declared.answer.Reason.{Reason}
use Rattle.script.specs.declared.answer.Reason.TheVariants as reason
use Rattle.script.specs.declared.command.Command.{Command}
use Rattle.script.specs.declared.reading.Fault.{Fault}
use Rattle.script.specs.declared.reading.Fault.TheVariants as fault
use Rattle.script.specs.Parses.{Parses, first_word}
use Rattle.script.specs.Verbs.{verb_word}
use Rattle.script.specs.declared.command.Verb.TheVariants.{Share}
use Rattle.session.specs.Replies.{Reply, in_line}
use Rattle.session.specs.Obeyed.{Answers, after}

-- an empty line and a comment are passed over
abbrev pub passed_over : List ℕ → Bool
passed_over line = length line == 0 || slice_index line 0 == 35

-- the number of the next line; it stays at the greatest number of 64 bits
abbrev pub next_line : ℕ → ℕ
next_line n = min (n + 1) 18446744073709551615

-- what is said of a text read to p, and what is left: the command is obeyed, or a fault is told and nothing changed
abbrev pub ReadAs : Makeup → Result Command Fault → Result Reply Reason → Makeup → Type 0
ReadAs m (Ok command) r left = Answers m command r × (left ≡ after m command)
ReadAs m (Err fault.Unknown) r left = (r ≡ Err reason.Unknown) × (left ≡ m)
ReadAs m (Err (fault.Usage verb)) r left = (r ≡ Err (reason.Usage verb)) × (left ≡ m)
ReadAs m (Err fault.NoMemory) r left = ⊥

-- what is said of a text, and what is left
abbrev pub Heard : Makeup → List ℕ → Result Reply Reason → Makeup → Type 0
Heard m line r left = (p : Result Command Fault) × Parses line p × ReadAs m p r left

-- what is said of a line that is not passed over, and what is left
pub record Spoken (m : Makeup) (line : List ℕ) (r : Result Reply Reason) (left : Makeup) : Type 0 where
  pub long : 4096 < length line → (r ≡ Err reason.TooLong) × (left ≡ m)
  pub binary : length line ≤ 4096 → (IsUtf8 line → ⊥) → (r ≡ Err reason.NotText) × (left ≡ m)
  pub text : length line ≤ 4096 → IsUtf8 line → Heard m line r left

-- memory ran out while a line that begins a share was read or answered, and nothing changed
pub record Unread (m : Makeup) (line : List ℕ) (left : Makeup) : Type 0 where
  pub command : passed_over line ≡ false
  pub short : length line ≤ 4096
  pub text : IsUtf8 line
  pub share : first_word line ≡ verb_word Share
  pub same : left ≡ m

-- line n is passed over and changes nothing, or what is said of it is the answer
pub record Answered (m : Makeup) (n : ℕ) (line : List ℕ) (answer : Option Reply) (left : Makeup) : Type 0 where
  pub passed : passed_over line ≡ true → (answer ≡ None) × (left ≡ m)
  pub spoken :
      passed_over line ≡ false → (r : Result Reply Reason) × (answer ≡ Some (in_line n r)) × Spoken m line r left
