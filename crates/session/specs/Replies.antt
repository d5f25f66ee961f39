-- Answers as values: shares as a list, a refusal by its number.
use Rattle.std.specs.Prelude.{ℕ, Bool, List, Some, None, Ok, Err, vec_items, Option, Result}
use Rattle.clearing.specs.Refused.{number_of}
use Rattle.pile.specs.Parts.{Told}
use Rattle.pile.specs.Parts as told
use Rattle.script.specs.declared.answer.Answer.{Answer}
use Rattle.script.specs.declared.answer.Answer.TheVariants as answer
use Rattle.script.specs.declared.answer.Reason.{Reason}
use Rattle.script.specs.declared.answer.Reason.TheVariants.{Unknown, Usage}
use Rattle.script.specs.declared.reading.Fault.{Fault}
use Rattle.script.specs.declared.reading.Fault.TheVariants as fault
use Rattle.session.specs.declared.obstacle.Obstacle.{Obstacle}
use Rattle.session.specs.declared.obstacle.Obstacle.TheVariants.{RuledOut, NoMemory}

-- what a line is answered
pub data Reply : Type 0 where
  clearing_ready : Reply
  figure_set : Reply
  refused : ℕ → Reply
  cover : ℕ → ℕ → ℕ → Reply
  cover_all : ℕ → ℕ → Reply
  need : ℕ → ℕ → ℕ → Bool → Reply
  left : ℕ → ℕ → ℕ → Reply
  verdict : Bool → Reply
  shares : List ℕ → Reply
  bad : ℕ → Reason → Reply

-- what an answer says
abbrev pub reply_of : Answer → Reply
reply_of answer.ClearingReady = clearing_ready
reply_of answer.Set = figure_set
reply_of (answer.Refused refusal) = refused (number_of refusal)
reply_of (answer.Cover p free held) = cover p free held
reply_of (answer.CoverAll free held) = cover_all free held
reply_of (answer.Need p visible hidden covered) = need p visible hidden covered
reply_of (answer.Left p money securities) = left p money securities
reply_of (answer.Verdict said) = verdict said
reply_of (answer.Shares ns) = shares (vec_items ns)
reply_of (answer.Bad n reason) = bad n reason

-- what an answer says, or the reason that there is none
abbrev pub said : Result Answer Reason → Result Reply Reason
said (Ok a) = Ok (reply_of a)
said (Err reason) = Err reason

-- what an answer says, or the reason that there is none; nothing where memory ran out
abbrev pub outcome : Result Answer Obstacle → Option (Result Reply Reason)
outcome (Ok a) = Some (Ok (reply_of a))
outcome (Err (RuledOut reason)) = Some (Err reason)
outcome (Err NoMemory) = None

-- the obstacle that a line's fault is
abbrev pub obstacle_of : Fault → Obstacle
obstacle_of fault.Unknown = RuledOut Unknown
obstacle_of (fault.Usage verb) = RuledOut (Usage verb)
obstacle_of fault.NoMemory = NoMemory

-- what an answer says, if there is one
abbrev pub said_if : Option Answer → Option Reply
said_if None = None
said_if (Some a) = Some (reply_of a)

-- the reply in line n: a reason is told with the line's number
abbrev pub in_line : ℕ → Result Reply Reason → Reply
in_line n (Ok reply) = reply
in_line n (Err reason) = bad n reason

-- what a setter says; a figure that the clearing does not have is ruled out for a reason
abbrev pub set_said : Told → Reason → Result Reply Reason
set_said told.done why = Ok figure_set
set_said (told.refused number) why = Ok (refused number)
set_said told.no_such_part why = Err why
