-- What is written for a script, byte by byte.
use Rattle.std.specs.Prelude.{◌≡◌, ℕ, ◌<◌, Bool, cond, List, [], ◌∷◌, ◌++◌, length, take, Some, None, Option, ◌≢◌, slice_index}
use Rattle.clearing.specs.Book.{empty}
use Rattle.clearing.specs.Makeup.{Makeup, plain}
use Rattle.script.specs.declared.answer.Answer.{Answer}
use Rattle.script.specs.Answers.{answer_line}
use Rattle.lines.specs.Kept.{with_byte}
use Rattle.session.specs.Lines.{Answered, next_line}
use Rattle.session.specs.Replies.{said_if}

-- where the reading of a script stands
pub record Standing : Type 0 where
  -- whether lines are written back
  pub echo : Bool
  -- what the clearing is made of
  pub makeup : Makeup
  -- how many lines were read
  pub lines : ℕ
  -- what is kept of the line that is being read
  pub line : List ℕ

-- at the start: a limit sheet without caps, every limit 0, and nothing read
abbrev pub opening : Bool → Standing
opening echo = record { echo = echo; makeup = plain empty; lines = 0; line = [] }

-- the line has one more byte
abbrev pub lengthened : Standing → ℕ → Standing
lengthened at byte = record { echo = at.echo; makeup = at.makeup; lines = at.lines; line = with_byte at.line byte }

-- a text as a line of the output: a newline stands at its end
abbrev pub output_line : List ℕ → List ℕ
output_line text = text ++ (10 ∷ [])

-- what is written of a line itself: its first 4,096 bytes, if lines are written back
abbrev pub written_back : Bool → List ℕ → List ℕ
written_back echo line = cond echo (output_line (take 4096 line)) []

-- what is written of an answer, if there is one
abbrev pub written_of : Option Answer → List ℕ
written_of None = []
written_of (Some answer) = output_line (answer_line answer)

-- the line is at its end: it is written back and answered, and another begins
pub record Ends (start : Standing) (output : List ℕ) (end : Standing) : Type 0 where
  pub answer : Option Answer
  pub answered : Answered start.makeup end.lines start.line (said_if answer) end.makeup
  pub written : output ≡ written_back start.echo start.line ++ written_of answer
  pub lines : end.lines ≡ next_line start.lines
  pub line : end.line ≡ []
  pub echo : end.echo ≡ start.echo

-- the next byte of the script: a newline ends the line, any other byte is added to it and nothing is written
pub record Takes (start : Standing) (byte : ℕ) (output : List ℕ) (end : Standing) : Type 0 where
  pub newline : byte ≡ 10 → Ends start output end
  pub other : (byte ≢ 10) → (output ≡ []) × (end ≡ lengthened start byte)

-- the next bytes of the script, one after another
unfoldable pub Feeds : Standing → List ℕ → List ℕ → Standing → Type 0
Feeds start [] output end = (output ≡ []) × (end ≡ start)
Feeds start (byte ∷ bytes) output end =
    (first : List ℕ) × (next : Standing) × (rest : List ℕ) ×
    Takes start byte first next × Feeds next bytes rest end × (output ≡ first ++ rest)

-- it makes no difference where a script is cut: two pieces, one after the other, are the whole
abbrev pub PiecesJoin : Type 0
PiecesJoin =
    (start : Standing) (bytes output : List ℕ) (next : Standing) (more rest : List ℕ) (end : Standing) →
    Feeds start bytes output next → Feeds next more rest end → Feeds start (bytes ++ more) (output ++ rest) end

-- the text so far gets what is written for the bytes
abbrev pub Fed : Standing → List ℕ → List ℕ → List ℕ → Standing → Type 0
Fed start bytes before after end = (output : List ℕ) × Feeds start bytes output end × (after ≡ before ++ output)

-- memory ran out at a newline: the text so far got what is written for the bytes before it
abbrev pub Stopped : Standing → List ℕ → List ℕ → List ℕ → Type 0
Stopped start bytes before after =
    (k : ℕ) × (reached : Standing) ×
    (k < length bytes) × (slice_index bytes k ≡ 10) × Fed start (take k bytes) before after reached

-- the end of the script: a line that has any byte is at its end too
pub record Finished (start : Standing) (before after : List ℕ) (end : Standing) : Type 0 where
  pub empty : length start.line ≡ 0 → (after ≡ before) × (end ≡ start)
  pub begun : 0 < length start.line → (output : List ℕ) × Ends start output end × (after ≡ before ++ output)
