-- What a setter answers.
use Rattle.std.specs.Prelude.{ℕ, Bool, cond, Some, None, Ok, Err, Option, Result}
use Rattle.clearing.specs.declared.cover.Refusal.{Refusal}
use Rattle.clearing.specs.declared.cover.Refusal.TheVariants.{FigureNotSettable}

-- the number of a refusal
abbrev pub number_of : Refusal → ℕ
number_of FigureNotSettable = 19

-- the number that an answer refuses with, if it refuses
abbrev pub refused_with : Result (Unit {0}) Refusal → Option ℕ
refused_with (Ok _) = None
refused_with (Err refusal) = Some (number_of refusal)

-- no refusal where the figure may be set, else number 19
abbrev pub refused_unless : Bool → Option ℕ
refused_unless fits = cond fits None (Some 19)
