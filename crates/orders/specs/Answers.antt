-- What each call answers, as numbers.
use Rattle.std.specs.Prelude.{ℕ, List, [], ◌∷◌, Ok, Err, Result}
use Rattle.orders.specs.declared.refusals.Clocked.{Clocked}
use Rattle.orders.specs.declared.refusals.Placed.{Placed}
use Rattle.orders.specs.declared.refusals.Withdrawn.{Withdrawn}
use Rattle.orders.specs.declared.refusals.Refusal.{Refusal}
use Rattle.orders.specs.declared.refusals.Refusal.TheVariants as refused

-- the number of each refusal
abbrev pub refusal_number : Refusal → ℕ
refusal_number refused.Settings = 1
refusal_number refused.RegisterLength = 2
refusal_number refused.Participant = 3
refusal_number refused.Rate = 4
refusal_number refused.Sum = 5
refusal_number refused.Code = 6
refusal_number refused.Securities = 7
refusal_number refused.Marks = 8
refusal_number refused.Percent = 9
refusal_number refused.Time = 10
refusal_number refused.TooManyOrders = 11
refusal_number refused.TooFewRows = 12
refusal_number refused.Volume = 13
refusal_number refused.Cover = 14
refusal_number refused.NoSuchOrder = 15
refusal_number refused.NotOwner = 16
refusal_number refused.OrderDone = 17
refusal_number refused.DepthArrays = 18

-- an answer: the number of the refusal, 0 if the call was accepted, and the values that it gave
pub record Answer : Type 0 where
  pub number : ℕ
  pub values : List ℕ

-- accepted, with these values
abbrev pub accepted : List ℕ → Answer
accepted values = record { number = 0; values = values }

-- refused, with no values
abbrev pub refused_for : Refusal → Answer
refused_for refusal = record { number = refusal_number refusal; values = [] }

-- place answers the order's number and the lots concluded
abbrev pub place_answer : Result Placed Refusal → Answer
place_answer (Ok placed) = accepted (placed.number ∷ placed.lots ∷ [])
place_answer (Err refusal) = refused_for refusal

-- withdraw answers the lots withdrawn
abbrev pub withdraw_answer : Result Withdrawn Refusal → Answer
withdraw_answer (Ok withdrawn) = accepted (withdrawn.lots ∷ [])
withdraw_answer (Err refusal) = refused_for refusal

-- clock answers the count of the orders activated and the lots concluded
abbrev pub clock_answer : Result Clocked Refusal → Answer
clock_answer (Ok clocked) = accepted (clocked.count ∷ clocked.lots ∷ [])
clock_answer (Err refusal) = refused_for refusal
