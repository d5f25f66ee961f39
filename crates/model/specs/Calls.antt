-- Lists of calls, and what they make of a day.
use Rattle.std.specs.Prelude.{ℕ, List, [], ◌∷◌, ◌++◌, take, drop}
use Rattle.clearing.specs.Book.{Book}
use Rattle.orders.specs.declared.kinds.Row.{Row}
use Rattle.orders.specs.declared.kinds.Terms.{Terms}
use Rattle.orders.specs.declared.settings.Settings.{Settings}
use Rattle.sharing.specs.Request.{Lawful, Divides}
use Rattle.model.specs.Clock.{clocking}
use Rattle.model.specs.Days.{World, Outcome, opened}
use Rattle.model.specs.Place.{placing}
use Rattle.model.specs.Rounds.{Rule}
use Rattle.model.specs.Withdraw.{withdrawing}

-- a call with all that it is given; place and clock are handed so many rows of the register, each with a rule of its own
pub data Call : Type 0 where
  place : (rule : Rule) (rows participant : ℕ) (terms : Terms) → Call
  withdraw : (number participant : ℕ) → Call
  clock : (rule : Rule) (rows time : ℕ) → Call

-- a lawful meaning of a rule: a lawful request is divided
abbrev pub LawfulRule : Rule → Type 0
LawfulRule rule = (sums : List ℕ) (q : ℕ) → Lawful sums q → Divides sums q (rule sums q)

-- a call with a lawful rule
abbrev pub LawfulCall : Call → Type 0
LawfulCall (place rule rows p e) = LawfulRule rule
LawfulCall (withdraw n p) = Unit {0}
LawfulCall (clock rule rows time) = LawfulRule rule

-- a world with the first rows of its register
abbrev pub handed : ℕ → World → World
handed rows w = record { day = w.day; register = take rows w.register; cover = w.cover }

-- an outcome, with the register's other rows behind it
abbrev pub given_back : ℕ → World → Outcome → Outcome
given_back rows w o = record {
  answer = o.answer;
  world = record { day = o.world.day; register = o.world.register ++ drop rows w.register; cover = o.world.cover };
}

-- what a call does
abbrev pub step : Call → World → Outcome
step (place rule rows p e) w = given_back rows w (placing rule p e (handed rows w))
step (withdraw n p) w = withdrawing n p w
step (clock rule rows time) w = given_back rows w (clocking rule time (handed rows w))

-- the world after some calls
abbrev pub after : List Call → World → World
after [] w = w
after (c ∷ cs) w = after cs (step c w).world

-- a newly opened day over a register and a cover
abbrev pub opening : Settings → List Row → Book → World
opening s register cover = record { day = opened s; register = register; cover = cover }
