-- Lists of calls that go on call by call.
use Rattle.std.specs.Prelude.{◌≡◌, List, [], ◌∷◌, ◌++◌}
use Rattle.std.specs.List.{AllByRecursion}
use Rattle.clearing.specs.Book.{Book}
use Rattle.orders.specs.Answers.{Answer}
use Rattle.orders.specs.declared.kinds.Row.{Row}
use Rattle.orders.specs.declared.settings.Settings.{Settings}
use Rattle.model.specs.Calls.{Call, LawfulCall, step, after, opening}
use Rattle.model.specs.CloseLaw.{Closed, States}
use Rattle.model.specs.Days.{World}
use Rattle.model.specs.Law.{Law}

-- what some calls answer, one after another
abbrev pub answers_of : List Call → World → List Answer
answers_of [] w = []
answers_of (c ∷ cs) w = (step c w).answer ∷ answers_of cs (step c w).world

-- whatever list of calls made the world before, that list with this call added obeys the law, and it made the world after
abbrev pub Extends : Call → World → World → Type 0
Extends c before next =
    (s : Settings) (register : List Row) (cover : Book) (calls : List Call) → AllByRecursion LawfulCall calls → after calls (opening s register cover) ≡ before
    → Law s register cover (calls ++ (c ∷ [])) × AllByRecursion LawfulCall (calls ++ (c ∷ [])) × (after (calls ++ (c ∷ [])) (opening s register cover) ≡ next)

-- whatever list of calls made the world before, it obeys the law, and its close ended the day as it must
abbrev pub Closes : World → World → Type 0
Closes before next =
    (s : Settings) (register : List Row) (cover : Book) (calls : List Call) → AllByRecursion LawfulCall calls → after calls (opening s register cover) ≡ before
    → Law s register cover calls × Closed before next × States calls (opening s register cover) before next
