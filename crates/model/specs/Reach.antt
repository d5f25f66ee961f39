-- Days that calls have made, each over a register and a cover of its own.
use Rattle.std.specs.Prelude.{◌≡◌, List, [], ◌∷◌}
use Rattle.std.specs.List.{AllByRecursion}
use Rattle.clearing.specs.Book.{Book}
use Rattle.orders.specs.declared.kinds.Row.{Row}
use Rattle.orders.specs.declared.settings.Settings.{Settings}
use Rattle.model.specs.Calls.{Call, LawfulCall, step}
use Rattle.model.specs.Close.{closing}
use Rattle.model.specs.Days.{Day, opened}

-- a call over a register and a cover of its own
pub record Hand : Type 0 where
  pub call : Call
  pub register : List Row
  pub cover : Book

-- the day after such a call
abbrev pub day_by : Hand → Day → Day
day_by h d = (step h.call (record { day = d; register = h.register; cover = h.cover })).world.day

-- the day after some of them, one after another
abbrev pub day_after : List Hand → Day → Day
day_after [] d = d
day_after (h ∷ hs) d = day_after hs (day_by h d)

-- calls with lawful rules
abbrev pub LawfulHands : List Hand → Type 0
LawfulHands hands = AllByRecursion (λ h. LawfulCall h.call) hands

-- some list of lawful calls made exactly this day of a newly opened one
abbrev pub Reached : Day → Type 0
Reached d = ∥ ((s : Settings) × (hands : List Hand) × LawfulHands hands × (day_after hands (opened s) ≡ d)) ∥₁

-- some list of lawful calls made exactly this day of a newly opened one, with close last, over whatever register and cover
abbrev pub ReachedClosed : Day → Type 0
ReachedClosed d =
    ∥ ((s : Settings) × (hands : List Hand) × (register : List Row) × (cover : Book) × LawfulHands hands × ((closing (record { day = day_after hands (opened s); register = register; cover = cover })).day ≡ d)) ∥₁
