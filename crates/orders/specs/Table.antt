-- The table of refusals that terms, settings and the clock decide.
use Rattle.std.specs.Prelude.{ℕ, Bool, cond, not, List, [], ◌∷◌, Some, None, Option}
use Rattle.orders.specs.Checks.{unknown_participant, wrong_rate, wrong_sum, lawful_code, wrong_securities, wrong_marks, wrong_percent, wrong_time}
use Rattle.orders.specs.declared.kinds.Terms.{Terms}
use Rattle.orders.specs.declared.refusals.Refusal.{Refusal}
use Rattle.orders.specs.declared.refusals.Refusal.TheVariants as refused
use Rattle.orders.specs.declared.settings.Settings.{Settings}

-- refusals, each with whether it applies, by their numbers
abbrev pub Table : Type 0
Table = List (Refusal × Bool)

-- the first refusal of a table that applies
abbrev pub first : Table → Option Refusal
first [] = None
first (line ∷ rest) = cond line.1 (Some line.0) (first rest)

-- the refusals 3 to 10 of an order to be placed
abbrev pub terms_table : Settings → ℕ → ℕ → Terms → Table
terms_table settings clock participant terms =
    (refused.Participant, unknown_participant participant)
    ∷ (refused.Rate, wrong_rate terms)
    ∷ (refused.Sum, wrong_sum settings terms)
    ∷ (refused.Code, not (lawful_code terms.code))
    ∷ (refused.Securities, wrong_securities settings.mode terms)
    ∷ (refused.Marks, wrong_marks settings.mode terms)
    ∷ (refused.Percent, wrong_percent settings terms)
    ∷ (refused.Time, wrong_time settings.mode clock terms)
    ∷ []
