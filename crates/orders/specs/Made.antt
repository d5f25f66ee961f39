-- What becomes of figures that are to be settings.
use Rattle.std.specs.Prelude.{◌≡◌, ℕ, Ok, Err, Result}
use Rattle.orders.specs.Lawful.{LawfulSettings}
use Rattle.orders.specs.declared.kinds.Mode.{Mode}
use Rattle.orders.specs.declared.refusals.Refusal.{Refusal}
use Rattle.orders.specs.declared.refusals.Refusal.TheVariants as refused
use Rattle.orders.specs.declared.settings.Settings.{Settings}

-- the settings have exactly these figures
pub record HasFigures (mode : Mode) (least greatest sum iceberg rows : ℕ) (s : Settings) : Type 0 where
  pub mode_is : s.mode ≡ mode
  pub least_is : s.least_percent ≡ least
  pub greatest_is : s.greatest_percent ≡ greatest
  pub sum_is : s.least_sum ≡ sum
  pub iceberg_is : s.least_iceberg_sum ≡ iceberg
  pub rows_is : s.rows ≡ rows

-- lawful figures are kept, others are refused
abbrev pub MadeOf : Mode → ℕ → ℕ → ℕ → ℕ → ℕ → Result Settings Refusal → Type 0
MadeOf mode least greatest sum iceberg rows (Ok s) = HasFigures mode least greatest sum iceberg rows s
MadeOf mode least greatest sum iceberg rows (Err refusal) =
    (refusal ≡ refused.Settings) × (LawfulSettings least greatest sum iceberg rows → ⊥)
