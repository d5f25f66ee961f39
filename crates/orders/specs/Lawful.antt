-- What the settings of a day may be.
use Rattle.std.specs.Prelude.{ℕ, ◌≤◌}

-- a least sum is from 1 to 1,000,000 lots
abbrev pub LeastSum : ℕ → Type 0
LeastSum sum = (1 ≤ sum) × (sum ≤ 1000000)

-- percents with 1 ≤ least ≤ greatest ≤ 100
abbrev pub Percents : ℕ → ℕ → Type 0
Percents least greatest = (1 ≤ least) × (least ≤ greatest) × (greatest ≤ 100)

-- lawful percents, two least sums, and at most 4,096 register rows
abbrev pub LawfulSettings : ℕ → ℕ → ℕ → ℕ → ℕ → Type 0
LawfulSettings least greatest sum iceberg rows =
    Percents least greatest × LeastSum sum × LeastSum iceberg × (rows ≤ 4096)
