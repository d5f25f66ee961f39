-- Refusals: the lowest number that applies is answered, and nothing is changed.
use Rattle.std.specs.Prelude.{◌≡◌, ℕ, ◌<◌, true, false, ◌⊎◌, length, slice_index_or}
use Rattle.orders.specs.Answers.{refused_for}
use Rattle.orders.specs.Table.{Table}
use Rattle.orders.specs.declared.refusals.Refusal.{Refusal}
use Rattle.orders.specs.declared.refusals.Refusal.TheVariants as refused
use Rattle.model.specs.Days.{World, Outcome}

-- r is the first of a table that applies
pub record FirstOf (table : Table) (r : Refusal) : Type 0 where
  pub at : ℕ
  pub stands : at < length table
  pub is : (slice_index_or table at (refused.Settings, false)).0 ≡ r
  pub applies : (slice_index_or table at (refused.Settings, false)).1 ≡ true
  pub lowest : (j : ℕ) → j < at → (slice_index_or table j (refused.Settings, false)).1 ≡ false

-- none of the first n of a table applies
abbrev pub NoneBelow : ℕ → Table → Type 0
NoneBelow n table = (j : ℕ) → j < n → (slice_index_or table j (refused.Settings, false)).1 ≡ false

-- the first that applies is answered and nothing is changed
pub record Refuses (table : Table) (w : World) (o : Outcome) : Type 0 where
  pub refusal : Refusal
  pub first : FirstOf table refusal
  pub answered : o.answer ≡ refused_for refusal
  pub unchanged : o.world ≡ w

-- a call is refused by its table, or nothing of it applies and the call is accepted
abbrev pub Judged : Table → World → Outcome → Type 0 → Type 0
Judged table w o Accepted = Refuses table w o ⊎ (NoneBelow (length table) table × (o.answer.number ≡ 0) × Accepted)
