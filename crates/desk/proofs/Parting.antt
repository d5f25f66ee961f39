-- The queue in two parts.
use Rattle.std.proofs.Common.{◌≡◌, ℕ, ◌+◌, ◌≤◌, Bool, not, List, length, take, filter, refl}
use Rattle.std.proofs.lemmas.List.{take_all}
use Rattle.std.proofs.lemmas.List.Filters.{length-filter_both}

-- what a whole list gives, and together as much as there is
pub record Parted (p : ℕ → Bool) (queue kept again : List ℕ) : Type 0 where
  pub kept_is : kept ≡ filter (λ k. not (p k)) queue
  pub again_is : again ≡ filter p queue
  pub together : length again + length kept ≡ length queue

pub parted : (p : ℕ → Bool) (queue kept again : List ℕ) (i : ℕ) → length queue ≤ i → kept ≡ filter (λ k. not (p k)) (take i queue)
    → again ≡ filter p (take i queue) → Parted p queue kept again
parted p queue kept again i past kept_is again_is =
    rw (kept_is, again_is, take_all i queue past)
    (record { kept_is = refl; again_is = refl; together = length-filter_both p (λ k. not (p k)) (λ _. refl) queue })
