-- The visible sum is the percent of the sum, rounded up.
use Rattle.std.proofs.Common.{◌≡◌, ℕ, ◌+◌, ◌*◌, ◌<◌, ◌≤◌, mul-le-mul_left, arith, lit<}
use native.Mathlib.Nat.{mul-div-le, lt-mul-div-succ}
use Rattle.std.proofs.lemmas.Bool.Decides.{nat_tests}
use Rattle.orders.specs.Theorems.{RoundedUp, VisibleBounds}
use Rattle.orders.specs.Visible.{share_of, visible_sum}

-- the share with the quotient named
rounded : (sum percent v : ℕ) → 1 ≤ sum → 1 ≤ percent → percent ≤ 100 → 100 * v ≤ sum * percent + 99
    → sum * percent + 99 < 100 * (v + 1) → RoundedUp sum percent v
rounded sum percent v some least most low high =
    let over : sum * percent ≤ sum * 100 = mul-le-mul_left sum most in
    let under : sum * 1 ≤ sum * percent = mul-le-mul_left sum least in
    record { some = omega arith; within = omega arith; enough = omega arith; least = omega arith }

pub visible_bounds : VisibleBounds
visible_bounds sum percent some least most =
    let bounds : RoundedUp sum percent (share_of sum percent) =
    rounded sum percent (share_of sum percent) some least most (mul-div-le (sum * percent + 99) 100)
    (lt-mul-div-succ (sum * percent + 99) (lit< tt)) in
    let is : visible_sum sum percent ≡ share_of sum percent = grind (arith, nat_tests) in
    rw is bounds
