-- Sums over the registered orders.
use Rattle.std.proofs.Common.{ℕ, ◌^◌, ◌<◌, ◌≤◌, Bool, true, false, cond, List, length, sum_by, arith}
use Rattle.std.specs.List.{All}
use Rattle.std.proofs.lemmas.List.Elements.{All-from_get_or}
use Rattle.std.proofs.lemmas.List.Sums.{sum_by-le, sum_by-le-sum_by}
use Rattle.orders.specs.declared.kinds.Order.{Order}
use Rattle.orders.specs.declared.kinds.Terms.{Terms}
use Rattle.model.specs.Market.{none, order_at, lots_of, meets, offered}
use Rattle.desk.specs.Kept.{KeptOrders}

-- no order has more than 1,000,000 lots
pub lots_few : (orders : List Order) → KeptOrders orders → (k : ℕ) → k < length orders → lots_of (order_at orders k) ≤ 1000000
lots_few orders kept k inside = let o = kept.sound k inside in omega arith

pub all_few : (orders : List Order) → KeptOrders orders → All (λ o. lots_of o ≤ 1000000) orders
all_few orders kept = All-from_get_or (λ o. lots_of o ≤ 1000000) orders none (lots_few orders kept)

-- nor do all of them together pass what 32 bits hold, if each counts for no more than its lots
pub sum_few : (f : Order → ℕ) → ((o : Order) → f o ≤ lots_of o) → (orders : List Order) → KeptOrders orders → sum_by f orders ≤ 128000000
sum_few f within orders kept =
    let few : length orders ≤ 128 = kept.few in
    omega (arith, sum_by-le-sum_by f lots_of orders within, sum_by-le lots_of 1000000 orders (all_few orders kept))

cond_within : (b : Bool) (n : ℕ) → cond b n 0 ≤ n
cond_within true n = omega arith
cond_within false n = omega arith

pub offered_few : (e : Terms) (orders : List Order) → KeptOrders orders → sum_by (offered e) orders < 2 ^ 32
offered_few e orders kept = let few = sum_few (offered e) (λ o. cond_within (meets e o) (lots_of o)) orders kept in omega (arith, few)
