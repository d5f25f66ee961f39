-- Orders that get their shares, one by one.
use Rattle.std.proofs.Common.{◌≡◌, ℕ, ◌+◌, ◌<◌, List, length, set, sym, ◌∙◌, zero-add, arith}
use borrow.Author.Count.{below_more}
use Rattle.std.proofs.lemmas.List.{ext_get_or, get_or-set_other, get_or-set_same}
use Rattle.orders.specs.declared.kinds.Order.{Order}
use Rattle.model.specs.Market.{none, order_at}
use Rattle.model.specs.Rounds.{each_from}
use Rattle.model.proofs.Places.{each_at, each_length}

-- one more order is changed
pub changed_more : (f : ℕ → Order → Order) (before orders : List Order) (i : ℕ) (o : Order) → i < length orders
    → ((k : ℕ) → k < i → order_at orders k ≡ f k (order_at before k)) → o ≡ f i (order_at before i)
    → (k : ℕ) → k < i + 1 → order_at (set orders i o) k ≡ f k (order_at before k)
changed_more f before orders i o inside done is =
    below_more (λ k. order_at (set orders i o) k ≡ f k (order_at before k)) i
    (λ k below. get_or-set_other orders i k o none (omega arith) ∙ done k below)
    (get_or-set_same orders i o none inside ∙ is)

-- all are
pub each_changed : (f : ℕ → Order → Order) (before orders : List Order) → length orders ≡ length before
    → ((k : ℕ) → k < length before → order_at orders k ≡ f k (order_at before k)) → orders ≡ each_from f 0 before
each_changed f before orders long each =
    ext_get_or none orders (each_from f 0 before) (long ∙ sym (each_length f 0 before))
    (λ k inside. each k (omega arith) ∙ sym (rw zero-add at (each_at f 0 before k (omega arith))))
