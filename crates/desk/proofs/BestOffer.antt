-- The best rate, rate by rate.
use Rattle.std.proofs.Common.{None, Option, subst, ◌≡◌, ℕ, List, [], ◌∷◌, map, Some, fold, filter, sym, refl, ap, ◌∙◌, arith}
use denote.Param.Members.{Mut}
use Rattle.std.specs.Fn.{Called}
use Rattle.std.specs.Iterator.{FoldTurn, ReducesItems}
use Rattle.std.specs.List.{FoldsTo, reduce}
use Rattle.std.specs.Option.{option_map}
use Rattle.std.proofs.iter.Yields.{gives_Drains}
use Rattle.std.proofs.lemmas.Iterator.{YieldsList}
use Rattle.std.proofs.lemmas.Bool.Decides.{nat_tests}
use Rattle.orders.specs.declared.kinds.Direction.{Direction}
use Rattle.orders.specs.declared.kinds.Direction.TheVariants.{Deposit, Repo}
use Rattle.orders.specs.declared.kinds.Order.{Order}
use Rattle.orders.specs.declared.kinds.Terms.{Terms}
use Rattle.orders.specs.declared.settings.Settings.{Settings}
use Rattle.model.specs.Market.{order_at, meets, offers, resting_rate, rates_at, better, best}
use Rattle.desk.specs.Matching.{best_of, market_of}

-- `reduce` by a closure that computes h of what v reads
module _ {A F : Type 0} (g : Mut F (A × (A × Unit {0})) A) (v : A → ℕ) (h : ℕ → ℕ → ℕ) (f : F)
    (each : (a x r : A) (q : F) → Called g f (a, (x, tt)) r q → (q ≡ f) × (v r ≡ h (v a) (v x))) where
  turns : (xs : List A) (p q : F × A) → p.0 ≡ f → FoldsTo {P = F × A} (FoldTurn g) p xs q → v q.1 ≡ fold h (v p.1) (map v xs)
  turns [] p q at c = ap (λ w. v w.1) (sym c)
  turns (x ∷ xs) p q at c =
      let m = each p.1 x c.0.1 c.0.0 (subst (λ w. Called g w (p.1, (x, tt)) c.0.1 c.0.0) at c.1) in
      turns xs c.0 q m.0 c.2 ∙ ap (λ b. fold h b (map v xs)) m.1

  pub reduce_called : {S : Type 0} {steps : S → Option A → S → Type 0} {all : List ℕ} (s : S) (r : Option A) → ReducesItems steps g s f r
      → YieldsList steps v s all → option_map v r ≡ reduce h all
  reduce_called {steps = steps} {all} s None c e = ap (reduce h) (gives_Drains steps v [] all s e.runs c)
  reduce_called {steps = steps} {all} s (Some y) c e =
      ap Some (turns c.1 (f, c.0) (c.2, y) refl c.4) ∙ ap (reduce h) (gives_Drains steps v (c.0 ∷ c.1) all s e.runs c.3)

better_assoc : (d : Direction) (a b c : ℕ) → better d a (better d b c) ≡ better d (better d a b) c
better_assoc Deposit a b c = omega arith
better_assoc Repo a b c = omega arith

best_two : (d : Direction) (a b : ℕ) (rates : List ℕ) → best d (better d a b ∷ rates) ≡ best d (a ∷ b ∷ rates)
unfolding best
best_two d a b [] = refl
best_two d a b (c ∷ rates) = sym (better_assoc d a b (best d (c ∷ rates)))

-- the best of some rates, one after another
folded : (d : Direction) (a : ℕ) (rates : List ℕ) → fold (better d) a rates ≡ best d (a ∷ rates)
unfolding best
folded d a [] = refl
folded d a (b ∷ rates) = folded d (better d a b) rates ∙ best_two d a b rates

reduced : (d : Direction) (rates : List ℕ) → reduce (better d) rates ≡ best_of d rates
reduced d [] = refl
reduced d (r ∷ rates) = ap Some (folded d r rates)

-- the rates of the orders that may be met
met_rates : (s : Settings) (e : Terms) (orders : List Order) (queue : List ℕ)
    → map (resting_rate s) (filter (meets e) (map (order_at orders) queue)) ≡ rates_at s orders (filter (λ k. meets e (order_at orders k)) queue)
met_rates s e orders [] = refl
met_rates s e orders (k ∷ ks) =
    let rest : map (resting_rate s) (filter (meets e) (map (order_at orders) ks)) ≡ rates_at s orders (filter (λ j. meets e (order_at orders j)) ks) = met_rates s e orders ks in
    grind (arith, nat_tests)

pub best_met : (s : Settings) (e : Terms) (orders : List Order) (queue : List ℕ)
    → reduce (better e.direction) (map (resting_rate s) (filter (meets e) (map (order_at orders) queue)))
    ≡ best_of e.direction (rates_at s orders (offers e (market_of orders queue [])))
unfolding offers
best_met s e orders queue = ap (reduce (better e.direction)) (met_rates s e orders queue) ∙ reduced e.direction (rates_at s orders (filter (λ k. meets e (order_at orders k)) queue))
