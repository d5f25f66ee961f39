-- One element for each participant: the same for all, or one of them replaced.
use Rattle.std.proofs.Common.{◌≡◌, ℕ, ◌+◌, ◌-◌, ◌≤◌, Bool, true, false, cond, eqb, ltb, get_or, replicate, refl, ap, sym, ◌∙◌, arith, rules}
use Rattle.std.proofs.lemmas.Bool.{ltb-true, eqb-true}
use Rattle.std.proofs.lemmas.List.{get_or-replicate}
use Rattle.clearing.specs.Accounts.{alike, book_of}
use Rattle.clearing.specs.Book.{put, with_free, can_reserve, reserved, can_release, released}
use Rattle.clearing.specs.Seats.{seat, seated}
use Rattle.clearing.proofs.Choices.{ap_cond}

module _ {X : Type 0} where
  same_in : (n : ℕ) → n ≡ 64 → (none x : X) (p : ℕ) (b : Bool) → ltb p 64 ≡ b → cond b (get_or (replicate n x) p none) none ≡ cond b x none
  same_in n all none x p true e = get_or-replicate n p x none (omega (arith, ltb-true p 64 e))
  same_in n all none x p false e = refl

  -- x in every seat
  pub seat-replicate : (n : ℕ) → n ≡ 64 → (none x : X) → seat none (replicate n x) ≡ alike none x
  seat-replicate n all none x = λ i p. same_in n all none x p (ltb p 64) refl i

  same_figure : (figure : X → ℕ) (f : ℕ → X) (p q n : ℕ) → figure (f p) ≡ n → (b : Bool) → eqb q p ≡ b → cond b n (figure (f q)) ≡ figure (f q)
  same_figure figure f p q n e true is = sym e ∙ ap (λ k. figure (f k)) (sym (eqb-true q p is))
  same_figure figure f p q n e false is = refl

  module _ (free held : X → ℕ) (f : ℕ → X) (p : ℕ) (x : X) where
    -- the book after participant p's element was replaced by one with m free and n held
    pub book_of-seated : (m n : ℕ) → free x ≡ m → held x ≡ n → book_of free held (seated f p x) ≡ record { free = put (λ q. free (f q)) p m; held = put (λ q. held (f q)) p n }
    book_of-seated m n is_free is_held =
        λ i. record {
          free = λ q. ap_cond free x (f q) m (eqb q p) (λ _. is_free) i;
          held = λ q. ap_cond held x (f q) n (eqb q p) (λ _. is_held) i;
        }

    -- the book after an element with nothing held was replaced by one with m free and nothing held
    pub book_of-opened : (m : ℕ) → free x ≡ m → held x ≡ 0 → held (f p) ≡ 0 → book_of free held (seated f p x) ≡ with_free (book_of free held f) p m
    book_of-opened m is_free is_held was_held =
        book_of-seated m 0 is_free is_held
        ∙ (λ i. record {
          free = put (λ q. free (f q)) p m;
          held = λ q. same_figure held f p q 0 was_held (eqb q p) refl i;
        })

    module _ (n : ℕ) (sits : p ≤ 63) where
      -- the book after n lots that were free are held
      pub book_of-reserved : n ≤ free (f p) → free x ≡ free (f p) - n → held x ≡ held (f p) + n → book_of free held (seated f p x) ≡ reserved (book_of free held f) p n
      book_of-reserved enough is_free is_held =
          let can : can_reserve (book_of free held f) p n ≡ true = search rules in
          rw can (book_of-seated _ _ is_free is_held)

      -- the book after n lots that were held are free
      pub book_of-released : n ≤ held (f p) → free x ≡ free (f p) + n → held x ≡ held (f p) - n → book_of free held (seated f p x) ≡ released (book_of free held f) p n
      book_of-released enough is_free is_held =
          let can : can_release (book_of free held f) p n ≡ true = search rules in
          rw can (book_of-seated _ _ is_free is_held)
