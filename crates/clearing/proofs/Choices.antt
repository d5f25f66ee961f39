-- A function of one of two values that a test chooses.
use Rattle.std.proofs.Common.{◌≡◌, Bool, true, false, cond, ◌&&◌, refl, sym, subst}

module _ {X Y : Type 0} (g : X → Y) (x y : X) (u : Y) where
  -- u is what the function makes of the first, where the test holds
  pub ap_cond : (b : Bool) → (b ≡ true → g x ≡ u) → g (cond b x y) ≡ cond b u (g y)
  ap_cond true e = e refl
  ap_cond false e = refl

  -- the same where the test leaves out what is known to fit
  pub ap_cond-fits : (s fits h : Bool) → fits ≡ true → (h ≡ true → g x ≡ u) → g (cond (s && h) x y) ≡ cond (s && fits && h) u (g y)
  ap_cond-fits true fits h t e = subst (λ b. g (cond h x y) ≡ cond (b && h) u (g y)) (sym t) (ap_cond h e)
  ap_cond-fits false fits h t e = refl
