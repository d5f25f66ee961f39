-- The register that a call is handed, and a call that is handed one of another length than the settings say.
use Rattle.std.proofs.Common.{◌≡◌, ℕ, ◌≤◌, List, ◌++◌, length, refl, ap, ◌∙◌, arith, lit<}
use Rattle.std.proofs.lemmas.List.{length-take-le, append-nil, take_all, take-append-drop, drop_all}
use Rattle.std.proofs.lemmas.Bool.{ne_eqb, not_from_false}
use Rattle.orders.specs.Answers.{refused_for}
use Rattle.orders.specs.declared.kinds.Row.{Row}
use Rattle.orders.specs.declared.kinds.Terms.{Terms}
use Rattle.orders.specs.declared.refusals.Refusal.TheVariants as refused
use Rattle.model.specs.Calls.{place, clock, handed, given_back, step}
use Rattle.model.specs.Clock.{clock_table, clocking}
use Rattle.model.specs.Days.{World, Outcome, judged}
use Rattle.model.specs.Place.{place_table, placing}
use Rattle.model.specs.Rounds.{Rule}
use Rattle.model.proofs.Tables.{first_at}

-- a whole register
handed_whole : (w : World) → handed (length w.register) w ≡ w
handed_whole w =
    ap (λ (rows : List Row). record { day = w.day; register = rows; cover = w.cover }) (take_all (length w.register) w.register (omega arith))

given_whole : (w : World) (o : Outcome) → given_back (length w.register) w o ≡ o
given_whole w o =
    ap (λ (rows : List Row). record { answer = o.answer; world = record { day = o.world.day; register = rows; cover = o.world.cover } })
    (ap (λ (rows : List Row). o.world.register ++ rows) (drop_all (length w.register) w.register (omega arith)) ∙ append-nil o.world.register)

pub place_whole : (rule : Rule) (p : ℕ) (e : Terms) (w : World) → step (place rule (length w.register) p e) w ≡ placing rule p e w
place_whole rule p e w = given_whole w (placing rule p e (handed (length w.register) w)) ∙ ap (placing rule p e) (handed_whole w)

pub clock_whole : (rule : Rule) (time : ℕ) (w : World) → step (clock rule (length w.register) time) w ≡ clocking rule time w
clock_whole rule time w = given_whole w (clocking rule time (handed (length w.register) w)) ∙ ap (clocking rule time) (handed_whole w)

-- a refusal for the register's length, which changes nothing
abbrev pub refused_length : World → Outcome
refused_length w = record { answer = refused_for refused.RegisterLength; world = w }

-- what is given back as it was handed
given_same : (r : ℕ) (w : World) → given_back r w (record { answer = refused_for refused.RegisterLength; world = handed r w }) ≡ refused_length w
given_same r w =
    ap (λ (rows : List Row). record { answer = refused_for refused.RegisterLength; world = record { day = w.day; register = rows; cover = w.cover } })
    (take-append-drop r w.register)

-- the first test of place and clock
pub placing_length : (rule : Rule) (p : ℕ) (e : Terms) (w : World) → (length w.register ≡ w.day.settings.rows → ⊥) → placing rule p e w ≡ refused_length w
unfolding placing
placing_length rule p e w other =
    rw (first_at (place_table w p e) 0 (lit< tt) (λ j below. absurd (omega arith)) (not_from_false _ (ne_eqb (length w.register) w.day.settings.rows other)), judged) refl

pub clocking_length : (rule : Rule) (time : ℕ) (w : World) → (length w.register ≡ w.day.settings.rows → ⊥) → clocking rule time w ≡ refused_length w
unfolding clocking
clocking_length rule time w other =
    rw (first_at (clock_table w time) 0 (lit< tt) (λ j below. absurd (omega arith)) (not_from_false _ (ne_eqb (length w.register) w.day.settings.rows other)), judged) refl

-- a call that is handed another number of the first rows than the settings say is refused, and all is as it was
pub place_other : (rule : Rule) (r p : ℕ) (e : Terms) (w : World) → r ≤ length w.register → (r ≡ w.day.settings.rows → ⊥) → step (place rule r p e) w ≡ refused_length w
place_other rule r p e w fits other =
    ap (given_back r w) (placing_length rule p e (handed r w) (λ same. other (omega (arith, length-take-le r w.register fits)))) ∙ given_same r w

pub clock_other : (rule : Rule) (r time : ℕ) (w : World) → r ≤ length w.register → (r ≡ w.day.settings.rows → ⊥) → step (clock rule r time) w ≡ refused_length w
clock_other rule r time w fits other =
    ap (given_back r w) (clocking_length rule time (handed r w) (λ same. other (omega (arith, length-take-le r w.register fits)))) ∙ given_same r w
