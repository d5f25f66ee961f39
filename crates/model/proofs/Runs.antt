-- Lists of calls that go on call by call obey the law.
use Rattle.std.proofs.Common.{◌≡◌, ℕ, ◌≤◌, List, [], ◌∷◌, ◌++◌, length, refl, ap, ◌∙◌, subst}
use Rattle.std.specs.List.{AllByRecursion}
use Rattle.std.proofs.ByRecursion.{All-push}
use Rattle.clearing.specs.Book.{Book}
use Rattle.orders.specs.Answers.{Answer}
use Rattle.orders.specs.declared.kinds.Row.{Row}
use Rattle.orders.specs.declared.kinds.Terms.{Terms}
use Rattle.orders.specs.declared.settings.Settings.{Settings}
use Rattle.model.specs.Calls.{Call, place, withdraw, clock, LawfulRule, LawfulCall, step, after, opening}
use Rattle.model.specs.Clock.{clocking}
use Rattle.model.specs.Close.{closing}
use Rattle.model.specs.CloseLaw.{Closed, States}
use Rattle.model.specs.Days.{World, Outcome}
use Rattle.model.specs.Place.{placing}
use Rattle.model.specs.Rounds.{Rule}
use Rattle.model.specs.Runs.{answers_of, Extends, Closes}
use Rattle.model.specs.Withdraw.{withdrawing}
use Rattle.model.proofs.Handed.{place_whole, clock_whole, place_other, clock_other}
use Rattle.model.proofs.Laws.{every_list}

-- the world after a list and then another
pub after_append : (calls more : List Call) (w : World) → after (calls ++ more) w ≡ after more (after calls w)
after_append [] more w = refl
after_append (c ∷ cs) more w = after_append cs more (step c w).world

-- and their answers
pub answers_append : (calls more : List Call) (w : World) → answers_of (calls ++ more) w ≡ answers_of calls w ++ answers_of more (after calls w)
answers_append [] more w = refl
answers_append (c ∷ cs) more w = ap (λ (answers : List Answer). (step c w).answer ∷ answers) (answers_append cs more (step c w).world)

-- no call leaves a newly opened day as it is
pub opened_list : (s : Settings) (register : List Row) (cover : Book) → after [] (opening s register cover) ≡ opening s register cover
opened_list s register cover = refl

-- a lawful call, over each list that made the world before
extends : (c : Call) (before next : World) → LawfulCall c → (step c before).world ≡ next → Extends c before next
extends c before next lawful is s register cover calls all made =
    let start : World = opening s register cover in
    let lawfuls : AllByRecursion LawfulCall (calls ++ (c ∷ [])) = All-push LawfulCall calls c all lawful in (
      every_list s register cover (calls ++ (c ∷ [])) lawfuls,
      lawfuls,
      after_append calls (c ∷ []) start ∙ ap (λ (w : World). (step c w).world) made ∙ is,
    )

pub extends_place : (rule : Rule) → LawfulRule rule → (p : ℕ) (e : Terms) (w : World) → Extends (place rule (length w.register) p e) w (placing rule p e w).world
extends_place rule lawful p e w =
    extends (place rule (length w.register) p e) w (placing rule p e w).world lawful (ap (λ (o : Outcome). o.world) (place_whole rule p e w))

pub extends_withdraw : (n p : ℕ) (w : World) → Extends (withdraw n p) w (withdrawing n p w).world
extends_withdraw n p w = extends (withdraw n p) w (withdrawing n p w).world tt refl

pub extends_clock : (rule : Rule) → LawfulRule rule → (time : ℕ) (w : World) → Extends (clock rule (length w.register) time) w (clocking rule time w).world
extends_clock rule lawful time w =
    extends (clock rule (length w.register) time) w (clocking rule time w).world lawful (ap (λ (o : Outcome). o.world) (clock_whole rule time w))

-- calls that are handed another number of the register's first rows than the settings say
pub extends_place_other : (rule : Rule) → LawfulRule rule → (rows p : ℕ) (e : Terms) (w : World) → rows ≤ length w.register → (rows ≡ w.day.settings.rows → ⊥) → Extends (place rule rows p e) w w
extends_place_other rule lawful rows p e w fits other =
    extends (place rule rows p e) w w lawful (ap (λ (o : Outcome). o.world) (place_other rule rows p e w fits other))

pub extends_clock_other : (rule : Rule) → LawfulRule rule → (rows time : ℕ) (w : World) → rows ≤ length w.register → (rows ≡ w.day.settings.rows → ⊥) → Extends (clock rule rows time) w w
extends_clock_other rule lawful rows time w fits other =
    extends (clock rule rows time) w w lawful (ap (λ (o : Outcome). o.world) (clock_other rule rows time w fits other))

pub closes : (w : World) → Closes w (closing w)
closes w s register cover calls all made =
    let law = every_list s register cover calls all in (
      law,
      subst (λ (x : World). Closed x (closing x)) made law.closed,
      subst (λ (x : World). States calls (opening s register cover) x (closing x)) made law.stated,
    )
