-- What each command answers, and what the clearing is made of after it.
use Rattle.std.specs.Prelude.{◌≡◌, ℕ, ◌-◌, Bool, false, cond, ◌&&◌, List, length, Some, None, Ok, Err, vec_items, Option, Result, ◌≢◌, nat_le}
use Rattle.sharing.specs.Request.{Lawful}
use Rattle.sharing.specs.Chosen.{chosen_shares}
use Rattle.sharing.specs.declared.chosen.Rule.{Rule}
use Rattle.clearing.specs.Book.{can_reserve, can_release}
use Rattle.clearing.specs.Makeup.{Makeup, shown, reserved_in, released_in}
use Rattle.pile.specs.Parts.{empty_base, stacked, left_in, limit_told, limit_set, pots_told, pots_put, cap_told, cap_set}
use Rattle.script.specs.declared.command.Command.{Command}
use Rattle.script.specs.declared.command.Command.TheVariants as command
use Rattle.script.specs.declared.answer.Reason.{Reason}
use Rattle.script.specs.declared.answer.Reason.TheVariants.{TooManyCaps, NoLimits, NoPots, NoLayer, NoOrder}
use Rattle.session.specs.Replies.{Reply, clearing_ready, cover, cover_all, need, left, verdict, shares, set_said}
use Rattle.session.specs.Totals.{total_below}
use Rattle.orders.specs.Visible.{visible_sum}

-- an order has 1 to 1,000,000 lots and shows 0 to 100 percent
abbrev pub is_order : ℕ → ℕ → Bool
is_order sum percent = nat_le 1 sum && nat_le sum 1000000 && nat_le percent 100

-- what the two pots have left, where there are pots
abbrev pub left_said : ℕ → Option (ℕ × ℕ) → Result Reply Reason
left_said p None = Err NoPots
left_said p (Some (money, securities)) = Ok (left p money securities)

-- a rule asked for the shares of q lots, with a share array of n numbers: its shares where that is lawful, else no
pub record Shared (rule : Rule) (sums : List ℕ) (q n : ℕ) (reply : Reply) : Type 0 where
  pub lawful : Lawful sums q → n ≡ length sums → reply ≡ shares (chosen_shares rule sums q)
  pub unlawful : (Lawful sums q → n ≢ length sums) → reply ≡ verdict false

-- r is the answer to a command over a clearing made of m, or the reason that m rules the command out
abbrev pub Answers : Makeup → Command → Result Reply Reason → Type 0
Answers m (command.Clearing base caps) r = r ≡ cond (nat_le caps 2) (Ok clearing_ready) (Err TooManyCaps)
Answers m (command.Limit p x) r = r ≡ set_said (limit_told m p x) NoLimits
Answers m (command.Pots p money securities) r = r ≡ set_said (pots_told m p money securities) NoPots
Answers m (command.Cap layer p x) r = r ≡ set_said (cap_told m layer p x) NoLayer
Answers m command.CoverAll r = r ≡ Ok (cover_all (total_below 64 (shown m).free) (total_below 64 (shown m).held))
Answers m (command.Cover p) r = r ≡ Ok (cover p ((shown m).free p) ((shown m).held p))
Answers m (command.Need p sum percent) r =
    r ≡ cond (is_order sum percent)
    (Ok (need p (visible_sum sum percent) (sum - visible_sum sum percent) (can_reserve (shown m) p sum)))
    (Err NoOrder)
Answers m (command.Left p) r = r ≡ left_said p (left_in m p)
Answers m (command.Reserve p n) r = r ≡ Ok (verdict (can_reserve (shown m) p n))
Answers m (command.Release p n) r = r ≡ Ok (verdict (can_release (shown m) p n))
Answers m (command.Share rule q n sums) r = (reply : Reply) × (r ≡ Ok reply) × Shared rule (vec_items sums) q n reply

-- what the clearing is made of after a command; a command that asks or is ruled out changes nothing
abbrev pub after : Makeup → Command → Makeup
after m (command.Clearing base caps) = cond (nat_le caps 2) (stacked caps (empty_base base)) m
after m (command.Limit p x) = limit_set m p x
after m (command.Pots p money securities) = pots_put m p money securities
after m (command.Cap layer p x) = cap_set m layer p x
after m command.CoverAll = m
after m (command.Cover p) = m
after m (command.Need p sum percent) = cond (is_order sum percent) (reserved_in m p sum) m
after m (command.Left p) = m
after m (command.Reserve p n) = reserved_in m p n
after m (command.Release p n) = released_in m p n
after m (command.Share rule q n sums) = m

-- a command that asks for shares needs memory for them, and no other does
abbrev pub NeedsMemory : Command → Type 0
NeedsMemory (command.Clearing base caps) = ⊥
NeedsMemory (command.Limit p x) = ⊥
NeedsMemory (command.Pots p money securities) = ⊥
NeedsMemory (command.Cap layer p x) = ⊥
NeedsMemory command.CoverAll = ⊥
NeedsMemory (command.Cover p) = ⊥
NeedsMemory (command.Need p sum percent) = ⊥
NeedsMemory (command.Left p) = ⊥
NeedsMemory (command.Reserve p n) = ⊥
NeedsMemory (command.Release p n) = ⊥
NeedsMemory (command.Share rule q n sums) = Unit {0}
