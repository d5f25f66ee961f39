-- The parts of a make-up by name: the base's limit or pots, and the caps by layer.
use Rattle.std.specs.Prelude.{ℕ, zero, suc, ◌+◌, cond, Some, None, Ok, Err, Option, Result, ◌==◌}
use Rattle.clearing.specs.Book.{empty, settable, limited}
use Rattle.clearing.specs.Pots.{empty_pots, pots_settable, pots_set}
use Rattle.clearing.specs.Makeup.{Makeup, plain, pots, capped}
use Rattle.clearing.specs.Refused.{number_of, refused_unless}
use Rattle.pile.specs.declared.base.BaseKind.{BaseKind}
use Rattle.pile.specs.declared.base.BaseKind.TheVariants as kind
use Rattle.pile.specs.declared.set_error.SetError.{SetError}
use Rattle.pile.specs.declared.set_error.SetError.TheVariants.{Refused, NoSuchPart}

-- what a setter tells: done, refused with a number, or no such part
pub data Told : Type 0 where
  done : Told
  refused : ℕ → Told
  no_such_part : Told

-- what an answer tells
abbrev pub told_by : Result (Unit {0}) SetError → Told
told_by (Ok _) = done
told_by (Err (Refused refusal)) = refused (number_of refusal)
told_by (Err NoSuchPart) = no_such_part

-- done, unless there is a number to refuse with
abbrev pub told : Option ℕ → Told
told None = done
told (Some number) = refused number

-- the base of a kind with every figure 0
abbrev pub empty_base : BaseKind → Makeup
empty_base kind.Sheet = plain empty
empty_base kind.Pots = pots empty_pots

-- n caps, every cap and count 0, on a base
abbrev pub stacked : ℕ → Makeup → Makeup
stacked zero base = base
stacked (suc n) base = capped empty (stacked n base)

-- how many caps lie on the base
abbrev pub caps : Makeup → ℕ
caps (plain b) = 0
caps (pots t) = 0
caps (capped own below) = caps below + 1

-- what participant p's money and securities pots have left, where there are pots
abbrev pub left_in : Makeup → ℕ → Option (ℕ × ℕ)
left_in (plain b) p = None
left_in (pots t) p = Some (t.money.free p, t.securities.free p)
left_in (capped own below) p = left_in below p

-- what setting participant p's limit tells
abbrev pub limit_told : Makeup → ℕ → ℕ → Told
limit_told (plain b) p x = told (refused_unless (settable b p x))
limit_told (pots t) p x = no_such_part
limit_told (capped own below) p x = limit_told below p x

-- the make-up after participant p's limit was to be x
abbrev pub limit_set : Makeup → ℕ → ℕ → Makeup
limit_set (plain b) p x = plain (limited b p x)
limit_set (pots t) p x = pots t
limit_set (capped own below) p x = capped own (limit_set below p x)

-- what setting participant p's pots tells
abbrev pub pots_told : Makeup → ℕ → ℕ → ℕ → Told
pots_told (plain b) p m s = no_such_part
pots_told (pots t) p m s = told (refused_unless (pots_settable t p m s))
pots_told (capped own below) p m s = pots_told below p m s

-- the make-up after participant p's pots were to be m and s
abbrev pub pots_put : Makeup → ℕ → ℕ → ℕ → Makeup
pots_put (plain b) p m s = plain b
pots_put (pots t) p m s = pots (pots_set t p m s)
pots_put (capped own below) p m s = capped own (pots_put below p m s)

-- what setting participant p's cap in a layer tells; layer 1 is next to the base
abbrev pub cap_told : Makeup → ℕ → ℕ → ℕ → Told
cap_told (plain b) layer p x = no_such_part
cap_told (pots t) layer p x = no_such_part
cap_told (capped own below) layer p x =
    cond (layer == caps below + 1) (told (refused_unless (settable own p x))) (cap_told below layer p x)

-- the make-up after participant p's cap in a layer was to be x
abbrev pub cap_set : Makeup → ℕ → ℕ → ℕ → Makeup
cap_set (plain b) layer p x = plain b
cap_set (pots t) layer p x = pots t
cap_set (capped own below) layer p x =
    cond (layer == caps below + 1) (capped (limited own p x) below) (capped own (cap_set below layer p x))
