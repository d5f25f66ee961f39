-- The worked figures, by computing.
use Rattle.std.proofs.Common.{refl}
use lib.Count.{ones}
use Rattle.orders.specs.declared.kinds.Direction.{Direction}
use Rattle.orders.specs.declared.kinds.Direction.TheVariants.{Deposit, Repo}
use Rattle.sharing.specs.Theorems as sharing
use Rattle.model.specs.Clock.{put_due, due_from, activated_failing, activated_meeting, activated, activations, clocked, clocking}
use Rattle.model.specs.Figures.{Entering, Figures}
use Rattle.model.specs.Market.{admissible_lots, offers, best, front}
use Rattle.model.specs.Place.{placed_waiting, placed_meeting, placed, placing}
use Rattle.model.specs.Rounds.{share_at, each_from, after_round, round_lots, round, rounds, meeting}
use Rattle.model.specs.Rows.{add_row, add_rows}
use Rattle.model.specs.Withdraw.{withdrawn, withdrawing}

entering : (d : Direction) → Entering d
unfolding ones put_due due_from activated_failing activated_meeting activated activations clocked clocking admissible_lots offers best front placed_waiting placed_meeting placed placing share_at each_from after_round round_lots round rounds meeting add_row add_rows withdrawn withdrawing
entering Deposit = record {
  sixty = refl;
  fills_130 = refl;
  refuses_131 = refl;
  shows_5 = refl;
  refuses_4 = refl;
  market_rate = refl;
  goes_behind = refl;
  list_order = refl;
  refills_in_turn = refl;
  rests_70 = refl;
  rests_10 = refl;
  pro_rata_24 = refl;
  withdrawn_80 = refl;
}
entering Repo = record {
  sixty = refl;
  fills_130 = refl;
  refuses_131 = refl;
  shows_5 = refl;
  refuses_4 = refl;
  market_rate = refl;
  goes_behind = refl;
  list_order = refl;
  refills_in_turn = refl;
  rests_70 = refl;
  rests_10 = refl;
  pro_rata_24 = refl;
  withdrawn_80 = refl;
}

pub figures : sharing.Figures → Figures
unfolding ones put_due due_from activated_failing activated_meeting activated activations clocked clocking admissible_lots offers best front placed_waiting placed_meeting placed placing share_at each_from after_round round_lots round rounds meeting add_row add_rows withdrawn withdrawing
figures shared = record {
  sharing = shared;
  entering = entering;
  remainder_deposit = refl;
  remainder_repo = refl;
  auction_early = refl;
  auction_50 = refl;
  auction_61 = refl;
  auction_two = refl;
  best_deposit = refl;
  best_repo = refl;
}
