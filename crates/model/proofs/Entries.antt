-- The theorem of an entry.
use Rattle.std.proofs.Common.{◌≡◌, ℕ, ◌≤◌, min, inl, inr, arith}
use Rattle.std.proofs.lemmas.Bool.{cases_lt}
use Rattle.orders.specs.declared.kinds.Terms.{Terms}
use Rattle.model.specs.Choices.{Choice, Everything, taken}
use Rattle.model.specs.Market.{Market, order_at}
use Rattle.model.specs.Rounds.{Meeting, meeting}
use Rattle.model.proofs.AllRounds.{lots_with, Ended, met_out, reached_first, rounds_end}
use Rattle.model.proofs.Exchange.{exchange}
use Rattle.model.proofs.RowSums.{concluded_with_others, few_rows}
use Rattle.model.proofs.Sound.{Met, EntryTheorem}
use Rattle.model.proofs.Totals.{choice_le, everything_taken}

-- what rounds that have ended concluded
module _ (e : Terms) (n : ℕ) (m : Market) (met : Meeting) (ended : Ended e n m met) where
  chosen : Choice e m.orders (lots_with e n met.market)
  chosen = record {
    within = λ k _ _. omega (arith, (ended.reached.orders k).lots);
    others = λ k _ not. concluded_with_others e n m.orders met.market.rows k ended.reached.rows (λ _. not);
  }

  -- if some of the order is left, all that was admissible is concluded
  all_chosen : 1 ≤ met.left → Everything e m.orders (lots_with e n met.market)
  all_chosen some = record {
    all = λ k inside admissible.
        omega (
          arith,
          (ended.reached.orders k).lots,
          met_out e (lots_with e n met.market k) (order_at m.orders k) (order_at met.market.orders k)
              (ended.reached.orders k) admissible (ended.clear some k inside),
        );
    others = chosen.others;
  }

  lesser : (f : ℕ → ℕ) → Everything e m.orders f
      → taken m.orders (lots_with e n met.market) ≡ min e.sum (taken m.orders f)
  lesser f every =
      elim (cases_lt 0 met.left) [
        | inl some ↦
            omega (
              arith,
              ended.reached.whole,
              everything_taken e m.orders f every,
              everything_taken e m.orders (lots_with e n met.market) (all_chosen some),
            )
        | inr none ↦
            omega (
              arith,
              ended.reached.whole,
              everything_taken e m.orders f every,
              choice_le e m.orders (lots_with e n met.market) chosen,
            )
      ]

  ended_met : Met e n m met
  ended_met = record {
    enters = record {
      concludes = record {
        choice = chosen;
        lesser = lesser;
        best = exchange e.direction e m.orders (lots_with e n met.market) ended.reached.bar chosen ended.reached.threshold;
      };
      rows = ended.reached.rows;
      single = ended.reached.single;
      same = ended.reached.same;
      orders = λ k _. ended.reached.orders k;
      queue = ended.reached.queue;
    };
    left = ended.reached.whole;
    clear = ended.clear;
    sound = ended.reached.sound;
    few = few_rows e n m.orders met.market.rows ended.reached.rows ended.reached.single;
  }

pub entry : EntryTheorem
unfolding meeting
entry rule s e n m lawful sound fresh =
    ended_met e n m (meeting rule s e n m)
    (rounds_end e.sum rule s e n m e.sum m lawful (reached_first e n m sound fresh) (omega arith))
