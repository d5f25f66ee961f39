-- Worked figures of a day.
use Rattle.std.specs.Prelude.{◌≡◌, ℕ, suc, false, List, [], ◌∷◌, ◌++◌, map, replicate}
use Rattle.std.proofs.Common.{lit≤}
use Rattle.clearing.specs.Book.{Book}
use Rattle.orders.specs.Answers.{Answer, accepted}
use Rattle.orders.specs.declared.kinds.Direction.{Direction}
use Rattle.orders.specs.declared.kinds.Direction.TheVariants.{Deposit, Repo}
use Rattle.orders.specs.declared.kinds.Kind.TheVariants.{Limit, Market}
use Rattle.orders.specs.declared.kinds.Mode.{Mode}
use Rattle.orders.specs.declared.kinds.Mode.TheVariants.{Unaddressed, Auction}
use Rattle.orders.specs.declared.kinds.Order.{Order}
use Rattle.orders.specs.declared.kinds.Remainder.{Remainder}
use Rattle.orders.specs.declared.kinds.Remainder.TheVariants.{Queue, Withdraw, FillOrReject}
use Rattle.orders.specs.declared.kinds.Row.{Row}
use Rattle.orders.specs.declared.kinds.Terms.{Terms}
use Rattle.orders.specs.declared.settings.Settings.{Settings}
use Rattle.sharing.specs.Theorems as sharing
use Rattle.sharing.specs.ProRata.{pro_rata_shares}
use Rattle.sharing.specs.Time.{time_shares}
use Rattle.model.specs.Calls.{Call, place, withdraw, clock, step, after, opening}
use Rattle.model.specs.Days.{Outcome}
use Rattle.model.specs.Depth.{other}
use Rattle.model.specs.Ledger.{made}

-- percents from 10 to 50, a least sum of 5, a least iceberg sum of 20, and 8 register rows
abbrev pub settings : Mode → Settings
settings mode = record {
  mode = mode;
  least_percent = 10;
  greatest_percent = 50;
  least_sum = 5;
  least_iceberg_sum = 20;
  rows = 8;
  lawful = ((lit≤ tt, lit≤ tt, lit≤ tt), (lit≤ tt, lit≤ tt), (lit≤ tt, lit≤ tt), lit≤ tt);
}

-- a row with a deposit's and a repo order's number, a rate and lots
abbrev pub row : ℕ → ℕ → ℕ → ℕ → Row
row deposit repo rate lots = record { deposit = deposit; repo = repo; rate = record { hundredths = rate }; lots = lots }

-- the row of an order that entered in direction d with a resting one
abbrev pub row_of : Direction → ℕ → ℕ → ℕ → ℕ → Row
row_of Deposit newcomer resting rate lots = row newcomer resting rate lots
row_of Repo newcomer resting rate lots = row resting newcomer rate lots

-- each participant has a limit of 1,000 lots, all free
abbrev pub limits : Book
limits = record { free = λ _. 1000; held = λ _. 0 }

-- what is left of an order: visible, hidden and withdrawn lots
abbrev pub left : Order → ℕ × ℕ × ℕ
left o = (o.visible, o.hidden, o.withdrawn)

-- a day seen after its last call: the answer, the rows made, what is left of each order, the queue by numbers, and the lots held of participants 1 to 3
pub record Picture : Type 0 where
  pub answer : Answer
  pub rows : List Row
  pub lots : List (ℕ × ℕ × ℕ)
  pub queue : List ℕ
  pub held : List ℕ

-- what an outcome shows
abbrev pub shown : Outcome → Picture
shown o = record {
  answer = o.answer;
  rows = made o.world;
  lots = map left o.world.day.orders;
  queue = map suc o.world.day.queue;
  held = map o.world.cover.held (1 ∷ 2 ∷ 3 ∷ []);
}

-- what a last call leaves, after some calls on a newly opened day over an empty register
abbrev pub last : Mode → List Call → Call → Outcome
last mode calls call = step call (after calls (opening (settings mode) (replicate 8 (row 0 0 0 0)) limits))

-- a limit order's terms: direction, securities, remainder, sum, rate, percent, activation
abbrev pub limit_terms : Direction → ℕ → Remainder → ℕ → ℕ → ℕ → ℕ → Terms
limit_terms d securities remainder sum rate percent activation = record {
  direction = d;
  kind = Limit;
  securities = securities;
  remainder = remainder;
  code = record { m = 0; term = 0 };
  rate = record { hundredths = rate };
  sum = sum;
  percent = percent;
  return_mark = false;
  activation = activation;
}

-- participant p places a limit order of a sum at a rate, on security 0, under the time rule
abbrev pub limit : ℕ → Direction → Remainder → ℕ → ℕ → Call
limit p d remainder sum rate = place time_shares 8 p (limit_terms d 1 remainder sum rate 0 0)

-- the same order shows a percent of its sum and rests
abbrev pub iceberg : ℕ → Direction → ℕ → ℕ → ℕ → Call
iceberg p d sum rate percent = place time_shares 8 p (limit_terms d 1 Queue sum rate percent 0)

-- participant p places a market order of a sum
abbrev pub market : ℕ → Direction → ℕ → Call
market p d sum = place time_shares 8 p (record {
  direction = d;
  kind = Market;
  securities = 1;
  remainder = Withdraw;
  code = record { m = 0; term = 0 };
  rate = record { hundredths = 0 };
  sum = sum;
  percent = 0;
  return_mark = false;
  activation = 0;
})

-- an auction deposit of participant 3: all or nothing, at 1,500, on securities 3 and 5
abbrev pub waiting : ℕ → ℕ → Call
waiting sum activation = place time_shares 8 3 (limit_terms Deposit 40 FillOrReject sum 1500 0 activation)

-- resting orders for one of direction d: an iceberg of 100 that shows 20, and a plain order of n, both at 1,500
abbrev pub iceberg_and : ℕ → Direction → List Call
iceberg_and n d = iceberg 1 (other d) 100 1500 20 ∷ limit 2 (other d) Queue n 1500 ∷ []

-- resting icebergs for one of direction d: 100 showing 20 and 60 showing 30, both at 1,500, and 20 lots of the first concluded
abbrev pub two_icebergs : Direction → List Call
two_icebergs d = iceberg 1 (other d) 100 1500 20 ∷ iceberg 2 (other d) 60 1500 50 ∷ limit 3 d Withdraw 20 1500 ∷ []

-- auction repo orders: 30 at 1,500 on security 3, and 30 at 1,510 on security 5
abbrev pub auction_repos : List Call
auction_repos = place time_shares 8 1 (limit_terms Repo 8 Queue 30 1500 0 0) ∷ place time_shares 8 2 (limit_terms Repo 32 Queue 30 1510 0 0) ∷ []

-- figures of an order that enters in direction d, so that each also has its mirror
pub record Entering (d : Direction) : Type 0 where
  -- 60 lots take 30 of each, 10 of them from what the iceberg shows again: it keeps 10 visible and 60 hidden
  pub sixty : shown (last Unaddressed (iceberg_and 30 d) (limit 3 d Queue 60 1500)) ≡ record {
    answer = accepted (3 ∷ 60 ∷ []);
    rows = row_of d 3 1 1500 30 ∷ row_of d 3 2 1500 30 ∷ [];
    lots = (10, 60, 0) ∷ (0, 0, 0) ∷ (0, 0, 0) ∷ [];
    queue = 2 ∷ 1 ∷ 3 ∷ [];
    held = 100 ∷ 30 ∷ 60 ∷ [];
  }
  -- in its place, all or nothing passes at 130, hidden lots and all
  pub fills_130 : shown (last Unaddressed (iceberg_and 30 d) (limit 3 d FillOrReject 130 1500)) ≡ record {
    answer = accepted (3 ∷ 130 ∷ []);
    rows = row_of d 3 1 1500 100 ∷ row_of d 3 2 1500 30 ∷ [];
    lots = (0, 0, 0) ∷ (0, 0, 0) ∷ (0, 0, 0) ∷ [];
    queue = 2 ∷ 1 ∷ 3 ∷ [];
    held = 100 ∷ 30 ∷ 130 ∷ [];
  }
  -- and is refused with 13 at 131
  pub refuses_131 : (last Unaddressed (iceberg_and 30 d) (limit 3 d FillOrReject 131 1500)).answer.number ≡ 13
  -- 24 percent of 20 shows 5
  pub shows_5 : shown (last Unaddressed [] (iceberg 1 d 20 1500 24)) ≡ record {
    answer = accepted (1 ∷ 0 ∷ []);
    rows = [];
    lots = (5, 15, 0) ∷ [];
    queue = 1 ∷ [];
    held = 20 ∷ 0 ∷ 0 ∷ [];
  }
  -- 20 percent of 20 is below the least sum, and refused with 9
  pub refuses_4 : (last Unaddressed [] (iceberg 1 d 20 1500 20)).answer.number ≡ 9
  -- a market order concludes at the resting order's rate too
  pub market_rate : shown (last Unaddressed (limit 1 (other d) Queue 30 1500 ∷ []) (market 3 d 40)) ≡ record {
    answer = accepted (2 ∷ 30 ∷ []);
    rows = row_of d 2 1 1500 30 ∷ [];
    lots = (0, 0, 0) ∷ (0, 0, 10) ∷ [];
    queue = 1 ∷ 2 ∷ [];
    held = 30 ∷ 0 ∷ 30 ∷ [];
  }
  -- 30 lots take the iceberg's 20 and 10 of the 50: the iceberg shows 20 again, and stands behind
  pub goes_behind : shown (last Unaddressed (iceberg_and 50 d) (limit 3 d Queue 30 1500)) ≡ record {
    answer = accepted (3 ∷ 30 ∷ []);
    rows = row_of d 3 1 1500 20 ∷ row_of d 3 2 1500 10 ∷ [];
    lots = (20, 60, 0) ∷ (40, 0, 0) ∷ (0, 0, 0) ∷ [];
    queue = 2 ∷ 1 ∷ 3 ∷ [];
    held = 100 ∷ 50 ∷ 30 ∷ [];
  }
  -- so 50 more take 40 of order 2 and then 10 of order 1, and the rows stand in that order
  pub list_order : shown (last Unaddressed (iceberg_and 50 d ++ (limit 3 d Queue 30 1500 ∷ [])) (limit 3 d Queue 50 1500)) ≡ record {
    answer = accepted (4 ∷ 50 ∷ []);
    rows = row_of d 3 1 1500 20 ∷ row_of d 3 2 1500 10 ∷ row_of d 4 2 1500 40 ∷ row_of d 4 1 1500 10 ∷ [];
    lots = (10, 60, 0) ∷ (0, 0, 0) ∷ (0, 0, 0) ∷ (0, 0, 0) ∷ [];
    queue = 2 ∷ 1 ∷ 3 ∷ 4 ∷ [];
    held = 100 ∷ 50 ∷ 80 ∷ [];
  }
  -- order 2 stands before order 1 when both show lots again in one round: behind all others they keep that order
  pub refills_in_turn : shown (last Unaddressed (two_icebergs d) (limit 3 d Queue 50 1500)) ≡ record {
    answer = accepted (4 ∷ 50 ∷ []);
    rows = row_of d 3 1 1500 20 ∷ row_of d 4 2 1500 30 ∷ row_of d 4 1 1500 20 ∷ [];
    lots = (20, 40, 0) ∷ (30, 0, 0) ∷ (0, 0, 0) ∷ (0, 0, 0) ∷ [];
    queue = 3 ∷ 2 ∷ 1 ∷ 4 ∷ [];
    held = 100 ∷ 60 ∷ 70 ∷ [];
  }
  -- an iceberg of 100 that enters concludes 30, more than it would show, and rests with 20 of the other 70 visible
  pub rests_70 : shown (last Unaddressed (limit 1 (other d) Queue 30 1500 ∷ []) (iceberg 3 d 100 1500 20)) ≡ record {
    answer = accepted (2 ∷ 30 ∷ []);
    rows = row_of d 2 1 1500 30 ∷ [];
    lots = (0, 0, 0) ∷ (20, 50, 0) ∷ [];
    queue = 1 ∷ 2 ∷ [];
    held = 30 ∷ 0 ∷ 100 ∷ [];
  }
  -- with 10 lots left of it, all of them are visible
  pub rests_10 : shown (last Unaddressed (limit 1 (other d) Queue 90 1500 ∷ []) (iceberg 3 d 100 1500 20)) ≡ record {
    answer = accepted (2 ∷ 90 ∷ []);
    rows = row_of d 2 1 1500 90 ∷ [];
    lots = (0, 0, 0) ∷ (10, 0, 0) ∷ [];
    queue = 1 ∷ 2 ∷ [];
    held = 90 ∷ 0 ∷ 100 ∷ [];
  }
  -- 24 lots, divided pro rata among visible sums of 20 and 30
  pub pro_rata_24 : shown (last Unaddressed (limit 1 (other d) Queue 20 1500 ∷ limit 2 (other d) Queue 30 1500 ∷ []) (place pro_rata_shares 8 3 (limit_terms d 1 Queue 24 1500 0 0))) ≡ record {
    answer = accepted (3 ∷ 24 ∷ []);
    rows = row_of d 3 1 1500 10 ∷ row_of d 3 2 1500 14 ∷ [];
    lots = (10, 0, 0) ∷ (16, 0, 0) ∷ (0, 0, 0) ∷ [];
    queue = 1 ∷ 2 ∷ 3 ∷ [];
    held = 20 ∷ 30 ∷ 24 ∷ [];
  }
  -- an iceberg that is withdrawn answers its visible and hidden lots, and they are released
  pub withdrawn_80 : shown (last Unaddressed (iceberg_and 50 d ++ (limit 3 d Queue 30 1500 ∷ [])) (withdraw 1 1)) ≡ record {
    answer = accepted (80 ∷ []);
    rows = row_of d 3 1 1500 20 ∷ row_of d 3 2 1500 10 ∷ [];
    lots = (0, 0, 80) ∷ (40, 0, 0) ∷ (0, 0, 0) ∷ [];
    queue = 2 ∷ 1 ∷ 3 ∷ [];
    held = 20 ∷ 50 ∷ 30 ∷ [];
  }

-- all worked figures
pub record Figures : Type 0 where
  -- the four figures of sharing
  pub sharing : sharing.Figures
  -- those of an order that enters, for a deposit and for a repo order
  pub entering : (d : Direction) → Entering d
  -- 30 rest at 1,500; a deposit of 40 at 1,490 concludes 30 at 1,500, and 10 are withdrawn and released
  pub remainder_deposit : shown (last Unaddressed (limit 1 Repo Queue 30 1500 ∷ []) (limit 3 Deposit Withdraw 40 1490)) ≡ record {
    answer = accepted (2 ∷ 30 ∷ []);
    rows = row 2 1 1500 30 ∷ [];
    lots = (0, 0, 0) ∷ (0, 0, 10) ∷ [];
    queue = 1 ∷ 2 ∷ [];
    held = 30 ∷ 0 ∷ 30 ∷ [];
  }
  -- its mirror: a repo order of 40 at 1,510
  pub remainder_repo : shown (last Unaddressed (limit 1 Deposit Queue 30 1500 ∷ []) (limit 3 Repo Withdraw 40 1510)) ≡ record {
    answer = accepted (2 ∷ 30 ∷ []);
    rows = row 1 2 1500 30 ∷ [];
    lots = (0, 0, 0) ∷ (0, 0, 10) ∷ [];
    queue = 1 ∷ 2 ∷ [];
    held = 30 ∷ 0 ∷ 30 ∷ [];
  }
  -- an auction: the clock at 35,999 activates none
  pub auction_early : shown (last Auction (auction_repos ++ (waiting 50 36000 ∷ [])) (clock time_shares 8 35999)) ≡ record {
    answer = accepted (0 ∷ 0 ∷ []);
    rows = [];
    lots = (30, 0, 0) ∷ (30, 0, 0) ∷ (0, 50, 0) ∷ [];
    queue = 1 ∷ 2 ∷ 3 ∷ [];
    held = 30 ∷ 30 ∷ 50 ∷ [];
  }
  -- at 36,000 the 50 lots take 30 at 1,510 and 20 at 1,500
  pub auction_50 : shown (last Auction (auction_repos ++ (waiting 50 36000 ∷ clock time_shares 8 35999 ∷ [])) (clock time_shares 8 36000)) ≡ record {
    answer = accepted (1 ∷ 50 ∷ []);
    rows = row 3 2 1510 30 ∷ row 3 1 1500 20 ∷ [];
    lots = (10, 0, 0) ∷ (0, 0, 0) ∷ (0, 0, 0) ∷ [];
    queue = 1 ∷ 2 ∷ 3 ∷ [];
    held = 30 ∷ 30 ∷ 50 ∷ [];
  }
  -- 61 lots are withdrawn and released
  pub auction_61 : shown (last Auction (auction_repos ++ (waiting 61 36000 ∷ [])) (clock time_shares 8 36000)) ≡ record {
    answer = accepted (1 ∷ 0 ∷ []);
    rows = [];
    lots = (30, 0, 0) ∷ (30, 0, 0) ∷ (0, 0, 61) ∷ [];
    queue = 1 ∷ 2 ∷ 3 ∷ [];
    held = 30 ∷ 30 ∷ 0 ∷ [];
  }
  -- of two due orders the one that is activated earlier enters first, though its number is higher; the other then finds too little
  pub auction_two : shown (last Auction (auction_repos ++ (waiting 20 36100 ∷ waiting 50 36000 ∷ [])) (clock time_shares 8 36200)) ≡ record {
    answer = accepted (2 ∷ 50 ∷ []);
    rows = row 4 2 1510 30 ∷ row 4 1 1500 20 ∷ [];
    lots = (10, 0, 0) ∷ (0, 0, 0) ∷ (0, 0, 20) ∷ (0, 0, 0) ∷ [];
    queue = 1 ∷ 2 ∷ 3 ∷ 4 ∷ [];
    held = 30 ∷ 30 ∷ 50 ∷ [];
  }
  -- the best rate is met first: for a deposit the highest
  pub best_deposit : shown (last Unaddressed (limit 1 Repo Queue 30 1500 ∷ limit 2 Repo Queue 30 1510 ∷ []) (limit 3 Deposit Queue 50 1500)) ≡ record {
    answer = accepted (3 ∷ 50 ∷ []);
    rows = row 3 2 1510 30 ∷ row 3 1 1500 20 ∷ [];
    lots = (10, 0, 0) ∷ (0, 0, 0) ∷ (0, 0, 0) ∷ [];
    queue = 1 ∷ 2 ∷ 3 ∷ [];
    held = 30 ∷ 30 ∷ 50 ∷ [];
  }
  -- for a repo order the lowest
  pub best_repo : shown (last Unaddressed (limit 1 Deposit Queue 30 1510 ∷ limit 2 Deposit Queue 30 1500 ∷ []) (limit 3 Repo Queue 50 1510)) ≡ record {
    answer = accepted (3 ∷ 50 ∷ []);
    rows = row 2 3 1500 30 ∷ row 1 3 1510 20 ∷ [];
    lots = (10, 0, 0) ∷ (0, 0, 0) ∷ (0, 0, 0) ∷ [];
    queue = 1 ∷ 2 ∷ 3 ∷ [];
    held = 30 ∷ 30 ∷ 50 ∷ [];
  }
