use Rattle.std.proofs.Common.{◌≡◌, ◌≤◌, ap, ◌∙◌, arith}
use Rattle.clearing.specs.Accounts.{account_of, book_of}
use Rattle.clearing.specs.Seats.{seated}
use Rattle.clearing.proofs.Seating.{book_of-reserved}
use Rattle.clearing.proofs.accounts.Accounts.reserve.Goals as goal

pub returns-clause-book : goal.returns-clause-book
returns-clause-book g c =
    let a = g.A.Account in
    let law = g.met.A.Account in
    let accounts = account_of a.none c.args.self.now in
    let p = c.args.participant in
    let n = c.args.lots in
    let account = a.holding (accounts p) n in
    let enough : n ≤ a.free_lots (accounts p) = rw (← c.at-account.ensures) (omega arith) in
    let moved : c.hold.result ≡ account = rw (← c.at-account.ensures) c.hold.ensures in
    ap (book_of a.free_lots a.held_lots) {y = seated accounts p account} (rw moved at c.put.ensures)
    ∙ book_of-reserved a.free_lots a.held_lots accounts p account n (omega arith) enough (law.holding_free (accounts p) n enough) (law.holding_held (accounts p) n enough)
