use Rattle.std.proofs.Common.{◌≡◌, ◌≤◌, ap, ◌∙◌, arith}
use Rattle.clearing.specs.Accounts.{account_of, book_of}
use Rattle.clearing.specs.Seats.{seated}
use Rattle.clearing.proofs.Seating.{book_of-released}
use Rattle.clearing.proofs.accounts.Accounts.release.Goals as goal

pub returns-clause-book : goal.returns-clause-book
returns-clause-book g c =
    let a = g.A.Account in
    let law = g.met.A.Account in
    let accounts = account_of a.none c.args.self.now in
    let p = c.args.participant in
    let n = c.args.lots in
    let account = a.letting_go (accounts p) n in
    let enough : n ≤ a.held_lots (accounts p) = rw (← c.at-account.ensures) (omega arith) in
    let moved : c.let_go.result ≡ account = rw (← c.at-account.ensures) c.let_go.ensures in
    ap (book_of a.free_lots a.held_lots) {y = seated accounts p account} (rw moved at c.put.ensures)
    ∙ book_of-released a.free_lots a.held_lots accounts p account n (omega arith) enough (law.letting_go_free (accounts p) n enough) (law.letting_go_held (accounts p) n enough)
