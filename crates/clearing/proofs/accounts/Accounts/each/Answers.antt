use Rattle.std.proofs.Common.{refl}
use Rattle.clearing.proofs.Seating.{seat-replicate}
use Rattle.clearing.proofs.accounts.Accounts.each.Goals as goal

pub returns : goal.returns
returns g c = seat-replicate 64 refl g.A.Account.none c.args.account
