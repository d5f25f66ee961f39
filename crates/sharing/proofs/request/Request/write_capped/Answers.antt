use Rattle.std.proofs.Common.{rules, min}
use Rattle.sharing.proofs.Mapped.{map_from_all_zip}
use Rattle.sharing.proofs.request.Request.write_capped.Goals as goal

pub returns : goal.returns
returns c = map_from_all_zip _ (λ v. min v c.args.t) c.args.self.now.sums.now c.write_parts.new.out (λ v p is. search rules) c.write_parts.ensures
