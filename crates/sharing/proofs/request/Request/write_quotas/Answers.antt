use Rattle.std.proofs.Common.{◌≡◌, ◌*◌, ◌/◌, ◌≤◌, List, ℕ, sum, sym, subst, arith}
use Rattle.sharing.specs.ProRata.{quotas}
use Rattle.sharing.specs.Proportion.{quotas_low}
use Rattle.sharing.proofs.Mapped.{map_from_all_zip}
use Rattle.sharing.proofs.request.Request.write_quotas.Goals as goal

pub returns : goal.returns
returns c =
    let all : c.write_parts.new.out ≡ quotas c.args.self.now.sums.now c.args.self.now.lots =
    map_from_all_zip _ (λ v. v * c.args.self.now.lots / sum c.args.self.now.sums.now) c.args.self.now.sums.now c.write_parts.new.out (λ v p is. cc) c.write_parts.ensures in
    record {
      after = all;
      bound = subst (λ (xs : List ℕ). sum xs ≤ c.args.self.now.lots) (sym all) (quotas_low c.args.self.now.sums.now c.args.self.now.lots (omega arith));
    }
