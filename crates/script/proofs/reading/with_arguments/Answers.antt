use Rattle.std.proofs.Common.{rules}
use Rattle.script.specs.declared.command.Verb.TheVariants.{Clearing, Limit, Pots, Cap, Cover, Need, Left, Reserve, Release}
use Rattle.script.proofs.Lines.{made}
use Rattle.script.proofs.reading.with_arguments.Goals as goal

pub returns-in-Clearing : goal.returns-in-Clearing
returns-in-Clearing c =
    rw c.in-Clearing.is (made Clearing c.args.text.now c.read.result c.map.result _ c.read.ensures c.map.ensures.cases (λ x d is fits. search rules))

pub returns-in-Limit : goal.returns-in-Limit
returns-in-Limit c =
    rw c.in-Limit.is (made Limit c.args.text.now c.read-in-Limit.result c.map-in-Limit.result _ c.read-in-Limit.ensures c.map-in-Limit.ensures.cases (λ x d is fits. search rules))

pub returns-in-Pots : goal.returns-in-Pots
returns-in-Pots c =
    rw c.in-Pots.is (made Pots c.args.text.now c.read-in-Pots.result c.map-in-Pots.result _ c.read-in-Pots.ensures c.map-in-Pots.ensures.cases (λ x d is fits. search rules))

pub returns-in-Cap : goal.returns-in-Cap
returns-in-Cap c =
    rw c.in-Cap.is (made Cap c.args.text.now c.read-in-Cap.result c.map-in-Cap.result _ c.read-in-Cap.ensures c.map-in-Cap.ensures.cases (λ x d is fits. search rules))

pub returns-in-Cover : goal.returns-in-Cover
returns-in-Cover c =
    rw c.in-Cover.is (made Cover c.args.text.now c.read-in-Cover.result c.map-in-Cover.result _ c.read-in-Cover.ensures c.map-in-Cover.ensures.cases (λ x d is fits. search rules))

pub returns-in-Need : goal.returns-in-Need
returns-in-Need c =
    rw c.in-Need.is (made Need c.args.text.now c.read-in-Need.result c.map-in-Need.result _ c.read-in-Need.ensures c.map-in-Need.ensures.cases (λ x d is fits. search rules))

pub returns-in-Left : goal.returns-in-Left
returns-in-Left c =
    rw c.in-Left.is (made Left c.args.text.now c.read-in-Left.result c.map-in-Left.result _ c.read-in-Left.ensures c.map-in-Left.ensures.cases (λ x d is fits. search rules))

pub returns-in-Reserve : goal.returns-in-Reserve
returns-in-Reserve c =
    rw c.in-Reserve.is (made Reserve c.args.text.now c.read-in-Reserve.result c.map-in-Reserve.result _ c.read-in-Reserve.ensures c.map-in-Reserve.ensures.cases (λ x d is fits. search rules))

pub returns-in-Release : goal.returns-in-Release
returns-in-Release c =
    rw c.in-Release.is (made Release c.args.text.now c.read-in-Release.result c.map-in-Release.result _ c.read-in-Release.ensures c.map-in-Release.ensures.cases (λ x d is fits. search rules))
