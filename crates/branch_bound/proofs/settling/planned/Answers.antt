use Rattle.std.proofs.Common.{◌≡◌, rules, subst, to_z, of_z}
use Rattle.std.specs.Int.{w128}
use Rattle.dual_bound.specs.Bound.{IsBound}
use Rattle.cert_check.specs.Verdicts.{BoundsAll}
use Rattle.branch_bound.proofs.Settled.{never_broken, planned}
use Rattle.branch_bound.proofs.settling.planned.Goals as goal

pub unreachable-requires-in-Broken : goal.unreachable-requires-in-Broken
unreachable-requires-in-Broken c =
    let cost : to_z w128 (of_z w128 c.args.plan.cost) ≡ c.args.plan.cost = search rules in
    never_broken _ _ _ _ _ c.requires.sound (rw cost at c.in-Broken.ensures.verdict)

pub returns-clause-right : goal.returns-clause-right
returns-clause-right c =
    let cost : to_z w128 (of_z w128 c.args.plan.cost) ≡ c.args.plan.cost = search rules in
    let bound : to_z w128 (of_z w128 c.in-Holds-Some.bound) ≡ c.in-Holds-Some.bound = search rules in
    rw (cost, bound) (planned _ _ _ c.requires _ (subst (IsBound c.args.tables.now c.args.tree) c.in-Holds-Some.bound-is c.in-Holds-Some.ensures.verdict.bounded)
    (subst (BoundsAll c.args.tables.now) c.in-Holds-Some.bound-is c.in-Holds-Some.ensures.proof))
