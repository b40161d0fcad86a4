use Rattle.std.proofs.Common.{◌≡◌, rules, subst, to_z, of_z}
use Rattle.std.specs.Int.{w128}
use Rattle.dual_bound.specs.Bound.{IsBound}
use Rattle.cert_check.specs.Verdicts.{BoundsAll}
use Rattle.branch_bound.proofs.Settled.{never_broken, refuted, unsettled}
use Rattle.branch_bound.proofs.settling.unplanned.Goals as goal

pub unreachable-requires : goal.unreachable-requires
unreachable-requires c = never_broken _ _ _ _ _ c.requires.sound c.in-Broken.ensures.verdict

pub returns-in-Holds-Some-clause-right : goal.returns-in-Holds-Some-clause-right
returns-in-Holds-Some-clause-right c =
    let bound : to_z w128 (of_z w128 c.in-Holds-Some.bound) ≡ c.in-Holds-Some.bound = search rules in
    rw bound (unsettled _ _ c.requires _ (subst (IsBound c.args.tables.now c.args.tree) c.in-Holds-Some.bound-is c.in-Holds-Some.ensures.verdict.bounded)
    (subst (BoundsAll c.args.tables.now) c.in-Holds-Some.bound-is c.in-Holds-Some.ensures.proof))

pub returns-in-Holds-None-clause-right : goal.returns-in-Holds-None-clause-right
returns-in-Holds-None-clause-right c =
    refuted _ _ c.requires (subst (IsBound c.args.tables.now c.args.tree) c.in-Holds-None.bound-is c.in-Holds-None.ensures.verdict.bounded)
    (subst (BoundsAll c.args.tables.now) c.in-Holds-None.bound-is c.in-Holds-None.ensures.proof)
