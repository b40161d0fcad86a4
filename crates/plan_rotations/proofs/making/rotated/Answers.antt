use Rattle.std.proofs.Common.{subst}
use Rattle.euler_rotation.specs.Answers.{IsRotation, IsRotationComplete}
use Rattle.plan_rotations.proofs.making.rotated.Goals as goal

pub returns : goal.returns
returns c =
    let t = c.args.tables.now in
    let plan = c.args.plan.now in
    let pairs = c.args.pairs.now in
    record {
      right = subst (λ visits. IsRotation t plan c.args.fleet pairs c.args.days visits c.in_ok-rotate.field-0) c.from.ensures c.in_ok-rotate.ensures.rotation;
      complete = subst (λ visits. IsRotationComplete t plan c.args.fleet pairs c.args.days visits c.in_ok-rotate.field-0) c.from.ensures c.in_ok-rotate.ensures.complete;
    }
