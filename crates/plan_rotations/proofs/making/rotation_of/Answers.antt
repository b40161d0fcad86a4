use Rattle.std.proofs.Common.{subst}
use Rattle.plan_rotations.specs.Rotations.{IsMadeIf, IsRotationWith}
use Rattle.plan_rotations.proofs.making.rotation_of.Goals as goal

pub rotated-requires-clause-plan : goal.rotated-requires-clause-plan
rotated-requires-clause-plan c = c.requires.plan

pub rotated-requires-clause-held : goal.rotated-requires-clause-held
rotated-requires-clause-held c = rw c.as_slice.ensures c.in_ok-pairs.ensures.through_set.held

pub second_of-requires-clause-plan : goal.second_of-requires-clause-plan
second_of-requires-clause-plan c = c.requires.plan

pub returns : goal.returns
returns c =
    let t = c.args.tables.now in
    let plan = c.args.plan.now in
    record {
      pairs = c.in_ok-pairs.ensures;
      first = subst (λ held. IsRotationWith t plan c.args.fleet held c.args.days c.args.visits c.in_ok-first.first) c.as_slice.ensures c.in_ok-first.ensures;
      second = subst (λ wanted. IsMadeIf wanted t plan c.args.fleet c.args.days c.args.visits c.in_ok-second.second) c.wants_second-wanted.ensures c.in_ok-second.ensures;
      counted = c.used.ensures;
    }
