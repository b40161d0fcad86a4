use Rattle.plan_rotations.proofs.Best.{worth_most}
use Rattle.plan_rotations.proofs.making.pairs_of.Goals as goal

pub returns : goal.returns
returns c =
    let chosen = c.in_ok-choose.field-0 in
    let e = c.in_ok-choose.ensures in
    worth_most c.args.tables.now c.args.plan.now c.args.fleet chosen.pairs chosen.value chosen.u chosen.v
    (record { through_set = e.through_set; listed = e.listed; value_is = e.value; reach = e.reach; sums = e.sums })
