use Rattle.std.proofs.Common.{◌≡◌, rules, to_z, of_z}
use Rattle.std.specs.Int.{w128}
use Rattle.branch_bound.proofs.branching.rank.Goals as goal

pub returns-in_ok-insert-in-Waiting : goal.returns-in_ok-insert-in-Waiting
returns-in_ok-insert-in-Waiting c =
    let worth : to_z w128 (of_z w128 c.in-Waiting.fraction.worth) ≡ c.in-Waiting.fraction.worth = search rules in
    rw c.in-Waiting.is (rw worth at c.in_ok-insert-in-Waiting.ensures.keys)
