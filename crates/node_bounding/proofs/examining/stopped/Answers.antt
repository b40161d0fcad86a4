use Rattle.std.proofs.Common.{◌≡◌, refl, rules, to_z, of_z}
use Rattle.std.specs.Int.{w128}
use Rattle.node_bounding.proofs.examining.stopped.Goals as goal

pub returns : goal.returns
returns c =
    let worth : to_z w128 (of_z w128 c.rounded_worth-worth.result) ≡ c.rounded_worth-worth.result = search rules in
    rw worth (refl, refl, record { rounded = c.rounded_worth-worth.ensures })
