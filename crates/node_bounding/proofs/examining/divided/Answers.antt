use Rattle.std.proofs.Common.{◌≡◌, rules, to_z, of_z}
use Rattle.std.specs.Int.{w128}
use Rattle.node_bounding.proofs.Examined.{priced_leaf, reaches_by, waiting}
use Rattle.node_bounding.proofs.SplitPairs.{may_split}
use Rattle.node_bounding.proofs.examining.divided.Goals as goal

pub returns-then-is_reached : goal.returns-then-is_reached
returns-then-is_reached c = λ pivots above.
    let worth : to_z w128 (of_z w128 c.rounded_worth-worth.result) ≡ c.rounded_worth-worth.result = search rules in
    priced_leaf _ pivots _ c.requires.plan _ above _ c.requires.searched c.requires.best.good (reaches_by _ _ _ _ _ c.rounded_worth-worth.ensures (rw worth at c.if-is_reached.ensures))

pub returns : goal.returns
returns c = λ pivots above.
    let worth : to_z w128 (of_z w128 c.rounded_worth-worth.result) ≡ c.rounded_worth-worth.result = search rules in
    rw worth (waiting _ pivots _ c.requires.plan _ above _ (record { split = may_split _ _ _ c.args.pair c.requires.searched c.requires.best c.requires.pair; rounded = c.rounded_worth-worth.ensures }) (rw worth at c.if-is_reached.ensures))
