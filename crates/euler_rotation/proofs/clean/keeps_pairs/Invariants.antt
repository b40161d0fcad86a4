use Rattle.std.proofs.Common.{◌≡◌, drop}
use Rattle.std.specs.List.{list_all}
use Rattle.euler_rotation.specs.Prefixes.{keeps_pair}
use Rattle.euler_rotation.proofs.clean.keeps_pairs.Given as goal

abbrev pub invariant-loop-pair : goal.invariant-loop-pair
invariant-loop-pair l = list_all (keeps_pair l.turn) l.pairs ≡ list_all (keeps_pair l.turn) (drop l.pair-index l.pairs)
