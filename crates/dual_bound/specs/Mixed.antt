-- What a fractional assignment says of each pair.
use Rattle.std.specs.Prelude.{Bool, ◌==◌, ◌&&◌, if◌then◌else◌, List, [], ◌∷◌, ℤ, pos}
use Rattle.fleet_model.specs.declared.parts.Pair.{Pair}
use Rattle.dual_bound.specs.declared.mixed.Mixed.{Mixed}
use Rattle.dual_bound.specs.declared.mixed.Weight.{Weight}

-- the entry is the pair's
abbrev pub is_weight_of : Pair → Weight → Bool
is_weight_of p entry = (entry.leg == p.leg) && (entry.choice == p.choice)

-- the weight after entries, from a weight before them: what the pair's last entry says
unfoldable pub weight_after : ℤ → List Weight → Pair → ℤ
weight_after weight [] p = weight
weight_after weight (entry ∷ entries) p = weight_after (if is_weight_of p entry then entry.weight else weight) entries p

-- the weight of a pair
abbrev pub weight_in : Mixed → Pair → ℤ
weight_in mixed p = weight_after (pos 0) mixed.weights p
