-- The summary of a solution and its rotations.
use Rattle.std.specs.Prelude.{ℕ, zero, suc, List, [], ◌∷◌, ◌++◌, codes, length, if◌then◌else◌, ℤ, Option, Some, None}
use Rattle.std.specs.Fmt.{decimal}
use Rattle.dual_bound.specs.Leaves.{counts_of, has_open}
use Rattle.dual_bound.specs.declared.trees.TreeCounts.{TreeCounts}
use Rattle.dual_bound.specs.Solved.{plan_cost, tree_of}
use Rattle.dual_bound.specs.declared.solved.Solved.{Solved}
use Rattle.dual_bound.specs.declared.solved.Solved.TheVariants as solved
use Rattle.fleet_model.specs.Schedule.{fleet_of, fleets_in}
use Rattle.fleet_model.specs.declared.tables.Tables.{Tables}
use Rattle.euler_rotation.specs.FleetRotations.{rotation_of}
use Rattle.rotation_report.specs.RotationWords.{rotation_words}
use Rattle.printed_lines.specs.Lines.{line_of}
use Rattle.rotation_report.specs.TextLines.{fleet_lines, number_word}
use Rattle.euler_rotation.specs.declared.fleet_rotation.FleetRotation.{FleetRotation}

-- how the search ended
abbrev pub outcome_word : Solved → List ℕ
outcome_word (solved.Planned plan cost bound tree) = if has_open tree then codes "gap" else codes "optimal"
outcome_word (solved.Infeasible tree) = codes "infeasible"
outcome_word (solved.Unsettled bound tree) = codes "unsettled"

-- the bound, where something may be legal
abbrev pub printed_bound : Solved → Option ℤ
printed_bound (solved.Planned plan cost bound tree) = Some bound
printed_bound (solved.Infeasible tree) = None
printed_bound (solved.Unsettled bound tree) = Some bound

-- the lines of outcome, cost and bound
abbrev pub result_lines : Solved → List ℕ
result_lines s =
    line_of (codes "outcome: " ∷ outcome_word s ∷ [])
    ++ line_of (codes "cost: " ∷ number_word (plan_cost s) ∷ [])
    ++ line_of (codes "bound: " ∷ number_word (printed_bound s) ∷ [])

-- the lines of the splits, and of the open leaves by cause
abbrev pub count_lines : TreeCounts → List ℕ
count_lines counts =
    line_of (codes "splits: " ∷ decimal counts.splits ∷ [])
    ++ line_of (codes "open: " ∷ decimal counts.open_nodes ∷ codes " nodes, " ∷ decimal counts.open_pivots ∷ codes " pivots, " ∷ decimal counts.open_grew ∷ codes " grew" ∷ [])

-- the line of a fleet's rotation
abbrev pub rotation_line : Tables → List FleetRotation → ℕ → List ℕ
rotation_line t rotations f = line_of (codes "rotation " ∷ (fleet_of t f).name ∷ codes ": " ∷ rotation_words t (rotation_of rotations f) ∷ [])

-- such a line for each of the first fleets
abbrev pub rotation_lines : Tables → List FleetRotation → ℕ → List ℕ
rotation_lines t rotations zero = []
rotation_lines t rotations (suc n) = rotation_lines t rotations n ++ rotation_line t rotations n

-- the lines of the fleets and of their rotations, where there is a plan
abbrev pub plan_lines : Tables → Solved → List FleetRotation → List ℕ
plan_lines t (solved.Planned plan cost bound tree) rotations = fleet_lines t plan (fleets_in t) ++ rotation_lines t rotations (length rotations)
plan_lines t (solved.Infeasible tree) rotations = []
plan_lines t (solved.Unsettled bound tree) rotations = []

-- the summary
unfoldable pub summary_text : Tables → Solved → List FleetRotation → List ℕ
summary_text t s rotations = result_lines s ++ count_lines (counts_of (tree_of s)) ++ plan_lines t s rotations
