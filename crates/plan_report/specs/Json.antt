-- The summary of a solution and its rotations as JSON.
use Rattle.std.specs.Prelude.{ℕ, List, [], ◌∷◌, ◌++◌, codes, length, ℤ, Option, Some, None}
use Rattle.std.specs.Fmt.{signed_decimal}
use Rattle.serde_json.specs.Data.{Data, array, member, no_members, null, number, object, string, unsigned}
use Rattle.serde_json.specs.View.{items_of}
use Rattle.serde_json.specs.Written.{compact_text}
use Rattle.sums.specs.Places.{list_below}
use Rattle.dual_bound.specs.Leaves.{counts_of}
use Rattle.dual_bound.specs.declared.trees.TreeCounts.{TreeCounts}
use Rattle.dual_bound.specs.Solved.{plan_cost, tree_of}
use Rattle.dual_bound.specs.declared.solved.Solved.{Solved}
use Rattle.dual_bound.specs.declared.solved.Solved.TheVariants as solved
use Rattle.fleet_model.specs.Counts.{weights_of}
use Rattle.fleet_model.specs.Schedule.{fleet_of, fleets_in}
use Rattle.fleet_model.specs.Use.{used_of}
use Rattle.fleet_model.specs.declared.tables.Tables.{Tables}
use Rattle.euler_rotation.specs.FleetRotations.{rotation_of}
use Rattle.rotation_report.specs.RotationWords.{rotation_words}
use Rattle.plan_report.specs.Summary.{outcome_word, printed_bound}
use Rattle.euler_rotation.specs.declared.fleet_rotation.FleetRotation.{FleetRotation}

-- a number as text, which may be larger than readers of JSON take
abbrev pub number_data : Option ℤ → Data
number_data (Some n) = string (signed_decimal n)
number_data None = null

-- a count
abbrev pub count_data : ℕ → Data
count_data n = number (unsigned n)

-- a fleet's aircraft, there and used
abbrev pub fleet_data : Tables → List ℕ → ℕ → Data
fleet_data t a f =
    object (member (codes "has") (count_data (fleet_of t f).aircraft)
    (member (codes "name") (string (fleet_of t f).name)
    (member (codes "used") (count_data (used_of t (weights_of a) f))
    no_members)))

-- the fleets, where there is a plan
abbrev pub fleets_data : Tables → Solved → List Data
fleets_data t (solved.Planned plan cost bound tree) = list_below (fleet_data t plan) (fleets_in t)
fleets_data t (solved.Infeasible tree) = []
fleets_data t (solved.Unsettled bound tree) = []

-- what becomes of a fleet's rotation
abbrev pub rotation_data : Tables → List FleetRotation → ℕ → Data
rotation_data t rotations f = string (rotation_words t (rotation_of rotations f))

-- the rotations, where there is a plan
abbrev pub rotations_data : Tables → Solved → List FleetRotation → List Data
rotations_data t (solved.Planned plan cost bound tree) rotations = list_below (rotation_data t rotations) (length rotations)
rotations_data t (solved.Infeasible tree) rotations = []
rotations_data t (solved.Unsettled bound tree) rotations = []

-- the open leaves by cause
abbrev pub open_data : TreeCounts → Data
open_data counts =
    object (member (codes "grew") (count_data counts.open_grew)
    (member (codes "nodes") (count_data counts.open_nodes)
    (member (codes "pivots") (count_data counts.open_pivots)
    no_members)))

-- the whole
abbrev pub summary_data : Tables → Solved → List FleetRotation → Data
summary_data t s rotations =
    object (member (codes "bound") (number_data (printed_bound s))
    (member (codes "cost") (number_data (plan_cost s))
    (member (codes "fleets") (array (items_of (fleets_data t s)))
    (member (codes "open") (open_data (counts_of (tree_of s)))
    (member (codes "outcome") (string (outcome_word s))
    (member (codes "rotations") (array (items_of (rotations_data t s rotations)))
    (member (codes "splits") (count_data (counts_of (tree_of s)).splits)
    no_members)))))))

-- one line, with no space in it but those of words
unfoldable pub json_text : Tables → Solved → List FleetRotation → List ℕ
json_text t s rotations = compact_text (summary_data t s rotations) ++ 10 ∷ []
