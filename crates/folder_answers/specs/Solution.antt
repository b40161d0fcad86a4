-- What is printed and written of a solution and the rotations of its plan.
use Rattle.std.specs.Prelude.{◌≡◌, ℕ, List, [], ◌∷◌, Bool, true, false, if◌then◌else◌}
use Rattle.dual_bound.specs.Leaves.{has_open}
use Rattle.bound_cert.specs.ProofText.{proof_text}
use Rattle.dual_bound.specs.declared.trees.Tree.{Tree}
use Rattle.dual_bound.specs.declared.solved.Solved.{Solved}
use Rattle.dual_bound.specs.declared.solved.Solved.TheVariants as solved
use Rattle.command_words.specs.declared.command.RotationLimits.{RotationLimits}
use Rattle.command_words.specs.declared.command.SolveOptions.{SolveOptions}
use Rattle.fleet_model.specs.declared.tables.Tables.{Tables}
use Rattle.plan_desk.specs.declared.file.DeskFile.TheVariants as desk_file
use Rattle.plan_report.specs.Json.{json_text}
use Rattle.rotation_report.specs.RotationRecords.{rotation_text}
use Rattle.plan_report.specs.Summary.{summary_text}
use Rattle.euler_rotation.specs.declared.fleet_rotation.FleetRotation.{FleetRotation}
use Rattle.plan_rotations.specs.Rotations.{ArePlanRotations}
use Rattle.plan_text.specs.Text.{plan_text}
use Rattle.sched_read.specs.retime_windows.Settled.{IsSettled}
use Rattle.folder_answers.specs.declared.answer.Answer.{Answer}
use Rattle.folder_answers.specs.declared.answer.FileText.{FileText}
use Rattle.folder_answers.specs.declared.status.TheConstants.{DONE, GAP, INFEASIBLE, UNSETTLED}

-- the exit status that says how the search ended
abbrev pub solved_status : Solved → ℕ
solved_status (solved.Planned plan cost bound tree) = if has_open tree then GAP else DONE
solved_status (solved.Infeasible tree) = INFEASIBLE
solved_status (solved.Unsettled bound tree) = UNSETTLED

-- The rotations of a plan, made on the tables that are shown: there each leg departs when the plan says, and the same fleets
-- fly.
pub record RotatesPlan (t : Tables) (limits : RotationLimits) (plan : List ℕ) (shown : Tables) (flown : List ℕ) (rotations : List FleetRotation) : Type 0 where
  pub settled : IsSettled t plan shown flown
  pub rotates : ArePlanRotations shown flown limits.days limits.visits rotations

-- the rotations of a solution, and the tables that they are of: those of its plan, and none where it has none
abbrev pub AreRotationsOf : Tables → RotationLimits → Solved → Tables → List FleetRotation → Type 0
AreRotationsOf t limits (solved.Planned plan cost bound tree) shown rotations = (flown : List ℕ) × RotatesPlan t limits plan shown flown rotations
AreRotationsOf t limits (solved.Infeasible tree) shown rotations = (shown ≡ t) × (rotations ≡ [])
AreRotationsOf t limits (solved.Unsettled bound tree) shown rotations = (shown ≡ t) × (rotations ≡ [])

-- what is printed: the summary in lines, or as JSON
abbrev pub printed_text : Tables → Bool → Solved → List FleetRotation → List ℕ
printed_text t false s rotations = summary_text t s rotations
printed_text t true s rotations = json_text t s rotations

-- ---- files

-- the file of a plan
abbrev pub plan_file : Tables → List ℕ → FileText
plan_file t plan = record { file = desk_file.Plan; bytes = plan_text t plan }

-- the file of the proof, which says whether a plan comes with it
abbrev pub proof_file : Tables → Bool → Tree → FileText
proof_file t planned tree = record { file = desk_file.Proof; bytes = proof_text t planned tree }

-- the file of rotations, found in so many visits of the search at most
abbrev pub rotation_file : Tables → List FleetRotation → ℕ → FileText
rotation_file t rotations visits = record { file = desk_file.Rotation; bytes = rotation_text t rotations visits }

-- the files that are written of a solution, in their order; its rotations are of the tables that are shown
unfoldable pub solved_files : Tables → Tables → Solved → List FleetRotation → ℕ → List FileText
solved_files t shown (solved.Planned plan cost bound tree) rotations visits = plan_file t plan ∷ proof_file t true tree ∷ rotation_file shown rotations visits ∷ []
solved_files t shown (solved.Infeasible tree) rotations visits = proof_file t false tree ∷ rotation_file shown rotations visits ∷ []
solved_files t shown (solved.Unsettled bound tree) rotations visits = proof_file t false tree ∷ rotation_file shown rotations visits ∷ []

-- what a run answers of a solution and its rotations
abbrev pub solved_answer : Tables → Tables → SolveOptions → Solved → List FleetRotation → Answer
solved_answer t shown options s rotations = record {
  status = record { code = solved_status s };
  text = printed_text t options.json s rotations;
  files = solved_files t shown s rotations options.rotations.visits;
}

-- the answer of a solution is given, with the rotations of its plan on the tables that are shown
pub record ShowsRotations (options : SolveOptions) (t : Tables) (solution : Solved) (shown : Tables) (flown : List ℕ) (answer : Answer) : Type 0 where
  pub rotations : List FleetRotation
  pub rotates : ArePlanRotations shown flown options.rotations.days options.rotations.visits rotations
  pub is : answer ≡ solved_answer t shown options solution rotations
