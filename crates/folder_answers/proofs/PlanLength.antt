-- The text of a plan is within the limit under which it is read.
use Rattle.std.proofs.Common.{ℕ, ◌≤◌, List, length, arith}
use Rattle.fleet_model.specs.declared.tables.Tables.{Tables}
use Rattle.plan_desk.specs.declared.file.DeskFile.TheVariants as desk_file
use Rattle.plan_text.proofs.PlanLength.{plan_length}
use Rattle.plan_text.specs.Text.{plan_text}
use Rattle.folder_answers.specs.Gathered.{limit_of}

pub plan_within : (t : Tables) (a : List ℕ) → length (plan_text t a) ≤ limit_of desk_file.Plan
unfolding limit_of
plan_within t a = omega (arith, plan_length t a, t.in_range.legs_fit.few)
