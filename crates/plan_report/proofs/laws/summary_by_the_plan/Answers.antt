use Rattle.std.proofs.Common.{ap}
use Rattle.euler_rotation.proofs.Counted.{are_by_plan}
use Rattle.plan_report.specs.Json.{json_text}
use Rattle.plan_report.specs.Summary.{summary_text}
use Rattle.plan_report.proofs.laws.summary_by_the_plan.Goals as goal

pub returns-clause-lines : goal.returns-clause-lines
returns-clause-lines c t a solved rotations tell = ap (summary_text t solved) (are_by_plan t a rotations tell)

pub returns-clause-json : goal.returns-clause-json
returns-clause-json c t a solved rotations tell = ap (json_text t solved) (are_by_plan t a rotations tell)
