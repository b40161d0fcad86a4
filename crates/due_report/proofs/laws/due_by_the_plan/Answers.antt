use Rattle.std.proofs.Common.{ap}
use Rattle.due_report.specs.Lines.{due_text}
use Rattle.euler_rotation.proofs.Counted.{are_by_plan}
use Rattle.due_report.proofs.laws.due_by_the_plan.Goals as goal

pub returns : goal.returns
returns c t a rotations tails placings first count tell = ap (λ told. due_text t told tails placings first count) (are_by_plan t a rotations tell)
