use Rattle.std.proofs.Common.{ap}
use Rattle.euler_rotation.proofs.Counted.{are_by_plan, is_by_plan}
use Rattle.rotation_report.specs.RotationWords.{rotation_words}
use Rattle.rotation_report.specs.Tails.{tails_text}
use Rattle.rotation_report.proofs.laws.told_by_the_plan.Goals as goal

pub returns-clause-words : goal.returns-clause-words
returns-clause-words c t a f made uses = ap (rotation_words t) (is_by_plan t a f made uses)

pub returns-clause-tails : goal.returns-clause-tails
returns-clause-tails c t a rotations past first count tell = ap (λ told. tails_text t told past first count) (are_by_plan t a rotations tell)
