use Rattle.proof_lines.specs.Known.{naming}
use Rattle.proof_lines.specs.Words.{seen}
use Rattle.bound_cert.specs.Nodes.{plan_in_line}
use Rattle.bound_cert.proofs.ReadOn.{said_gives}
use Rattle.bound_cert.proofs.reading.plan_at.Goals as goal
use Rattle.bound_cert.specs.declared.reading_lines.Due.TheVariants as due

pub returns : goal.returns
returns c =
    said_gives (λ planned. planned) c.plan_of.result (naming c.args.grammar.now) due.Plan plan_in_line (seen c.args.left.now) c.in_ok-line.line c.in_ok-line.ensures c.plan_of.ensures.gives
