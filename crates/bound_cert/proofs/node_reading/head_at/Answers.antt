use Rattle.proof_lines.specs.Known.{naming}
use Rattle.proof_lines.specs.Words.{seen}
use Rattle.bound_cert.specs.Lines.{line_due}
use Rattle.bound_cert.specs.Reading.{head_at, head_of}
use Rattle.bound_cert.proofs.ReadOn.{gives_on}
use Rattle.bound_cert.proofs.node_reading.head_at.Goals as goal
use Rattle.bound_cert.specs.declared.reading_lines.Due.TheVariants as due

pub returns : goal.returns
unfolding head_at
returns c =
    gives_on (λ head. head) c.deep_at.result (line_due (naming c.args.grammar.now) due.Node (seen c.args.left.now)) c.in_ok-line.line _ c.in_ok-line.ensures
    (gives_on (λ head. head) c.deep_at.result (head_of c.in_ok-line.line (seen c.args.left.now)) c.in_ok-head.head _ c.in_ok-head.ensures.gives c.deep_at.ensures.gives)
