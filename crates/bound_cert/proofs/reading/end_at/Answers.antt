use Rattle.proof_lines.specs.Known.{naming}
use Rattle.proof_lines.specs.Words.{seen}
use Rattle.bound_cert.specs.Lines.{line_due}
use Rattle.bound_cert.specs.Nodes.{end_at, nothing}
use Rattle.bound_cert.proofs.ReadOn.{gives_behind, gives_on}
use Rattle.bound_cert.proofs.reading.end_at.Goals as goal
use Rattle.bound_cert.specs.declared.reading_lines.Due.TheVariants as due

pub returns : goal.returns
unfolding end_at
returns c =
    gives_on (λ u. tt) c.nothing.result (line_due (naming c.args.grammar.now) due.End (seen c.args.left.now)) c.in_ok-line_due.field-0 _ c.in_ok-line_due.ensures
    (gives_behind (λ u. tt) c.nothing.result nothing c.args.left.now c.behind.result.now c.behind.ensures c.nothing.ensures.gives)
