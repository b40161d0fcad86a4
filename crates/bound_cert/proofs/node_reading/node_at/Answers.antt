use Rattle.proof_lines.specs.Known.{naming}
use Rattle.proof_lines.specs.Words.{seen}
use Rattle.bound_cert.specs.Reading.{body_at, head_at, node_said}
use Rattle.bound_cert.proofs.ReadOn.{gives_behind, gives_on}
use Rattle.bound_cert.proofs.node_reading.node_at.Goals as goal

pub returns : goal.returns
unfolding node_said
returns c =
    gives_on (λ r. (r.0, seen r.1.now)) c.body_at.result (head_at (naming c.args.grammar.now) c.args.above (seen c.args.left.now)) c.in_ok-head.head _ c.in_ok-head.ensures
    (gives_behind (λ r. (r.0, seen r.1.now)) c.body_at.result (body_at (naming c.args.grammar.now) c.in_ok-head.head) c.args.left.now c.behind.result.now c.behind.ensures c.body_at.ensures)
