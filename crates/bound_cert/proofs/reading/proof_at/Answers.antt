use Rattle.proof_lines.specs.Known.{names_in}
use Rattle.proof_lines.specs.Words.{seen}
use Rattle.dual_bound.specs.Nodes.{nodes_of}
use Rattle.bound_cert.specs.Nodes.{head_is, proof_at, rest_at}
use Rattle.bound_cert.proofs.ReadOn.{gives_behind, gives_on}
use Rattle.bound_cert.proofs.reading.proof_at.Goals as goal

pub returns : goal.returns
unfolding proof_at
returns c =
    gives_on (λ proof. (proof.planned, nodes_of proof.tree)) c.of_version.result (head_is c.args.tables.now.windows (seen c.args.left.now)) c.in_ok-version.version _ c.in_ok-version.ensures.gives
    (gives_behind (λ proof. (proof.planned, nodes_of proof.tree)) c.of_version.result (rest_at (names_in c.in_ok-version.version c.args.tables.now)) c.args.left.now c.behind.result.now c.behind.ensures c.of_version.ensures)
