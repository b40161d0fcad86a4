use Rattle.proof_lines.specs.Known.{naming}
use Rattle.proof_lines.specs.Words.{seen}
use Rattle.bound_cert.specs.Reading.{scale_of}
use Rattle.bound_cert.proofs.ReadOn.{said_gives}
use Rattle.bound_cert.proofs.line_reading.scale_at.Goals as goal
use Rattle.bound_cert.specs.declared.reading_lines.Due.TheVariants as due

pub returns : goal.returns
returns c =
    said_gives (λ scale. scale) c.scale_of.result (naming c.args.grammar.now) due.Scale scale_of (seen c.args.left.now) c.in_ok-line.line c.in_ok-line.ensures c.scale_of.ensures.gives
