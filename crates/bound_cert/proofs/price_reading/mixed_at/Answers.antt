use Rattle.std.proofs.Common.{[], None, ap, rules, ◌∙◌}
use Rattle.proof_lines.specs.Known.{naming}
use Rattle.proof_lines.specs.Words.{seen}
use Rattle.bound_cert.specs.Reading.{weights_from}
use Rattle.bound_cert.proofs.ReadOn.{behind_is, mixed_read}
use Rattle.bound_cert.proofs.price_reading.mixed_at.Goals as goal

pub returns : goal.returns
returns c =
    mixed_read (naming c.args.grammar.now) (seen c.args.left.now) _ (seen c.in_ok-rest.rest.now) (search rules)
    (ap (weights_from (naming c.args.grammar.now) [] None) (behind_is c.args.left.now c.behind.result.now c.behind.ensures) ∙ search rules)
