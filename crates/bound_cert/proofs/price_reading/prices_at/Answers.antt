use Rattle.std.proofs.Common.{[], ap, rules, ◌∙◌}
use Rattle.proof_lines.specs.Known.{naming}
use Rattle.proof_lines.specs.Words.{seen}
use Rattle.bound_cert.specs.Reading.{rents_from}
use Rattle.bound_cert.proofs.ReadOn.{behind_is, prices_read}
use Rattle.bound_cert.proofs.price_reading.prices_at.Goals as goal

pub returns : goal.returns
returns c =
    prices_read (naming c.args.grammar.now) (seen c.args.left.now) _ (seen c.in_ok-rest.rest.now) (seen c.in_ok-rest-2.rest.now) (seen c.in_ok-rest-3.rest.now) (search rules)
    (ap (rents_from (naming c.args.grammar.now) []) (behind_is c.args.left.now c.behind.result.now c.behind.ensures) ∙ search rules)
    (search rules) (search rules)
