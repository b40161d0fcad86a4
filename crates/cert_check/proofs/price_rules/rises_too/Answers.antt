use Rattle.std.proofs.Common.{rules}
use Rattle.cert_check.proofs.PriceSteps.{risen_before}
use Rattle.cert_check.proofs.price_rules.rises_too.Goals as goal

pub returns-then-goes_on : goal.returns-then-goes_on
returns-then-goes_on c = risen_before c.args.tables.now c.args.prices.now c.args.place (search rules) c.requires.before
