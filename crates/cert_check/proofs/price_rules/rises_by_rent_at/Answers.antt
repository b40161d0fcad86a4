use Rattle.std.proofs.Common.{◌-◌, ap}
use Rattle.cert_check.proofs.PriceSteps.{risen_at}
use Rattle.cert_check.proofs.price_rules.rises_by_rent_at.Goals as goal

pub returns : goal.returns
returns c =
    risen_at c.args.tables.now _ _ _ _ _ _ _ _ (ap (λ n. n - 1) c.period-end.ensures.value) c.price-first.ensures.value c.price-last.ensures.value c.rent-rent.ensures.value
    c.with_charge.ensures c.price-first.ensures.size c.price-last.ensures.size c.rent-rent.ensures.size (record { sfits = c.with_charge.type_inv }) c.is_no_more.ensures
