use Rattle.std.proofs.Common.{ap, arith}
use Rattle.cert_check.specs.Rules.{rule_number}
use Rattle.cert_check.specs.declared.rules.Rule.TheVariants as rule
use Rattle.cert_check.proofs.NodeRules.{parts_within, prices_proper}
use Rattle.cert_check.proofs.node_rules.keeps.Goals as goal

pub has_falls-requires-clause-within : goal.has_falls-requires-clause-within
has_falls-requires-clause-within c = c.requires.before.each rule.Limits (omega (arith, ap rule_number c.in-Fall.is))

pub has_rents-requires-clause-within : goal.has_rents-requires-clause-within
has_rents-requires-clause-within c = c.requires.before.each rule.Limits (omega (arith, ap rule_number c.in-Rent.is))

pub is_refuted-requires : goal.is_refuted-requires
is_refuted-requires c = prices_proper _ _ _ _ c.requires.before (omega (arith, ap rule_number c.in-Refuted.is))

pub is_priced-requires : goal.is_priced-requires
is_priced-requires c = prices_proper _ _ _ _ c.requires.before (omega (arith, ap rule_number c.in-Priced.is))

pub has_fraction-requires-clause-proper : goal.has_fraction-requires-clause-proper
has_fraction-requires-clause-proper c = prices_proper _ _ _ _ c.requires.before (omega (arith, ap rule_number c.in-Fraction.is))

pub has_fraction-requires-clause-parts : goal.has_fraction-requires-clause-parts
has_fraction-requires-clause-parts c = parts_within _ _ _ (c.requires.before.each rule.Mixed (omega (arith, ap rule_number c.in-Fraction.is)))
