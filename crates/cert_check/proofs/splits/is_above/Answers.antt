use mir.Syntax.{w128}
use Rattle.std.proofs.lemmas.Int.{to_z-of_z}
use Rattle.cert_check.proofs.SplitsAbove.{split_prices, split_test}
use Rattle.cert_check.proofs.splits.is_above.Goals as goal

pub rounded_worth-requires-clause-proper : goal.rounded_worth-requires-clause-proper
rounded_worth-requires-clause-proper c = split_prices _ _ _ _ _ _ _ _ _ c.in-Split.is c.requires

pub returns-in-Split : goal.returns-in-Split
returns-in-Split c =
    split_test _ _ _ _ _ _ _ _ _ _ _ _ c.in-Split.is (split_prices _ _ _ _ _ _ _ _ _ c.in-Split.is c.requires) c.rounded_worth.ensures
    (rw (to_z-of_z w128 c.rounded_worth.result (record { sfits = c.rounded_worth.type_inv })) at c.is_less.ensures)
