use Rattle.std.proofs.Common.{get_or, pos, sym, ◌∙◌}
use Rattle.island_prices.proofs.PaidRows.{one_beyond}
use Rattle.island_prices.proofs.paying.has_beyond.Goals as goal

pub returns-then-is_beyond : goal.returns-then-is_beyond
returns-then-is_beyond c = one_beyond (λ m. get_or c.args.row.now m (pos 0)) _ c.loop-minute.minute c.loop-minute-test.true (sym c.is_beyond.ensures ∙ c.if-is_beyond.true)
