use Rattle.std.proofs.Common.{arith}
use Rattle.simplex_frac.proofs.BasisCounts.{step_by, none_past, past_whole, past_total, total_is}
use Rattle.simplex_frac.proofs.basis_count.one_more.Goals as goal

pub returns-in_err-whole : goal.returns-in_err-whole
returns-in_err-whole c =
    none_past c.from_residual.result _ _ c.from_residual.ensures
    (past_whole _ _ _ (step_by c.args.others c.args.chosen c.args.count c.from-divisor.result c.from.result c.from-divisor.ensures c.from.ensures c.requires) c.in_err-whole.ensures)

pub returns-in_err-more : goal.returns-in_err-more
returns-in_err-more c =
    none_past c.from_residual-in_err-more.result _ _ c.from_residual-in_err-more.ensures
    (past_total _ _ c.in_ok-whole.whole _ (step_by c.args.others c.args.chosen c.args.count c.from-divisor.result c.from.result c.from-divisor.ensures c.from.ensures c.requires) c.in_ok-whole.ensures.1 c.in_err-more.ensures)

pub returns-then-more-le-MOST_BASES : goal.returns-then-more-le-MOST_BASES
returns-then-more-le-MOST_BASES c = (
  total_is _ _ c.in_ok-whole.whole _ c.in_ok-more.more (step_by c.args.others c.args.chosen c.args.count c.from-divisor.result c.from.result c.from-divisor.ensures c.from.ensures c.requires) c.in_ok-whole.ensures.1 c.in_ok-more.ensures.1,
  c.if-more-le-MOST_BASES.true,
)

pub returns-else-more-le-MOST_BASES : goal.returns-else-more-le-MOST_BASES
returns-else-more-le-MOST_BASES c =
    omega (arith, c.if-more-le-MOST_BASES.false, total_is _ _ c.in_ok-whole.whole _ c.in_ok-more.more (step_by c.args.others c.args.chosen c.args.count c.from-divisor.result c.from.result c.from-divisor.ensures c.from.ensures c.requires) c.in_ok-whole.ensures.1 c.in_ok-more.ensures.1)
