use Rattle.std.proofs.Common.{ap, pos}
use Rattle.frac_row.specs.Content.{content_of}
use Rattle.frac_row.proofs.sparse_row.SparseRow.zeros.Goals as goal

pub returns : goal.returns
unfolding content_of
returns c = ap (λ xs. content_of xs c.args.width (pos 1)) c.new.ensures.items
