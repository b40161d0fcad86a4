use Rattle.std.proofs.Common.{◌∙◌, sym, ap}
use Rattle.frac_row.specs.Row.{width_of}
use Rattle.frac_row.proofs.Contents.{width_of-content}
use Rattle.frac_row.proofs.sparse_row.SparseRow.width.Goals as goal

pub returns : goal.returns
returns c = sym (width_of-content c.self.inside.entries.items c.self.inside.width c.self.inside.den) ∙ ap width_of c.self.view_is
