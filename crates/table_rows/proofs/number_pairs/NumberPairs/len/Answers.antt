use Rattle.std.proofs.Common.{◌∙◌, ap, length, sym}
use Rattle.sums.proofs.Places.{length-list_below}
use Rattle.table_rows.proofs.number_pairs.NumberPairs.len.Goals as goal

pub returns : goal.returns
returns c = c.len.ensures.len ∙ sym (length-list_below _ _) ∙ ap length c.self.view_is
