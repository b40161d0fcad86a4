use Rattle.std.proofs.Common.{◌∙◌, ap, length}
use Rattle.frac_row.specs.Row.{width_of}
use Rattle.frac_row.proofs.Rows.{width_of-reduced}
use Rattle.price_lift.proofs.end_lifts.mixed_of.Goals as goal

pub weights-requires : goal.weights-requires
weights-requires c = ap length c.as_slice.ensures ∙ ap width_of c.reduce.ensures ∙ width_of-reduced c.args.parts ∙ c.requires.width
