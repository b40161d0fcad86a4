use Rattle.std.proofs.Common.{◌<◌, length, rules}
use Rattle.lp_rows.proofs.Outlines.{arc_known}
use Rattle.lp_rows.proofs.layout.push_grounds.Goals as goal

pub bounds-as_slice-number : goal.bounds-as_slice-number
bounds-as_slice-number c =
    let within : c.loop-number.number-index < length c.as_slice-number-items.result.now = search rules in
    arc_known c.args.outline.now c.as_slice-number-items.result.now c.as_slice.result.now c.loop-number.number-index c.as_slice-number-items.ensures c.as_slice.ensures within
