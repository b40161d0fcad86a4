use Rattle.std.proofs.Common.{rules, ◌≡◌, length}
use Rattle.fleet_model.proofs.Bits.{saved_is}
use Rattle.fleet_model.proofs.saved.SavedRow.of.Goals as goal

pub returns : goal.returns
returns c =
    let long : length c.args.row.now ≡ 181 = search rules in
    saved_is c.args.row.now c.number_of.result c.number_of-2.result c.number_of-3.result long c.number_of.ensures c.number_of-2.ensures c.number_of-3.ensures
