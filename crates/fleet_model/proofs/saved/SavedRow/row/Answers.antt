use Rattle.std.proofs.Common.{◌∙◌, replicate, false}
use Rattle.std.proofs.lemmas.List.{length-replicate}
use Rattle.fleet_model.proofs.Bits.{written_pieces}
use Rattle.fleet_model.proofs.saved.SavedRow.row.Goals as goal

pub returns : goal.returns
returns c =
    written_pieces (replicate 181 false) c.write_bits.new.row c.write_bits-2.new.row c.write_bits-3.new.row c.self.inside.first c.self.inside.second c.self.inside.third (length-replicate 181 false)
    c.write_bits.ensures c.write_bits-2.ensures c.write_bits-3.ensures ∙ c.self.view_is
