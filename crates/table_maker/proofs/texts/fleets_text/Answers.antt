use Rattle.std.proofs.Common.{rules}
use Rattle.table_rows.specs.fleet_tables.Fleets.{fleet_header}
use Rattle.table_maker.specs.Records.{fleet_fields}
use Rattle.table_maker.proofs.Lines.{text_begun, text_grown}
use Rattle.table_maker.proofs.texts.fleets_text.Goals as goal

pub returns : goal.returns
returns c =
    let fields = fleet_fields c.args.trips in
    let begun = text_begun fleet_header fields c.extend_from_slice.new.self.items (search rules) in
    text_grown fleet_header fields 1 _ _ (text_grown fleet_header fields 0 _ _ begun c.in_ok-push_fleet.ensures) c.in_ok-push_fleet-2.ensures
