use Rattle.std.proofs.Common.{◌≤◌, [], ◌∷◌, OnOk, codes, rules, subst}
use Rattle.fleet_model.specs.Schedule.{fleet_by, fleets_in, leg_of}
use Rattle.plan_text.specs.CsvText.{HasWritten}
use Rattle.plan_text.specs.Text.{record_of}
use Rattle.plan_text.proofs.FieldTexts.{out_record}
use Rattle.plan_text.proofs.writing.put_pair.Goals as goal

pub returns-else-fleet-fleet_count : goal.returns-else-fleet-fleet_count
returns-else-fleet-fleet_count c =
    let out : fleets_in c.args.tables.now ≤ fleet_by c.args.tables.now c.args.pair = search rules in
    let put = c.put_texts-else-fleet-fleet_count in
    let wrote : OnOk put.result (HasWritten c.args.writer.now put.new.writer (record_of c.args.tables.now.windows (leg_of c.args.tables.now c.args.pair.leg).flight (codes "-") (codes "0") ∷ [])) = search rules in
    subst (λ fields. OnOk put.result (HasWritten c.args.writer.now put.new.writer (fields ∷ []))) (out_record c.args.tables.now c.args.pair out) wrote
