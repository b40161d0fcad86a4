use Rattle.std.proofs.Common.{map, ap, ◌∙◌, length, arith}
use Rattle.std.proofs.lemmas.List.{length-map}
use Rattle.table_rows.specs.fleet_tables.Costs.{flight_of}
use Rattle.sched_read.proofs.optional_legs.reading.OptionalReader.new.Goals as goal

pub invariant_of-result : goal.invariant_of-result
invariant_of-result c =
    let t = c.args.tables.now in
    let flights = ap length (c.in_ok-numbers_of.ensures ∙ ap (map flight_of) c.as_slice.ensures) ∙ length-map t.legs flight_of in
    record { few_legs = omega (arith, flights, t.in_range.legs_fit.few) }
