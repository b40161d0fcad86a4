use Rattle.std.proofs.Common.{◌≤◌, ◌∙◌, length, sym, ap, arith}
use Rattle.tail_dates.specs.Places.{places_in}
use Rattle.tail_dates.proofs.AtPlaces.{keys_long, told_known}
use Rattle.tail_dates.proofs.placing.starts_there.Goals as goal

pub keys-requires-clause-places : goal.keys-requires-clause-places
keys-requires-clause-places c =
    let told = told_known c.args.told.now c.args.places.now (places_in c.args.tables.now) c.requires.none_lacks c.requires.known (c.requires.told ∙ sym c.requires.places) in
    let few : places_in c.args.tables.now ≤ 1200 = omega (arith, c.args.tables.now.in_range.stations_fit.few, c.args.tables.now.in_range.legs_fit.few) in
    record { each = λ k below. omega (arith, told.each k below, few) }

pub starts_by_rank-requires-clause-few : goal.starts_by_rank-requires-clause-few
starts_by_rank-requires-clause-few c =
    let long = ap length (c.deref-2.ensures.value ∙ c.in_ok-starts.ensures) ∙ keys_long c.args.places.now c.args.reaches.now (c.requires.places ∙ sym c.requires.reaches) c.requires.few_reaches in
    omega (arith, long, c.requires.reaches, c.requires.few)
