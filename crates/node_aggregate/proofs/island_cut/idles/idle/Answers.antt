use Rattle.std.proofs.Common.{◌≡◌, ◌++◌, true, false, map, sym, ◌∙◌, ap, arith}
use Rattle.fleet_model.specs.Counts.{choice_at}
use Rattle.fleet_model.specs.Schedule.{stations_in}
use Rattle.node_aggregate.specs.island_cut.Islands.{has_islands, have_pairs, idle_at, idle_minutes, idles_below}
use Rattle.node_aggregate.specs.island_cut.PlainDay.{is_plain_day}
use Rattle.node_aggregate.proofs.island_cut.Listed.{first_station, no_idles, on_other_days, station_more, without_pairs}
use Rattle.node_aggregate.proofs.island_cut.QuickestFleets.{pairs_tested}
use Rattle.node_aggregate.proofs.island_cut.Told.{islands_told}
use Rattle.node_aggregate.proofs.island_cut.idles.idle.Goals as goal

pub returns-then-not-is_plain_day : goal.returns-then-not-is_plain_day
returns-then-not-is_plain_day c =
    let other : is_plain_day c.args.tables.now ≡ false = sym c.is_plain_day.ensures ∙ c.if-not-is_plain_day.true in
    c.from_vec.ensures ∙ c.new.ensures.items ∙ sym (no_idles c.args.tables.now (stations_in c.args.tables.now) (on_other_days c.args.tables.now other))

pub returns-then-not-have_pairs : goal.returns-then-not-have_pairs
returns-then-not-have_pairs c =
    let day : is_plain_day c.args.tables.now ≡ true = sym c.is_plain_day.ensures ∙ c.if-not-is_plain_day.false in
    let none : have_pairs c.args.tables.now ≡ false = sym c.have_pairs.ensures.value ∙ c.if-not-have_pairs.true in
    c.from_vec-then-not-have_pairs.ensures ∙ c.new-then-not-have_pairs.ensures.items ∙ sym (no_idles c.args.tables.now (stations_in c.args.tables.now) (without_pairs c.args.tables.now day none))

pub quickest-plan-requires : goal.quickest-plan-requires
quickest-plan-requires c = pairs_tested c.args.tables.now (sym c.have_pairs.ensures.value ∙ c.if-not-have_pairs.false)

pub returns-then-not-uses_all : goal.returns-then-not-uses_all
returns-then-not-uses_all c =
    let told = islands_told c.args.tables.now (choice_at c.quickest-plan.result) c.quickest-plan.ensures.quickest (sym c.is_plain_day.ensures ∙ c.if-not-is_plain_day.false) (sym c.have_pairs.ensures.value ∙ c.if-not-have_pairs.false) in
    let none : has_islands c.args.tables.now ≡ false = sym told ∙ sym c.uses_all.ensures ∙ c.if-not-uses_all.true in
    c.from_vec-then-not-uses_all.ensures ∙ c.new-then-not-uses_all.ensures.items ∙ sym (no_idles c.args.tables.now (stations_in c.args.tables.now) none)

pub push_idles-requires-clause-islands : goal.push_idles-requires-clause-islands
push_idles-requires-clause-islands c =
    let told = islands_told c.args.tables.now (choice_at c.quickest-plan.result) c.quickest-plan.ensures.quickest (sym c.is_plain_day.ensures ∙ c.if-not-is_plain_day.false) (sym c.have_pairs.ensures.value ∙ c.if-not-have_pairs.false) in
    sym told ∙ sym c.uses_all.ensures ∙ c.if-not-uses_all.false

pub loop-station-init : goal.loop-station-init
loop-station-init c = c.new-idles.ensures.items ∙ sym (first_station c.args.tables.now)

pub loop-station-preserved : goal.loop-station-preserved
loop-station-preserved c =
    c.in_ok-push_idles.ensures ∙ ap (λ xs. xs ++ map (idle_at c.loop-station.station) (idle_minutes c.args.tables.now c.loop-station.station)) c.loop-station.invariant
    ∙ sym (station_more c.args.tables.now c.loop-station.station)

pub returns : goal.returns
returns c = c.from_vec-2.ensures ∙ c.loop-station.invariant ∙ ap (idles_below c.args.tables.now) (omega (arith, c.loop-station-test.false, c.loop-station.auto.station-end, c.station_count-station-end.ensures))
