use Rattle.std.proofs.Common.{◌≡◌, ◌∙◌, arith}
use Rattle.fleet_model.specs.Schedule.{stations_in}
use Rattle.euler_rotation.proofs.BareMinutes.{one_station_more}
use Rattle.euler_rotation.proofs.clean.all_segments.Goals as goal

pub loop-station-preserved : goal.loop-station-preserved
loop-station-preserved c =
    let more = one_station_more c.args.asked.now.tables.now c.args.asked.now.plan.now c.args.asked.now.fleet c.loop-station.all.items c.push.new.self.items c.loop-station.station c.in_ok-segments_at.field-0
    c.in_ok-push.ensures.items c.loop-station.invariant.each_station c.loop-station.invariant.each c.in_ok-segments_at.ensures in
    record { each_station = more.0; each = more.1 }

pub returns : goal.returns
returns c =
    let all : c.loop-station.station ≡ stations_in c.args.asked.now.tables.now = omega (arith, c.loop-station-test.false, c.loop-station.auto.station-end, c.station_count-station-end.ensures) in
    record { each_station = c.loop-station.invariant.each_station ∙ all; each = λ s below. c.loop-station.invariant.each s (omega (arith, below, all)) }
