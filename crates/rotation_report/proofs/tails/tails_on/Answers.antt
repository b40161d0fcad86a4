use Rattle.std.proofs.Common.{◌≡◌, ◌++◌, ◌<◌, length, map, sym, subst, ap, ◌∙◌, add-one, arith}
use Rattle.std.proofs.lemmas.List.{get_or_default}
use Rattle.calendar_dates.specs.Days.{day_on}
use Rattle.euler_rotation.specs.FleetRotations.{ComesRound, last_made, no_rotation, rotation_of}
use Rattle.rotation_report.specs.Tails.{fleet_tails, fleets_tails}
use Rattle.rotation_report.proofs.tails.tails_on.Goals as goal

pub loop-fleet-preserved : goal.loop-fleet-preserved
loop-fleet-preserved c =
    let t = c.args.tables.now in
    let rotations = c.args.rotations.now in
    let days = map day_on c.args.dates.now in
    let n = c.loop-fleet.fleet in
    let within : n < length rotations = omega arith in
    let same : c.index-rotations-fleet.result ≡ rotation_of rotations n = c.index-rotations-fleet.is ∙ get_or_default rotations n c.index-rotations-fleet.result no_rotation within in
    c.in_ok-push_tails.ensures ∙ ap (λ text. text ++ fleet_tails t n c.index-rotations-fleet.result c.args.past days) c.loop-fleet.invariant
    ∙ ap (λ made. fleets_tails t rotations c.args.past days n ++ fleet_tails t n made c.args.past days) same ∙ ap (fleets_tails t rotations c.args.past days) (sym (add-one n))

pub push_tails-requires-clause-tour : goal.push_tails-requires-clause-tour
push_tails-requires-clause-tour c =
    let n = c.loop-fleet.fleet in
    let within : n < length c.args.rotations.now = omega arith in
    let same : c.index-rotations-fleet.result ≡ rotation_of c.args.rotations.now n = c.index-rotations-fleet.is ∙ get_or_default c.args.rotations.now n c.index-rotations-fleet.result no_rotation within in
    subst (λ made. ComesRound c.args.tables.now n made.used (last_made made)) (sym same) (c.requires.tours.each n within)

pub returns : goal.returns
returns c =
    let all : c.loop-fleet.fleet ≡ length c.args.rotations.now = omega arith in
    c.loop-fleet.invariant ∙ ap (fleets_tails c.args.tables.now c.args.rotations.now c.args.past (map day_on c.args.dates.now)) all
