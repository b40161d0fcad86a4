use Rattle.std.proofs.Common.{◌≡◌, ◌++◌, ◌<◌, length, map, None, IfSome, sym, subst, ap, ◌∙◌, add-one, arith}
use Rattle.std.proofs.lemmas.List.{get_or_default}
use Rattle.calendar_dates.specs.Days.{day_on}
use Rattle.euler_rotation.specs.FleetRotations.{ComesRound, last_made, no_rotation, rotation_of}
use Rattle.due_report.specs.Lines.{IsTellable, fleet_due, fleets_due}
use Rattle.due_report.specs.Placings.{placing_of}
use Rattle.due_report.proofs.lines.due_on.Goals as goal

pub loop-fleet-preserved : goal.loop-fleet-preserved
loop-fleet-preserved c =
    let t = c.args.tables.now in
    let rotations = c.args.rotations.now in
    let tails = c.args.tails.now in
    let placings = c.args.placings.now in
    let days = map day_on c.args.dates.now in
    let n = c.loop-fleet.fleet in
    let within : n < length rotations = omega arith in
    let placed : n < length placings = omega (arith, within, c.requires.placings.each_fleet) in
    let made : c.index-rotations-fleet.result ≡ rotation_of rotations n = c.index-rotations-fleet.is ∙ get_or_default rotations n c.index-rotations-fleet.result no_rotation within in
    let placing : c.index-placings-fleet.result ≡ placing_of placings n = c.index-placings-fleet.is ∙ get_or_default placings n c.index-placings-fleet.result None placed in
    c.in_ok-push_due.ensures ∙ ap (λ text. text ++ fleet_due t n c.index-rotations-fleet.result tails c.index-placings-fleet.result days) c.loop-fleet.invariant
    ∙ ap (λ one. fleets_due t rotations tails placings days n ++ fleet_due t n one tails c.index-placings-fleet.result days) made
    ∙ ap (λ one. fleets_due t rotations tails placings days n ++ fleet_due t n (rotation_of rotations n) tails one days) placing
    ∙ ap (fleets_due t rotations tails placings days) (sym (add-one n))

pub push_due-requires-clause-tour : goal.push_due-requires-clause-tour
push_due-requires-clause-tour c =
    let rotations = c.args.rotations.now in
    let n = c.loop-fleet.fleet in
    let within : n < length rotations = omega arith in
    let made : c.index-rotations-fleet.result ≡ rotation_of rotations n = c.index-rotations-fleet.is ∙ get_or_default rotations n c.index-rotations-fleet.result no_rotation within in
    subst (λ one. ComesRound c.args.tables.now n one.used (last_made one)) (sym made) (c.requires.tours.each n within)

pub push_due-requires-clause-placing : goal.push_due-requires-clause-placing
push_due-requires-clause-placing c =
    let t = c.args.tables.now in
    let rotations = c.args.rotations.now in
    let tails = c.args.tails.now in
    let placings = c.args.placings.now in
    let n = c.loop-fleet.fleet in
    let within : n < length rotations = omega arith in
    let placed : n < length placings = omega (arith, within, c.requires.placings.each_fleet) in
    let made : c.index-rotations-fleet.result ≡ rotation_of rotations n = c.index-rotations-fleet.is ∙ get_or_default rotations n c.index-rotations-fleet.result no_rotation within in
    let placing : c.index-placings-fleet.result ≡ placing_of placings n = c.index-placings-fleet.is ∙ get_or_default placings n c.index-placings-fleet.result None placed in
    subst (λ one. IfSome c.index-placings-fleet.result (IsTellable t n one.used tails)) (sym made)
    (subst (λ one. IfSome one (IsTellable t n (rotation_of rotations n).used tails)) (sym placing) (c.requires.placings.each n within))
