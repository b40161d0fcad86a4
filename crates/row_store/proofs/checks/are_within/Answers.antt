use Rattle.std.proofs.Common.{pos, get_or, refl, sym, rules, arith}
use Rattle.std.proofs.lemmas.Int.{ints}
use mir.Val.{SFits}
use mir.Syntax.{w128}
use Rattle.sums.proofs.Tests.{unlike}
use Rattle.frac_row.specs.Outgrown.{IsWithin}
use Rattle.row_store.proofs.AllPlaces.{all_more, all_places}
use Rattle.row_store.proofs.checks.are_within.Goals as goal

pub loop-place-preserved : goal.loop-place-preserved
loop-place-preserved c k lt =
    let fits : SFits w128 (get_or c.args.costs.now c.loop-place.place (pos 0)) = search rules in
    let here : IsWithin (get_or c.args.costs.now c.loop-place.place (pos 0)) = omega (arith, ints) in
    all_more IsWithin c.args.costs.now (pos 0) c.loop-place.place k c.loop-place.invariant here lt

pub returns-then-costs-place : goal.returns-then-costs-place
returns-then-costs-place c = (λ t. unlike (sym t), λ all. let within : IsWithin (get_or c.args.costs.now c.loop-place.place (pos 0)) = all c.loop-place.place (pos 0) c.loop-place-test.true in absurd (omega (arith, ints)))

pub returns : goal.returns
returns c = (λ t. all_places IsWithin c.args.costs.now (pos 0) c.loop-place.place c.loop-place.invariant c.loop-place-test.false, λ all. refl)
