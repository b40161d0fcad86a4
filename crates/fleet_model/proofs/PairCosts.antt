-- How much pairs cost at most.
use Rattle.std.proofs.Common.{Bool, true, false, if◌then◌else◌, ◌==◌, nat_lt, Option, Some, None, IfSome, ℤ, refl, sym, subst, inl, inr, arith}
use Rattle.std.specs.Option.{ForSome}
use Rattle.std.proofs.lemmas.Bool.{cases_lt}
use Rattle.std.proofs.lemmas.Int.{ints}
use Rattle.std.proofs.lemmas.List.Elements.{recursion_from_All}
use Rattle.fleet_model.specs.declared.parts.Pair.{Pair}
use Rattle.fleet_model.specs.declared.tables.Tables.{Tables}
use Rattle.fleet_model.specs.Costs.{cost_in}
use Rattle.fleet_model.specs.Legal.{cost_of, raised}
use Rattle.fleet_model.specs.Limits.{IsCost, IsCostUpTo, IsPairCost}
use Rattle.fleet_model.specs.Schedule.{fleet_by, fleets_in, left_out, leg_of, legs_in, no_leg, own_shift, shift_by, slot_by}
use Rattle.fleet_model.proofs.CostLookup.{found_fits}
use Rattle.fleet_model.proofs.Departures.{slot_within}
use Rattle.fleet_model.proofs.KeptTimes.{no_cost_of}

raised_fits : (o : Option ℤ) (more : ℤ) → IfSome o (IsCostUpTo 2) → IsCostUpTo 1 more → IfSome (raised o more) IsCost
raised_fits None more fits few = tt
raised_fits (Some cost) more fits few = record {
  no_less = omega (arith, ints, fits.no_less, few.no_less);
  no_more = omega (arith, ints, fits.no_more, few.no_more);
}

left_fits : (o : Option ℤ) → ForSome o (IsCostUpTo 1) → IfSome o IsCost
left_fits None fits = tt
left_fits (Some cost) fits =
    let few : IsCostUpTo 1 cost = fits cost refl in
    record { no_less = omega (arith, ints, few.no_less); no_more = omega (arith, ints, few.no_more) }

either_fits : (a b : Bool) (o u : Option ℤ) → IfSome o IsCost → IfSome u IsCost → IfSome (if a then o else if b then u else None) IsCost
either_fits true b o u first second = first
either_fits false true o u first second = second
either_fits false false o u first second = tt

-- what a pair costs, where it may be taken, is within three times what tables name
pub cost_fits : (t : Tables) (p : Pair) → IfSome (cost_of t p) IsCost
unfolding cost_of
cost_fits t p = elim (cases_lt p.leg (legs_in t)) [
  | inl below ↦
      let leg = t.in_range.legs_fit.each p.leg no_leg below in
      either_fits (nat_lt (fleet_by t p) (fleets_in t)) (p.choice == left_out t p.leg) _ _
      (raised_fits (cost_in t.costs p.leg (fleet_by t p)) (shift_by t p).extra
      (found_fits t.costs p.leg (fleet_by t p) (legs_in t) (fleets_in t) (recursion_from_All (IsPairCost (legs_in t) (fleets_in t)) t.costs t.in_range.costs_fit.each))
      (leg.shifts.each (slot_by t p) (own_shift 0) (slot_within t p)).extra)
      (left_fits (leg_of t p.leg).skip leg.skip)
  | inr past ↦ subst (λ o. IfSome o IsCost) (sym (no_cost_of t p past)) tt
]
