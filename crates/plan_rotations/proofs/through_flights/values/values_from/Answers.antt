use Rattle.std.proofs.Common.{◌≡◌, ◌<◌, ◌≤◌, ◌-◌, ℕ, ℤ, pos, ◌≤ℤ◌, List, length, slice_index_or, unsigned_abs, ◌∙◌, ap, sym, subst, refl, arith, length-set}
use Rattle.std.proofs.lemmas.Int.{ints, to_z-of_z}
use mir.Val.{SFits}
use mir.Syntax.{w128}
use Rattle.fleet_model.specs.declared.parts.Through.{Through}
use Rattle.fleet_model.specs.declared.limits.TheConstants.{MAX_COST}
use Rattle.fleet_model.specs.Limits.{AreThroughs, IsThrough}
use Rattle.fleet_model.specs.Schedule.{legs_in}
use Rattle.plan_rotations.proofs.through_flights.ListedValues.{first_values, more_values, nothing, same_values, values_size}
use Rattle.plan_rotations.proofs.through_flights.values.values_from.Goals as goal

at_most : (a b : List Through) → a ≡ b → length a ≤ length b
at_most a b e = rw e (omega arith)

pub loop-left-init : goal.loop-left-init
loop-left-init c = record {
  size = values_size _ _ _ c.in_ok-values.ensures c.len.ensures;
  within = at_most _ _ c.as_slice-entries.ensures;
  each = first_values _ _ _ _ _ _ c.in_ok-values.ensures c.len.ensures c.as_slice-entries.ensures;
}

entry_fits : (legs : ℕ) (throughs read : List Through) (k : ℕ) → AreThroughs legs throughs → read ≡ throughs → k < length throughs → IsThrough legs (slice_index_or read k nothing)
entry_fits legs throughs read k fit e lt = subst (λ es. IsThrough legs (slice_index_or es k nothing)) (sym e) (fit.each k nothing lt)

pub loop-left-preserved-then-entry-arriving : goal.loop-left-preserved-then-entry-arriving
loop-left-preserved-then-entry-arriving c =
    let some : 0 < c.loop-left.left = c.loop-left-test.true in
    let within : c.loop-left.left ≤ length c.args.tables.now.throughs = c.loop-left.invariant.within in
    let lt : c.loop-left.left - 1 < length c.args.tables.now.throughs = omega arith in
    let entry : Through = slice_index_or c.as_slice-entries.result.now (c.loop-left.left - 1) nothing in
    let fits : IsThrough (legs_in c.args.tables.now) entry = entry_fits _ _ _ _ c.args.tables.now.in_range.throughs_fit c.as_slice-entries.ensures lt in
    let number : SFits w128 entry.value = in_128 _ fits.no_less fits.no_more in
    record {
      size = ap length c.set.ensures ∙ length-set _ _ _ ∙ c.loop-left.invariant.size;
      within = omega arith;
      each = more_values c.loop-left.values _ _ _ _ _ c.loop-left.left _ entry c.as_slice-entries.ensures some within refl c.if-entry-arriving.true fits.departing
          c.loop-left.invariant.size (ap unsigned_abs (to_z-of_z w128 entry.value number)) c.set.ensures c.loop-left.invariant.each;
    }
  where
    in_128 : (z : ℤ) → pos 0 ≤ℤ z → z ≤ℤ MAX_COST → SFits w128 z
    in_128 z no_less no_more = omega (arith, ints)

pub loop-left-preserved : goal.loop-left-preserved
loop-left-preserved c =
    let some : 0 < c.loop-left.left = c.loop-left-test.true in
    let within : c.loop-left.left ≤ length c.args.tables.now.throughs = c.loop-left.invariant.within in
    record {
      size = c.loop-left.invariant.size;
      within = omega (arith, within);
      each = same_values c.loop-left.values _ _ _ _ c.loop-left.left (slice_index_or c.as_slice-entries.result.now (c.loop-left.left - 1) nothing) c.as_slice-entries.ensures some within refl
          c.if-entry-arriving.false c.loop-left.invariant.each;
    }
