use Rattle.std.proofs.Common.{◌≡◌, ◌<◌, ℕ, List, length, slice_index, slice_index_or, get_or, ◌∙◌, ap, subst, sym, rules}
use Rattle.std.proofs.lemmas.Grind.{get_or_default_zero}
use Rattle.sums.specs.Places.{list_below}
use Rattle.sums.proofs.Places.{get_or-list_below, length-list_below}
use Rattle.fleet_model.specs.declared.parts.Leg.{Leg}
use Rattle.fleet_model.specs.declared.tables.Tables.{Tables}
use Rattle.fleet_model.specs.Counts.{weights_of}
use Rattle.fleet_model.specs.Schedule.{leg_of, stations_in}
use Rattle.fleet_model.specs.Times.{ready_minute}
use Rattle.node_aggregate.specs.island_cut.Zeros.{zeros_of}
use Rattle.plan_rotations.specs.through_flights.Waits.{IsLongestWait}
use Rattle.plan_rotations.proofs.through_flights.LongestWaits.{longest_is, zeros_within}
use Rattle.plan_rotations.proofs.through_flights.Pushing.{one_longer, pushed}
use Rattle.plan_rotations.proofs.through_flights.waits.longest_waits.Goals as goal

known : (f : ℕ → List ℕ) (all : List (List ℕ)) (n s : ℕ) → all ≡ list_below f n → s < n → s < length all
known f all n s e lt = subst (λ m. s < m) (sym (ap length e ∙ length-list_below f n)) lt

-- the zero minutes at the station where a leg lands
zeros_there : (t : Tables) (a : List ℕ) (f l : ℕ) (all : List (List ℕ)) (leg : Leg) (zeros entry : List ℕ) → all ≡ list_below (zeros_of t (weights_of a) f) (stations_in t)
    → leg ≡ leg_of t l → leg.to < stations_in t → entry ≡ slice_index_or all leg.to entry → zeros ≡ entry → zeros ≡ zeros_of t (weights_of a) f (leg_of t l).to
zeros_there t a f l all leg zeros entry listed is lt at same =
    same ∙ at ∙ ap (λ xs. slice_index_or xs leg.to entry) listed ∙ get_or-list_below (zeros_of t (weights_of a) f) (stations_in t) leg.to entry lt ∙ ap (λ x. zeros_of t (weights_of a) f x.to) is

pub index-requires : goal.index-requires
index-requires c = let h : c.leg.result.now.to < length c.in_ok-zeros.zeros.items = known _ _ _ _ c.in_ok-zeros.ensures c.leg.ensures.fits.to in search (rules, h)

pub longest_wait-requires-clause-zeros : goal.longest_wait-requires-clause-zeros
longest_wait-requires-clause-zeros c k d lt =
    subst (λ (p : ℕ). get_or c.as_slice.result.now k d < p) (sym c.period-period.ensures.value) (any_default _ _ k d lt (zeros_within _ _ _ _ _ (zeros_there _ _ _ _ _ _ _ _ c.in_ok-zeros.ensures c.leg.ensures.value c.leg.ensures.fits.to c.index.ensures c.as_slice.ensures) k lt))
  where
    any_default : (period : ℕ) (xs : List ℕ) (k d : ℕ) → k < length xs → slice_index xs k < period → get_or xs k d < period
    any_default period xs k d lt below = rw (get_or_default_zero xs k d lt) below

pub loop-leg-preserved : goal.loop-leg-preserved
loop-leg-preserved c =
    let zeros = zeros_there _ _ _ _ _ _ _ _ c.in_ok-zeros.ensures c.leg.ensures.value c.leg.ensures.fits.to c.index.ensures c.as_slice.ensures in
    record {
      size = one_longer _ _ _ _ c.in_ok-push.ensures.items c.loop-leg.invariant.size;
      each = pushed (λ k x. IsLongestWait c.args.tables.now c.args.plan.now c.args.fleet k x) 0 _ _ _ _
          c.in_ok-push.ensures.items c.loop-leg.invariant.size c.loop-leg.invariant.each
          (longest_is _ _ _ _ _ _ _ _ c.period-period.ensures.value zeros (c.ready-ready.ensures.value ∙ ap (ready_minute c.args.tables.now) c.flight.ensures.value) c.longest_wait.ensures.no_more c.longest_wait.ensures.all);
    }
