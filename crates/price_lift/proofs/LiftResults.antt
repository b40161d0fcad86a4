-- What calls give on, by their results.
use Rattle.std.proofs.Common.{◌≡◌, ℕ, List, Option, Some, None, Result, Ok, Err, IfOk, IfErr, MatchResult, refl, sym, ap, subst}
use Rattle.sums.specs.Places.{first_below, or_else}
use Rattle.frac_row.specs.declared.row.FracRow.{FracRow}
use Rattle.fleet_model.specs.declared.tables.Tables.{Tables}
use Rattle.fleet_model.specs.Kept.{Domains}
use Rattle.fleet_model.specs.Schedule.{legs_in}
use Rattle.simplex_frac.specs.dual_lift.Duals.{real_columns}
use Rattle.simplex_frac.specs.dual_lift.Readings.{duals_by, duals_excess}
use Rattle.simplex_frac.specs.dual_lift.TooLarge.{IsLiftError, best_value_excess, phases_excess, refusal_value_excess, scale_excess}
use Rattle.simplex_frac.specs.declared.dual_lift.error.Excess.{Excess}
use Rattle.simplex_frac.specs.declared.dual_lift.error.LiftError.{LiftError}
use Rattle.simplex_frac.specs.declared.dual_lift.mixture.Mixture.{Mixture}
use Rattle.simplex_frac.specs.declared.dual_lift.reading.Reading.{Reading}
use Rattle.simplex_frac.specs.declared.dual_lift.reading.Reading.TheVariants.{BothRows, PhaseRow}
use Rattle.simplex_frac.specs.declared.dual_lift.error.LiftError.TheVariants.{NoMemory, TooLarge}
use Rattle.simplex_frac.proofs.dual_lift.Excesses.{first_none}
use Rattle.lp_rows.specs.Layout.{IsNetwork, Starts}
use Rattle.price_lift.specs.PaidBack.{FitsBy, IsLiftErrorBy, payback_excess_by}
use Rattle.price_lift.specs.Duals.{best_duals, refusal_duals}
use Rattle.price_lift.specs.LastTables.{none_excess, point_excess, prices_excess_by}
use Rattle.price_lift.specs.TooLarge.{best_duals_excess, best_excess, first_priced, point_ends, prices_excess, refusal_excess}
use Rattle.price_lift.specs.Wanted.{IsWantedBehind}

-- a result of one excess, by another that is the same
module _ {X : Type 0} (P : X → Type 0) (o : Option Excess) (r : Result X LiftError) (is : MatchResult r (λ lifted. (o ≡ None) × P lifted) (IsLiftError o)) where
  pub well_lifted : (Q : X → Type 0) → ((lifted : X) → P lifted → Q lifted) → IfOk r Q
  well_lifted Q same = by_result r is
    where
      by_result : (r : Result X LiftError) → MatchResult r (λ lifted. (o ≡ None) × P lifted) (IsLiftError o) → IfOk r Q
      by_result (Ok lifted) is = same lifted is.1
      by_result (Err e) is = tt

  pub well_fits : (p : Option Excess) → o ≡ p → IfOk r (λ lifted. p ≡ None)
  well_fits p same = by_result r is
    where
      by_result : (r : Result X LiftError) → MatchResult r (λ lifted. (o ≡ None) × P lifted) (IsLiftError o) → IfOk r (λ lifted. p ≡ None)
      by_result (Ok lifted) is = subst (λ q. q ≡ None) same is.0
      by_result (Err e) is = tt

  pub fails_so : (p : Option Excess) → o ≡ p → IfErr r (IsLiftError p)
  fails_so p same = by_result r is
    where
      by_result : (r : Result X LiftError) → MatchResult r (λ lifted. (o ≡ None) × P lifted) (IsLiftError o) → IfErr r (IsLiftError p)
      by_result (Ok lifted) is = tt
      by_result (Err e) is = subst (λ q. IsLiftError q e) same is

-- memory may be wanting behind what fits
pub behind : {X : Type 0} (o : Option Excess) (r : Result X LiftError) → o ≡ None → IfErr r (IsWantedBehind o)
behind o (Ok value) fits = tt
behind o (Err (TooLarge step at)) fits = tt
behind o (Err NoMemory) fits = fits

-- ---- the same in the words of each end
pub same_best : (t : Tables) (table : List FracRow) (mixture : Mixture) → duals_by table (BothRows mixture) (legs_in t) ≡ best_duals t table
unfolding duals_by best_duals
same_best t table mixture = refl

pub same_refusal : (t : Tables) (table : List FracRow) → duals_by table PhaseRow (legs_in t) ≡ refusal_duals t table
unfolding duals_by refusal_duals
same_refusal t table = refl

pub best_excess_is : (t : Tables) (keeps : Domains) (table : List FracRow) (basis : List ℕ) (mixture : Mixture) (starts : Starts) → first_below (phases_excess table) (real_columns table) ≡ None
    → point_excess t keeps table basis (BothRows mixture) starts ≡ best_excess t keeps table basis starts
unfolding point_excess prices_excess_by duals_excess best_excess best_duals duals_by
best_excess_is t keeps table basis mixture starts fits =
    shift (first_below (phases_excess table) (real_columns table)) (scale_excess table) (first_priced t table (best_value_excess table)) (prices_excess (legs_in t) (best_duals t table)) (point_ends t keeps table basis starts (best_duals t table)) fits
  where
    -- phases that fit leave the scale, the values, the prices and what comes behind, however they are nested
    shift : (a b c d e : Option Excess) → a ≡ None → or_else (or_else (or_else b c) d) e ≡ or_else (or_else a (or_else b c)) (or_else d e)
    shift a None None d e none = rw none refl
    shift a None (Some x) d e none = rw none refl
    shift a (Some x) c d e none = rw none refl

-- dual values that fit, by prices that do, and in the words of each end
pub duals_fit : (t : Tables) (table : List FracRow) (reading : Reading) → prices_excess_by t table reading ≡ None → duals_excess table reading (legs_in t) ≡ None
unfolding prices_excess_by
duals_fit t table reading fits = first_none _ _ fits

pub best_duals_behind : {X : Type 0} (t : Tables) (table : List FracRow) (mixture : Mixture) (r : Result X LiftError) → first_below (phases_excess table) (real_columns table) ≡ None → IfErr r (IsWantedBehind (duals_excess table (BothRows mixture) (legs_in t)))
    → IfErr r (IsWantedBehind (best_duals_excess t table))
unfolding duals_excess
best_duals_behind t table mixture r fits wanted =
    subst (λ o. IfErr r (IsWantedBehind o)) (ap (λ o. or_else o (or_else (scale_excess table) (first_priced t table (best_value_excess table)))) (sym fits)) wanted

pub refusal_duals_behind : {X : Type 0} (t : Tables) (table : List FracRow) (r : Result X LiftError) → IfErr r (IsWantedBehind (duals_excess table PhaseRow (legs_in t))) → IfErr r (IsWantedBehind (first_priced t table (refusal_value_excess table)))
unfolding duals_excess
refusal_duals_behind t table r wanted = wanted

nested : (a b c : Option Excess) → or_else (or_else a b) c ≡ or_else a (or_else b c)
nested None b c = refl
nested (Some x) b c = refl

pub refusal_excess_is : (t : Tables) (keeps : Domains) (table : List FracRow) (starts : Starts) → none_excess t keeps table PhaseRow starts ≡ refusal_excess t keeps table starts
unfolding none_excess prices_excess_by duals_excess refusal_excess refusal_duals duals_by
refusal_excess_is t keeps table starts =
    nested (first_priced t table (refusal_value_excess table)) (prices_excess (legs_in t) (refusal_duals t table)) (payback_excess_by t keeps starts (refusal_duals t table))

-- ---- by the network of an outline
module _ (t : Tables) (keeps : Domains) (excess : Starts → Option Excess) (starts : Starts) (network : IsNetwork t keeps starts) where
  pub fits_by : {X : Type 0} (r : Result X LiftError) → IfOk r (λ lifted. excess starts ≡ None) → IfOk r (λ lifted. FitsBy t keeps excess)
  fits_by (Ok lifted) fits = record { starts = starts; network = network; fits = fits }
  fits_by (Err e) fits = tt

  pub fails_by : {X : Type 0} (r : Result X LiftError) → IfErr r (IsLiftError (excess starts)) → IfErr r (IsLiftErrorBy t keeps excess)
  fails_by (Ok lifted) is = tt
  fails_by (Err (TooLarge step at)) is = record { starts = starts; network = network; is = is }
  fails_by (Err NoMemory) is = tt
