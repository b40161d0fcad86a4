-- What a lift of a last table comes to by the outline of the kept pairs, with its prices paid back.
use Rattle.std.proofs.Common.{◌≡◌, ℕ, List, None, Result, Ok, Err, MatchResult, ◌∙◌, sym, subst}
use Rattle.sums.specs.Places.{first_below}
use Rattle.frac_row.specs.declared.row.FracRow.{FracRow}
use Rattle.fleet_model.specs.Kept.{Domains, pairs_kept}
use Rattle.fleet_model.specs.Schedule.{legs_in}
use Rattle.fleet_model.specs.declared.tables.Tables.{Tables}
use Rattle.row_store.specs.Table.{height_of}
use Rattle.lp_rows.specs.Layout.{starts_in}
use Rattle.lp_rows.specs.Outline.{IsOutline}
use Rattle.lp_rows.specs.declared.outline.Outline.{Outline}
use Rattle.simplex_frac.specs.dual_lift.LastTables.{counts_costs}
use Rattle.simplex_frac.specs.dual_lift.Readings.{duals_by, value_by}
use Rattle.simplex_frac.specs.dual_lift.TooLarge.{IsLiftError}
use Rattle.simplex_frac.specs.declared.dual_lift.error.LiftError.{LiftError}
use Rattle.simplex_frac.specs.declared.dual_lift.reading.Reading.{Reading}
use Rattle.simplex_frac.proofs.dual_lift.Excesses.{both_well, then_fails}
use Rattle.dual_bound.specs.declared.mixed.Mixed.{Mixed}
use Rattle.dual_bound.specs.declared.prices.Prices.{Prices}
use Rattle.price_lift.specs.ArcRises.{outline_rises}
use Rattle.price_lift.specs.LastTables.{IsLastBy, IsPointBy, none_excess, point_excess, prices_excess_by}
use Rattle.price_lift.specs.Lifted.{AreNodePrices, IsLiftedPoint, IsLiftedRefusal}
use Rattle.price_lift.specs.PaidBack.{paid_back, payback_excess, payback_excess_by}
use Rattle.price_lift.specs.Parts.{IsBasicMixed}
use Rattle.price_lift.specs.TooLarge.{weights_excess}
use Rattle.price_lift.proofs.DualPrices.{paid_grows, paid_scale, prices_lifted, same_excess, worth_refutes}
use Rattle.price_lift.proofs.Lifts.{dual_row, mixed_is, more, no_leg_bare, prices_fit, weights_are, weights_in_order, weights_of_tables, worth_is}

module _ (t : Tables) (keeps : Domains) (table : List FracRow) (basis : List ℕ) (reading : Reading) (last : IsLastBy t keeps table basis reading) (o : Outline) (is : IsOutline t keeps o)
    (before : Prices) (are : AreNodePrices t keeps (starts_in o.network) (duals_by table reading (legs_in t)) before) (well : prices_excess_by t table reading ≡ None) where
  -- what is first too large by the outline is so by the dual values
  pub same_there : payback_excess t before (outline_rises t o before) ≡ payback_excess_by t keeps (starts_in o.network) (duals_by table reading (legs_in t))
  same_there =
      same_excess t keeps last.rows last.lines (counts_costs reading) (value_by table reading) (duals_by table reading (legs_in t)) (dual_row t keeps table basis reading last) (prices_fit t keeps table basis reading last well) o is before are

  -- ---- where no point meets the lines
  none_fails : (e : LiftError) → IsLiftError (payback_excess t before (outline_rises t o before)) e → IsLiftError (none_excess t keeps table reading (starts_in o.network)) e
  unfolding none_excess
  none_fails e fails = then_fails _ _ e well (subst (λ x. IsLiftError x e) same_there fails)

  refusal_of : (paid : Prices) → (payback_excess t before (outline_rises t o before) ≡ None) × (paid ≡ paid_back t before (outline_rises t o before)) → counts_costs reading ≡ 0
      → (none_excess t keeps table reading (starts_in o.network) ≡ None) × IsLiftedRefusal t keeps (duals_by table reading (legs_in t)) paid
  unfolding none_excess
  refusal_of paid facts none =
      let row = dual_row t keeps table basis reading last in
      let fits = prices_fit t keeps table basis reading last well in
      let lifted = prices_lifted t keeps last.rows last.lines (counts_costs reading) (value_by table reading) (duals_by table reading (legs_in t)) row fits o is before are paid facts in
      let refutes = worth_refutes t keeps last.rows last.lines (counts_costs reading) (value_by table reading) (duals_by table reading (legs_in t)) row fits o is before are paid facts none (more t keeps table basis reading last none) in (
        both_well _ _ well (sym same_there ∙ facts.0),
        record { lifted = lifted; refutes = λ each. record { good = lifted.good; refute = refutes each } },
      )

  pub refusal_paid : (r : Result Prices LiftError) → MatchResult r (λ paid. (payback_excess t before (outline_rises t o before) ≡ None) × (paid ≡ paid_back t before (outline_rises t o before))) (IsLiftError (payback_excess t before (outline_rises t o before)))
      → counts_costs reading ≡ 0 → MatchResult r (λ paid. (none_excess t keeps table reading (starts_in o.network) ≡ None) × IsLiftedRefusal t keeps (duals_by table reading (legs_in t)) paid) (IsLiftError (none_excess t keeps table reading (starts_in o.network)))
  refusal_paid (Ok paid) facts none = refusal_of paid facts none
  refusal_paid (Err e) fails none = none_fails e fails

-- ---- at a cheapest point
module _ (t : Tables) (keeps : Domains) (table : List FracRow) (basis : List ℕ) (reading : Reading) (point : IsPointBy t keeps table basis reading) (o : Outline) (is : IsOutline t keeps o)
    (before : Prices) (are : AreNodePrices t keeps (starts_in o.network) (duals_by table reading (legs_in t)) before) (well : prices_excess_by t table reading ≡ None)
    (weighed : first_below (weights_excess table basis (pairs_kept t keeps)) (height_of table) ≡ None) where
  pub point_fails : (e : LiftError) → IsLiftError (payback_excess t before (outline_rises t o before)) e → IsLiftError (point_excess t keeps table basis reading (starts_in o.network)) e
  unfolding point_excess
  point_fails e fails = then_fails _ _ e well (then_fails _ _ e weighed (subst (λ x. IsLiftError x e) (same_there t keeps table basis reading point.last o is before are well) fails))

  pub point_of : (paid : Prices) → (payback_excess t before (outline_rises t o before) ≡ None) × (paid ≡ paid_back t before (outline_rises t o before)) → (mixed : Mixed) → IsBasicMixed table basis o.pairs mixed
      → (point_excess t keeps table basis reading (starts_in o.network) ≡ None) × IsLiftedPoint t keeps table basis (duals_by table reading (legs_in t)) (record { prices = paid; mixed = mixed })
  unfolding point_excess
  point_of paid facts mixed basic =
      let duals = duals_by table reading (legs_in t) in
      let row = dual_row t keeps table basis reading point.last in
      let fits = prices_fit t keeps table basis reading point.last well in
      let lifted = prices_lifted t keeps point.last.rows point.last.lines (counts_costs reading) (value_by table reading) duals row fits o is before are paid facts in
      let same_scale = paid_scale t keeps point.last.rows point.last.lines (counts_costs reading) (value_by table reading) duals row fits o is before are paid facts in
      let grows = paid_grows t keeps point.last.rows point.last.lines (counts_costs reading) (value_by table reading) duals row fits o is before are paid facts in (
        both_well _ _ well (both_well _ _ weighed (sym (same_there t keeps table basis reading point.last o is before are well) ∙ facts.0)),
        record {
          prices = lifted;
          weights = weights_are t keeps table basis reading point o.pairs is.pairs mixed basic;
          best = record {
            good = lifted.good;
            known = weights_of_tables t keeps table basis reading point o.pairs is.pairs mixed basic;
            in_order = weights_in_order t keeps table basis reading point o.pairs is.pairs mixed basic;
            mixed_at = mixed_is t keeps table basis reading point o.pairs is.pairs mixed basic;
            value = worth_is t keeps table basis reading point o.pairs is.pairs mixed basic fits before are.scale (are.by_lines point.last.lines.starts point.last.lines.lines.network) paid same_scale lifted.good.proper
                (grows (no_leg_bare t keeps table basis reading point o.pairs is.pairs mixed basic) 1);
          };
        },
      )
