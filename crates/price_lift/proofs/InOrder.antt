-- Prices and weights are in written order.
use Rattle.std.proofs.Common.{◌≡◌, ℕ, ◌+◌, ◌<◌, ◌≤◌, List, length, get_or, All, None, ℤ, pos, neg_ℤ, sym, subst, arith}
use Rattle.std.proofs.lemmas.Int.{ints}
use Rattle.sums.proofs.Places.{get_or-list_below, length-list_below}
use Rattle.frac_row.specs.Outgrown.{IsWithin}
use Rattle.frac_row.specs.Row.{IsRow, number_of, reduced}
use Rattle.frac_row.specs.declared.row.FracRow.{FracRow}
use Rattle.frac_row.proofs.Rows.{reduced_is_row}
use Rattle.frac_row.proofs.Combinations.{opposite_within}
use Rattle.fleet_model.specs.declared.tables.Tables.{Tables}
use Rattle.fleet_model.specs.Kept.{Domains, pairs_kept}
use Rattle.fleet_model.specs.Schedule.{fleets_in, last_of}
use Rattle.node_aggregate.specs.Nodes.{AreNodesAt}
use Rattle.node_aggregate.proofs.Starts.{start_within}
use Rattle.simplex_frac.specs.dual_lift.Parts.{AreParts}
use Rattle.lp_rows.specs.Layout.{Starts, all_kept, all_nodes, concat_below}
use Rattle.dual_bound.specs.Prices.{max_scale}
use Rattle.dual_bound.specs.WrittenOrder.{ArePricesInOrder, IsFigure, IsMixedInOrder, IsWeightInOrder, WeightsFollow}
use Rattle.dual_bound.specs.declared.mixed.Mixed.{Mixed}
use Rattle.dual_bound.specs.declared.prices.Prices.{Prices}
use Rattle.price_lift.specs.Parts.{weights_at}
use Rattle.price_lift.specs.Steps.{ArePricesBy, prices_by}
use Rattle.price_lift.proofs.ChargeOrder.{charges_in_order}
use Rattle.price_lift.proofs.Minutes.{nodes_rise}
use Rattle.price_lift.proofs.StepOrder.{steps_in_order}
use Rattle.price_lift.proofs.WeightOrder.{weights_follow, weights_in_order}

-- ---- numbers that a text may hold
figure : (z : ℤ) → IsWithin z → IsFigure z
figure z within = record { no_less = omega (arith, ints); no_more = omega (arith, ints) }

small_figure : (n : ℕ) → n ≤ max_scale → IsFigure (pos n)
small_figure n small = figure (pos n) (omega (arith, ints))

-- ---- prices
early : (t : Tables) (keeps : Domains) (f s : ℕ) (starts : List ℕ) → AreNodesAt t keeps f s starts → (p : ℕ) → p < length starts → get_or starts p 0 ≤ last_of t
early t keeps f s starts nodes p below = omega (arith, start_within t keeps f s starts nodes p below)

pub prices_in_order : (t : Tables) (keeps : Domains) (duals : FracRow) (prices : Prices) → IsRow duals → ArePricesBy t keeps duals prices → ArePricesInOrder t prices
prices_in_order t keeps duals prices row by = subst (ArePricesInOrder t) (sym by.is) in_order
  where
    is_row : IsRow (reduced duals)
    is_row = reduced_is_row duals row

    value : ℕ → ℤ
    value k = number_of (reduced duals) k

    rent : ℕ → ℤ
    rent f = neg_ℤ (number_of (reduced duals) (length (all_nodes t by.starts) + f))

    opposite_figure : (k : ℕ) → IsFigure (neg_ℤ (number_of (reduced duals) k))
    opposite_figure k = figure (neg_ℤ (number_of (reduced duals) k)) (opposite_within (number_of (reduced duals) k) (is_row.within k))

    in_order : ArePricesInOrder t (prices_by t by.starts (reduced duals))
    in_order = record {
      scale = figure (reduced duals).den is_row.den_within;
      one_each = length-list_below (λ f. neg_ℤ (number_of (reduced duals) (length (all_nodes t by.starts) + f))) (fleets_in t);
      rents = λ k d below.
          subst IsFigure (sym (get_or-list_below (λ f. neg_ℤ (number_of (reduced duals) (length (all_nodes t by.starts) + f))) (fleets_in t) k d (omega (arith, below, length-list_below (λ f. neg_ℤ (number_of (reduced duals) (length (all_nodes t by.starts) + f))) (fleets_in t)))))
          (opposite_figure (length (all_nodes t by.starts) + k));
      steps = steps_in_order t by.starts (number_of (reduced duals))
          (λ f s known within some. nodes_rise t keeps f s (by.starts f s) (by.network.each f s known within))
          (λ f s p known within below. early t keeps f s (by.starts f s) (by.network.each f s known within) p below)
          (λ k. figure (number_of (reduced duals) k) (is_row.within k));
      charges = charges_in_order t (λ k. number_of (reduced duals) (length (all_nodes t by.starts) + fleets_in t + k)) (λ k. opposite_figure (length (all_nodes t by.starts) + fleets_in t + k));
    }

-- ---- weights
pub mixed_in_order : (t : Tables) (keeps : Domains) (starts : Starts) (part : ℕ → ℕ) (scale : ℕ) (mixed : Mixed) (parts : List ℤ)
    → ((c : ℕ) → c < pairs_kept t keeps → IsWithin (pos (part c))) → scale ≤ max_scale → mixed.scale ≡ pos scale → AreParts part (pairs_kept t keeps) parts
    → mixed.weights ≡ concat_below (weights_at (all_kept t keeps) parts) (pairs_kept t keeps) → IsMixedInOrder t mixed
mixed_in_order t keeps starts part scale mixed parts few within is_scale are list = record {
  scale = subst IsFigure (sym is_scale) (small_figure scale within);
  each = subst (λ ws. All (IsWeightInOrder t) ws) (sym list) (weights_in_order t keeps starts parts (λ c below. subst IsFigure (sym (are.each c below)) (figure (pos (part c)) (few c below))));
  follow = subst (λ ws. WeightsFollow None ws) (sym list) (weights_follow t keeps parts);
}
