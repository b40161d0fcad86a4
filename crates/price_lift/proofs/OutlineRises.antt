-- The rises by an outline are those over the arcs of its network.
use Rattle.std.proofs.Common.{◌≡◌, ℕ, zero, suc, ◌<◌, ◌≤◌, ◌++◌, length, get_or, None, refl, sym, ◌∙◌, ap, ap₂, subst, arith}
use Rattle.std.proofs.lemmas.List.{get_or-map, length-map}
use Rattle.fleet_model.specs.Kept.{Domains}
use Rattle.fleet_model.specs.Schedule.{fleets_in, period_of, stations_in}
use Rattle.fleet_model.specs.declared.tables.Tables.{Tables}
use Rattle.node_aggregate.proofs.Starts.{start_within}
use Rattle.lp_rows.specs.Layout.{concat_below, moment_at, node_of_number, node_of_place, starts_in}
use Rattle.lp_rows.specs.Entries.{IsNode}
use Rattle.lp_rows.specs.Outline.{IsOutline, moment_in, node_in}
use Rattle.lp_rows.specs.declared.outline.Outline.{Outline}
use Rattle.lp_rows.proofs.Counted.{nodes_are}
use Rattle.lp_rows.proofs.LinePlaces.{node_is}
use Rattle.dual_bound.specs.declared.prices.Prices.{Prices}
use Rattle.island_prices.specs.Arcs.{IsArc, rise_where}
use Rattle.price_lift.specs.ArcRises.{outline_rises, rise_at, rise_of_number, rises_by}
use Rattle.price_lift.specs.PaidBack.{moments_by}

module _ (t : Tables) (keeps : Domains) (o : Outline) (is : IsOutline t keeps o) (prices : Prices) where
  node_same : (k : ℕ) → node_in o k ≡ node_of_number t (starts_in o.network) k
  node_same k = ap (λ ns. get_or ns k (node_of_place 0 0 0)) is.over.nodes

  moment_same : (k : ℕ) → k < length o.nodes → moment_in o k ≡ moment_at t keeps (starts_in o.network) (node_in o k)
  moment_same k below = ap (λ ms. get_or ms k None) is.moments ∙ get_or-map (moment_at t keeps (starts_in o.network)) o.nodes k (node_of_place 0 0 0) None below

  one_same : (k : ℕ) → k < length o.nodes → rise_of_number t o prices k ≡ rise_at t (starts_in o.network) (moments_by t keeps (starts_in o.network)) prices k
  one_same k below =
      ap (λ m. rise_where t prices (starts_in o.network (node_in o k).fleet (node_in o k).station) (node_in o k).fleet (node_in o k).station (node_in o k).place m) (moment_same k below)
      ∙ ap (λ n. rise_where t prices (starts_in o.network n.fleet n.station) n.fleet n.station n.place (moment_at t keeps (starts_in o.network) n)) (node_same k)

  below_same : (n : ℕ) → n ≤ length o.nodes → concat_below (rise_of_number t o prices) n ≡ concat_below (rise_at t (starts_in o.network) (moments_by t keeps (starts_in o.network)) prices) n
  below_same zero within = refl
  below_same (suc n) within = ap₂ (λ xs ys. xs ++ ys) (below_same n (omega arith)) (one_same n (omega arith))

  pub outline_rises_are : outline_rises t o prices ≡ rises_by t (starts_in o.network) (moments_by t keeps (starts_in o.network)) prices
  unfolding outline_rises
  outline_rises_are = below_same (length o.nodes) (omega arith) ∙ ap (λ ns. concat_below (rise_at t (starts_in o.network) (moments_by t keeps (starts_in o.network)) prices) (length ns)) is.over.nodes

  pub few_there : (f s : ℕ) → f < fleets_in t → s < stations_in t → length (starts_in o.network f s) ≤ period_of t
  few_there = is.over.shape.few

-- ---- the arcs of an outline
module _ (t : Tables) (keeps : Domains) (o : Outline) (is : IsOutline t keeps o) (k : ℕ) (below : k < length o.nodes) where
  pub node_known : IsNode t (starts_in o.network) (node_in o k)
  node_known =
      subst (IsNode t (starts_in o.network)) (sym (ap (λ ns. get_or ns k (node_of_place 0 0 0)) is.over.nodes))
      (node_is t (starts_in o.network) k (omega (arith, below, ap length is.over.nodes, nodes_are t (starts_in o.network))))

  pub arc_known : IsArc t (starts_in o.network (node_in o k).fleet (node_in o k).station) (node_in o k).fleet (node_in o k).station (node_in o k).place
  arc_known = record {
    fleet = node_known.fleet;
    station = node_known.station;
    place = node_known.place;
    early = start_within t keeps (node_in o k).fleet (node_in o k).station (starts_in o.network (node_in o k).fleet (node_in o k).station) (is.network.each (node_in o k).fleet (node_in o k).station node_known.fleet node_known.station);
  }

  pub moments_long : length o.moments ≡ length o.nodes
  moments_long = ap length is.moments ∙ length-map o.nodes (moment_at t keeps (starts_in o.network))
