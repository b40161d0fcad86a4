-- Prices that are made of rents, steps and charges are those of dual values.
use Rattle.std.proofs.Common.{◌≡◌, ◌+◌, List, length, get_or, ℤ, pos, neg_ℤ, ◌∙◌, ap}
use Rattle.sums.specs.Places.{list_below}
use Rattle.frac_row.specs.Row.{number_of}
use Rattle.frac_row.specs.declared.row.FracRow.{FracRow}
use Rattle.fleet_model.specs.Schedule.{fleets_in}
use Rattle.fleet_model.specs.declared.tables.Tables.{Tables}
use Rattle.lp_rows.specs.Layout.{all_nodes, concat_below, park_at, starts_in}
use Rattle.lp_rows.specs.Outline.{IsOutlineOver, park_in}
use Rattle.lp_rows.specs.declared.outline.Outline.{Outline}
use Rattle.dual_bound.specs.declared.prices.Charge.{Charge}
use Rattle.dual_bound.specs.declared.prices.PriceStep.{PriceStep}
use Rattle.dual_bound.specs.declared.prices.Prices.{Prices}
use Rattle.price_lift.specs.Steps.{all_charges, all_steps, charge_in, charge_where, prices_by}

pub prices_made : (t : Tables) (o : Outline) (duals : FracRow) (den : ℤ) (values of_nodes rents : List ℤ) (steps : List PriceStep) (charges : List Charge) → IsOutlineOver t o → den ≡ duals.den → values ≡ duals.numbers → of_nodes ≡ values
    → rents ≡ list_below (λ f. neg_ℤ (get_or values (length o.nodes + f) (pos 0))) o.fleets → steps ≡ all_steps t (starts_in o.network) (λ k. get_or of_nodes k (pos 0)) → charges ≡ concat_below (charge_in o values) (length o.parks)
    → ◌≡◌ {A = Prices} (record { scale = den; rents = rents; steps = steps; charges = charges }) (prices_by t (starts_in o.network) duals)
prices_made t o duals den values of_nodes rents steps charges over scale_is values_are nodes_are rents_are steps_are charges_are =
    ap (λ d. record { scale = d; rents = rents; steps = steps; charges = charges }) scale_is
    ∙ ap (λ rs. record { scale = duals.den; rents = rs; steps = steps; charges = charges }) rents_there
    ∙ ap (λ ss. record { scale = duals.den; rents = list_below (λ f. neg_ℤ (number_of duals (length (all_nodes t (starts_in o.network)) + f))) (fleets_in t); steps = ss; charges = charges }) steps_there
    ∙ ap (λ cs. record { scale = duals.den; rents = list_below (λ f. neg_ℤ (number_of duals (length (all_nodes t (starts_in o.network)) + f))) (fleets_in t); steps = all_steps t (starts_in o.network) (number_of duals); charges = cs }) charges_there
  where
    rents_there : rents ≡ list_below (λ f. neg_ℤ (number_of duals (length (all_nodes t (starts_in o.network)) + f))) (fleets_in t)
    rents_there =
        rents_are ∙ ap (λ vs. list_below (λ f. neg_ℤ (get_or vs (length o.nodes + f) (pos 0))) o.fleets) values_are
        ∙ ap (λ ns. list_below (λ f. neg_ℤ (number_of duals (length ns + f))) o.fleets) over.nodes
        ∙ ap (list_below (λ f. neg_ℤ (number_of duals (length (all_nodes t (starts_in o.network)) + f)))) over.fleets

    steps_there : steps ≡ all_steps t (starts_in o.network) (number_of duals)
    steps_there = steps_are ∙ ap (λ vs. all_steps t (starts_in o.network) (λ k. get_or vs k (pos 0))) (nodes_are ∙ values_are)

    charges_there : charges ≡ all_charges t (λ k. number_of duals (length (all_nodes t (starts_in o.network)) + fleets_in t + k))
    charges_there =
        charges_are
        ∙ ap (λ vs. concat_below (charge_in o vs) (length o.parks)) values_are
        ∙ ap (λ ns. concat_below (λ k. charge_where (park_in o k) (neg_ℤ (number_of duals (length ns + o.fleets + k)))) (length o.parks)) over.nodes
        ∙ ap (λ n. concat_below (λ k. charge_where (park_in o k) (neg_ℤ (number_of duals (length (all_nodes t (starts_in o.network)) + n + k)))) (length o.parks)) over.fleets
        ∙ ap (λ ps. concat_below (λ k. charge_where (get_or ps k (park_at 0 0)) (neg_ℤ (number_of duals (length (all_nodes t (starts_in o.network)) + fleets_in t + k)))) (length ps)) over.parks
