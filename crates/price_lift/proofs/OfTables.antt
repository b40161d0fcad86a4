-- Steps, charges and weights are of the tables.
use Rattle.std.proofs.Common.{ℕ, Bool, true, false, if◌then◌else◌, List, [], ◌∷◌, length, get_or, All, ℤ, pos, neg_ℤ, unsigned_abs, ◌==◌, arith}
use Rattle.std.proofs.lemmas.List.Elements.{All-cons, All-nil}
use Rattle.fleet_model.specs.declared.tables.Tables.{Tables}
use Rattle.fleet_model.specs.Kept.{Domains, pairs_kept}
use Rattle.fleet_model.specs.Schedule.{leg_on}
use Rattle.lp_rows.specs.Layout.{Starts, all_kept, all_nodes, all_parks, concat_below, node_of_number, park_of_number}
use Rattle.lp_rows.proofs.Counted.{nodes_are, parks_are}
use Rattle.lp_rows.proofs.Totals.{all_concat}
use Rattle.dual_bound.specs.OfTables.{IsChargeOf, IsStepOf, IsWeightOf}
use Rattle.price_lift.specs.Parts.{weights_at}
use Rattle.price_lift.specs.Steps.{all_charges, all_steps, charges_at, is_node_step, node_step, steps_at}
use Rattle.price_lift.proofs.Parks.{park_number}
use Rattle.lp_rows.proofs.PairParts.{is_pair}
use Rattle.lp_rows.proofs.LinePlaces.{node_is}

all_one : {X : Type 0} (P : X → Type 0) (b : Bool) (x : X) → P x → All P (if b then x ∷ [] else [])
all_one P true x holds = All-cons P x [] holds (All-nil P)
all_one P false x holds = All-nil P

all_other : {X : Type 0} (P : X → Type 0) (b : Bool) (x : X) → P x → All P (if b then [] else x ∷ [])
all_other P true x holds = All-nil P
all_other P false x holds = All-cons P x [] holds (All-nil P)

pub steps_known : (t : Tables) (starts : Starts) (value : ℕ → ℤ) → All (IsStepOf t) (all_steps t starts value)
steps_known t starts value = all_concat (IsStepOf t) (steps_at t starts value) (length (all_nodes t starts)) (λ k below.
    let n = node_of_number t starts k in
    let node = node_is t starts k (omega (arith, below, nodes_are t starts)) in
    all_one (IsStepOf t) (is_node_step (length (starts n.fleet n.station)) value k n) (node_step (starts n.fleet n.station) (value k) n) (record { fleet = node.fleet; station = node.station }))

pub charges_known : (t : Tables) (value : ℕ → ℤ) → All (IsChargeOf t) (all_charges t value)
charges_known t value = all_concat (IsChargeOf t) (charges_at t value) (length (all_parks t)) (λ k below.
    let p = park_of_number t k in
    all_other (IsChargeOf t) (unsigned_abs (neg_ℤ (value k)) == 0) (record { station = p.station; day = p.day; charge = neg_ℤ (value k) }) (park_number t k (omega (arith, below, parks_are t))).known.station)

pub weights_known : (t : Tables) (keeps : Domains) (starts : Starts) (parts : List ℤ) → All (IsWeightOf t) (concat_below (weights_at (all_kept t keeps) parts) (pairs_kept t keeps))
weights_known t keeps starts parts = all_concat (IsWeightOf t) (weights_at (all_kept t keeps) parts) (pairs_kept t keeps) (λ c below.
    let p = get_or (all_kept t keeps) c (leg_on 0 0) in
    let w = get_or parts c (pos 0) in
    all_other (IsWeightOf t) (unsigned_abs w == 0) (record { leg = p.leg; choice = p.choice; weight = w }) (is_pair t keeps starts c below))
