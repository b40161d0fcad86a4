-- The moments of arcs, station by station.
use Rattle.std.proofs.Common.{◌≡◌, ℕ, ◌+◌, ◌++◌, List, map, length, sym, ◌∙◌, ap, append_assoc}
use Rattle.std.proofs.lemmas.List.{map-append}
use Rattle.std.proofs.lemmas.Simd.{map-map}
use Rattle.std.proofs.Math.Numerals.{suc-eq-add-one}
use Rattle.std.specs.List.{range_with_len}
use Rattle.sums.specs.Places.{list_below}
use Rattle.fleet_model.specs.declared.tables.Tables.{Tables}
use Rattle.fleet_model.specs.Kept.{Domains}
use Rattle.node_aggregate.specs.Moments.{moment_of}
use Rattle.lp_rows.specs.Layout.{Starts, concat_below, moment_at, node_of_place, nodes_at}

-- those of a fleet at a station
pub moments_there : (t : Tables) (keeps : Domains) (starts : Starts) (f s : ℕ) → list_below (moment_of t keeps f s (starts f s)) (length (starts f s)) ≡ map (moment_at t keeps starts) (nodes_at starts f s)
moments_there t keeps starts f s = sym (map-map (moment_at t keeps starts) (node_of_place f s) (range_with_len 0 (length (starts f s))))

-- one list more
pub one_list_more : {X Y : Type 0} (h : X → Y) (g : ℕ → List X) (n : ℕ) (old now more : List Y) → now ≡ old ++ map h (concat_below g n) → more ≡ now ++ map h (g n) → more ≡ old ++ map h (concat_below g (n + 1))
one_list_more h g n old now more is pushed =
    pushed ∙ ap (λ xs. xs ++ map h (g n)) is ∙ append_assoc old (map h (concat_below g n)) (map h (g n))
    ∙ ap (λ xs. old ++ xs) (sym (map-append h (concat_below g n) (g n))) ∙ ap (λ m. old ++ map h (concat_below g m)) (suc-eq-add-one n)
