use Rattle.std.proofs.Common.{◌≡◌, ℕ, ◌≤◌, ℤ, pos, ◌-ℤ◌, to_z, of_z, w64, ap, ◌∙◌, arith}
use Rattle.std.proofs.lemmas.Int.{ints, to_z-of_z}
use Rattle.fleet_model.specs.Counts.{choice_at}
use Rattle.node_aggregate.specs.island_cut.Spare.{aircraft_in}
use Rattle.node_aggregate.proofs.island_cut.SameUse.{spare_found}
use Rattle.node_aggregate.proofs.island_cut.spares.spare.Goals as goal

-- few aircraft less few aircraft, in 64 bits
difference : (from : ℤ) (has uses : ℕ) → from ≡ pos has → has ≤ 10000 → uses ≤ 202000
    → to_z w64 (of_z w64 (to_z w64 (of_z w64 from) -ℤ to_z w64 uses)) ≡ pos has -ℤ pos uses
difference from has uses is few_has few_uses = grind (arith, ints, to_z-of_z)

pub returns : goal.returns
returns c =
    let fleets : ℕ → ℕ = choice_at c.quickest-plan.result in
    let has = c.aircraft.ensures.value in
    let uses = c.used-used.ensures.value in
    let fits : c.used-used.result ≤ 202000 = omega (arith, c.used-used.ensures.few) in
    spare_found c.args.tables.now fleets c.quickest-plan.ensures.quickest _
    (difference c.from.result c.aircraft.result c.used-used.result c.from.ensures c.aircraft.ensures.few fits
    ∙ ap (λ n. pos n -ℤ pos c.used-used.result) has ∙ ap (λ n. pos (aircraft_in c.args.tables.now) -ℤ pos n) uses)
