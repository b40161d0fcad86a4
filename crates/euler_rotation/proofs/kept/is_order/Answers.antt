use Rattle.std.proofs.Common.{◌≡◌, ◌==◌, if◌then◌else◌, ◌∙◌, ℕ, sym, ap, below_more}
use mir.Val.{bool_byte}
use Rattle.node_aggregate.proofs.island_cut.Told.{byte_is}
use Rattle.fleet_model.specs.Counts.{choice_at}
use Rattle.euler_rotation.proofs.kept.is_order.Goals as goal

-- whether the fleet flies a leg, as a number
weight_told : (choice at f n : ℕ) → choice ≡ at → n ≡ bool_byte (choice == f) → n ≡ (if at == f then 1 else 0)
weight_told choice at f n is told = told ∙ byte_is (choice == f) ∙ ap (λ (c : ℕ). if c == f then 1 else 0) is

pub loop-leg-preserved : goal.loop-leg-preserved
loop-leg-preserved c =
    below_more _ _ c.loop-leg.invariant
    (sym c.times_in.ensures ∙ c.if-times_in-from.false ∙ weight_told c.choice.result (choice_at c.args.asked.now.plan.now c.loop-leg.leg) c.args.asked.now.fleet c.from.result c.choice.ensures c.from.ensures)
