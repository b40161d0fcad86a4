use Rattle.std.proofs.Common.{◌≡◌, ◌<◌, inl, inr, ◌∙◌, arith}
use Rattle.std.proofs.lemmas.Bool.{cases_lt}
use Rattle.fleet_model.specs.Schedule.{legs_in}
use Rattle.presolve.proofs.choices.Choices.none_bare.Goals as goal

pub loop-leg-preserved : goal.loop-leg-preserved
loop-leg-preserved c k below none = elim (cases_lt k c.loop-leg.leg) [
  | inl before ↦ c.loop-leg.invariant k before none
  | inr after ↦
      let last : k ≡ c.loop-leg.leg = omega arith in
      let within : c.loop-leg.leg < legs_in c.args.tables.now = omega arith in
      c.if-self-leg-eq0.false (c.requires.counted c.loop-leg.leg within ∙ rw last at none)
]
