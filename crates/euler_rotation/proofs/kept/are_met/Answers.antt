use Rattle.std.proofs.Common.{◌∙◌, sym, ap, below_more}
use Rattle.euler_rotation.specs.Asked.{is_met}
use Rattle.euler_rotation.proofs.kept.are_met.Goals as goal

pub loop-place-preserved : goal.loop-place-preserved
loop-place-preserved c =
    let asked = c.args.clean.now.asked.now in
    record {
      each = below_more _ _ c.loop-place.invariant.each
          (ap (is_met asked.tables.now asked.plan.now asked.fleet) (sym c.turn_after.ensures) ∙ sym c.is_met.ensures ∙ c.if-not-is_met.false);
    }
