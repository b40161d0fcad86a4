use Rattle.std.proofs.Common.{sym, subst}
use Rattle.fleet_model.specs.declared.tables.Tables.{Tables}
use Rattle.fleet_model.specs.OtherSizes.{IsOtherSize}
use Rattle.cert_check.specs.OtherSizes.{IsAskedOfTree, IsProofOf, StandsWith}
use Rattle.cert_check.proofs.Found.{answer_proves, answered, falls_at, stands_with}
use Rattle.cert_check.proofs.OtherSizes.{bounds_there}
use Rattle.cert_check.proofs.asking.whatif.Goals as goal

stands : (c : goal.After-answer) (u : Tables) → IsOtherSize c.args.tables.now c.args.fleet c.args.count u → StandsWith u c.args.tree.now c.walk.new.walker.reached.bound
stands c u is = stands_with _ _ _ u is _ _ _ _ c.new-walker.ensures.kept c.new-walker.ensures.number c.new-walker.ensures.bound c.if-walk.ensures.visited

pub returns-then-walk-clause-asked : goal.returns-then-walk-clause-asked
returns-then-walk-clause-asked c u is = falls_at _ _ _ u is _ _ _ _ c.new-walker.ensures.kept c.new-walker.ensures.number c.new-walker.ensures.bound c.if-walk.ensures.visited

pub returns-clause-asked : goal.returns-clause-asked
returns-clause-asked c u is = subst (IsAskedOfTree u c.args.tree.now) (sym c.answer.ensures) (answered u c.args.tree.now _ (stands c u is))

pub returns-clause-proof : goal.returns-clause-proof
returns-clause-proof c u is =
    subst (IsProofOf u) (sym c.answer.ensures) (answer_proves u _ (bounds_there _ _ _ u is c.args.tree.now _ c.requires.sound (stands c u is).stand (stands c u is).bounded))
