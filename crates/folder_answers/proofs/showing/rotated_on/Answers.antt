use Rattle.std.proofs.Common.{sym, subst}
use Rattle.std.proofs.lemmas.Result.{IfOk-weaker}
use Rattle.euler_rotation.specs.FleetRotations.{AreRotations}
use Rattle.euler_rotation.proofs.OtherTables.{rotations_alike}
use Rattle.folder_answers.proofs.showing.rotated_on.Goals as goal

pub answer_of-requires-clause-rotations : goal.answer_of-requires-clause-rotations
answer_of-requires-clause-rotations c = subst (AreRotations c.args.tables.now) (sym c.as_slice.ensures) (rotations_alike _ _ c.requires.legs c.requires.fleets _ c.in_ok-made.ensures.known)

pub returns : goal.returns
returns c = IfOk-weaker c.answer_of.result _ _ (λ answer is. record { rotations = c.in_ok-made.made; rotates = c.in_ok-made.ensures.made; is = is }) (rw c.as_slice.ensures at c.answer_of.ensures)
