use Rattle.std.proofs.Common.{[], refl}
use Rattle.std.proofs.lemmas.Result.{IfOk-weaker}
use Rattle.fleet_cli.proofs.solving.solve_on.Goals as goal

pub returns-in-Planned : goal.returns-in-Planned
returns-in-Planned c = IfOk-weaker c.planned_on.result _ _ (λ answer shows. record {
  solution = c.in_ok-solved.solved;
  shown = shows.shown;
  rotations = shows.finishes.rotations;
  solves = c.in_ok-solved.ensures;
  rotates = rw c.in-Planned.is (shows.flown, record { settled = shows.settled; rotates = shows.finishes.rotates });
  is = shows.finishes.is;
}) c.planned_on.ensures

pub returns-in-Infeasible : goal.returns-in-Infeasible
returns-in-Infeasible c = IfOk-weaker c.answer_of.result _ _ (λ answer is. record {
  solution = c.in_ok-solved.solved;
  shown = c.args.tables.now;
  rotations = [];
  solves = c.in_ok-solved.ensures;
  rotates = rw c.in-Infeasible.is (refl, refl);
  is = is;
}) c.answer_of.ensures

pub returns : goal.returns
returns c = IfOk-weaker c.answer_of-in-Unsettled.result _ _ (λ answer is. record {
  solution = c.in_ok-solved.solved;
  shown = c.args.tables.now;
  rotations = [];
  solves = c.in_ok-solved.ensures;
  rotates = rw c.in-Unsettled.is (refl, refl);
  is = is;
}) c.answer_of-in-Unsettled.ensures
