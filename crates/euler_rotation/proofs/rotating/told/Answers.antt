use Rattle.std.proofs.Common.{sym, subst}
use Rattle.euler_rotation.proofs.FoundTours.{told_again}
use Rattle.euler_rotation.specs.Searches.{MayTell}
use Rattle.euler_rotation.proofs.rotating.told.Goals as goal

pub told_by-requires-clause-clean : goal.told_by-requires-clause-clean
told_by-requires-clause-clean c = c.in_ok-clean.ensures.tell

pub told_by-requires-clause-told : goal.told_by-requires-clause-told
told_by-requires-clause-told c = subst (λ asked. MayTell asked c.args.tour.now c.args.used) (sym c.in_ok-clean.ensures.asked) c.requires

pub returns : goal.returns
returns c = told_again c.args.asked.now c.in_ok-clean.clean.asked.now c.args.tour.now c.args.visits c.told_by.result c.in_ok-clean.ensures.asked c.told_by.ensures
