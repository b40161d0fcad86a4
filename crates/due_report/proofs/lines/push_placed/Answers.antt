use Rattle.std.proofs.Common.{sym, subst}
use Rattle.due_report.specs.Lines.{AreBegun, IsTellable, tail_names}
use Rattle.due_report.proofs.lines.push_placed.Goals as goal

pub push_begun-requires-clause-begun : goal.push_begun-requires-clause-begun
push_begun-requires-clause-begun c =
    let t = c.args.tables.now in
    let tails = c.args.tails.now in
    let is : AreBegun t c.args.used (tail_names c.args.fleet tails) c.in-Lines.starts = subst (IsTellable t c.args.fleet c.args.used tails) c.in-Lines.is c.requires.placed in
    subst (AreBegun t c.args.used (tail_names c.args.fleet tails)) (sym c.as_slice-starts.ensures) is

pub push_lacking-requires-clause-place : goal.push_lacking-requires-clause-place
push_lacking-requires-clause-place c = subst (IsTellable c.args.tables.now c.args.fleet c.args.used c.args.tails.now) c.in-Lacks.is c.requires.placed

pub push_late_at-requires-clause-place : goal.push_late_at-requires-clause-place
push_late_at-requires-clause-place c = subst (IsTellable c.args.tables.now c.args.fleet c.args.used c.args.tails.now) c.in-LateAt.is c.requires.placed
