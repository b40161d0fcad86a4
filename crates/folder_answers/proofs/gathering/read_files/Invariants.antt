use Rattle.std.proofs.Common.{◌≡◌, ◌≤◌, IfSome, length}
use Rattle.plan_desk.specs.Counts.{more_times}
use Rattle.folder_answers.specs.Contents.{file_content}
use Rattle.folder_answers.specs.Gathered.{FrontHeld}
use Rattle.folder_answers.proofs.gathering.read_files.Given as goal

abbrev pub invariant-loop-file : goal.invariant-loop-file
invariant-loop-file g l = record {
  holds : g.D.Desk.holds l.desk ≡ g.D.Desk.holds l.fn.desk;
  faults : g.D.Desk.faults l.desk ≡ g.D.Desk.faults l.fn.desk;
  taken : g.D.Desk.taken l.fn.desk ≤ g.D.Desk.taken l.desk;
  calls : g.D.Desk.calls l.desk ≡ more_times l.file-index (g.D.Desk.calls l.fn.desk);
  within : l.file-index ≤ length l.files;
  steady : g.D.Desk.is_steady l.fn.desk → g.D.Desk.is_steady l.desk;
  front : IfSome (g.D.Desk.holds l.fn.desk) (λ held. FrontHeld held l.dir l.files l.file-index (file_content l.contents));
}
