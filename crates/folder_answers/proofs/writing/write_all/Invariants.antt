use Rattle.std.proofs.Common.{◌≡◌, ◌<◌, ◌≤◌, ℕ, get_or, length, take}
use Rattle.plan_desk.specs.Counts.{more_times}
use Rattle.plan_desk.specs.declared.file.TheConstants.{PROOF_LIMIT}
use Rattle.folder_answers.specs.declared.answer.FileText.{FileText}
use Rattle.folder_answers.specs.Written.{held_with_texts}
use Rattle.folder_answers.proofs.writing.write_all.Given as goal

abbrev pub invariant-loop-text : goal.invariant-loop-text
invariant-loop-text g l = record {
  holds : g.D.Desk.holds l.desk ≡ held_with_texts (g.D.Desk.holds l.fn.desk) l.dir (take l.text-index l.texts);
  faults : g.D.Desk.faults l.desk ≡ g.D.Desk.faults l.fn.desk;
  taken : g.D.Desk.taken l.desk ≡ g.D.Desk.taken l.fn.desk;
  calls : g.D.Desk.calls l.desk ≡ more_times l.text-index (g.D.Desk.calls l.fn.desk);
  within : l.text-index ≤ length l.texts;
  lengths : (k : ℕ) (e : FileText) → k < l.text-index → length (get_or l.texts k e).bytes ≤ PROOF_LIMIT;
  steady : g.D.Desk.is_steady l.fn.desk → g.D.Desk.is_steady l.desk;
}
