-- What solving leaves is checked, and holds.
use Rattle.std.specs.Prelude.{◌≡◌, ℕ, List, Option, Some}
use Rattle.bound_cert.specs.ProofText.{proof_text}
use Rattle.bound_cert.specs.ReadProof.{ReadsAs}
use Rattle.bound_cert.specs.declared.reading.Proof.{Proof}
use Rattle.cert_check.specs.Verdicts.{HoldsWith}
use Rattle.command_words.specs.Words.{check, solve}
use Rattle.command_words.specs.declared.command.SolveOptions.{SolveOptions}
use Rattle.fleet_model.specs.declared.options.TableOptions.{TableOptions}
use Rattle.fleet_model.specs.declared.tables.Tables.{Tables}
use Rattle.plan_desk.specs.Desk.{Files}
use Rattle.fleet_cli.specs.Answer.{Answers}
use Rattle.fleet_cli.specs.Headline.{is_planned}
use Rattle.fleet_cli.specs.Run.{AnswersInFull, IsSolution}
use Rattle.dual_bound.specs.Solved.{plan_cost, tree_of}
use Rattle.plan_report.specs.Summary.{printed_bound}
use Rattle.folder_answers.specs.declared.answer.Answer.{Answer}
use Rattle.dual_bound.specs.declared.solved.Solved.{Solved}
use Rattle.folder_answers.specs.declared.status.TheConstants.{DONE}

-- The text of a solution's proof reads; it says whether a plan comes with it as the solution has one, and its tree holds
-- by that plan's cost and with the solution's bound.
pub record ReadsAndHolds (t : Tables) (s : Solved) : Type 0 where
  pub proof : Proof
  pub reads : ReadsAs t (proof_text t (is_planned s) (tree_of s)) proof
  pub says : proof.planned ≡ is_planned s
  pub holds : HoldsWith t (plan_cost s) proof.tree (printed_bound s)

-- minutes are counted from the same day start, in periods of as many days, and the same tables are asked for
pub record CountAlike (a b : TableOptions) : Type 0 where
  pub day_start : a.settings.day_start ≡ b.settings.day_start
  pub days : a.settings.period ≡ b.settings.period
  pub windows : a.windows ≡ b.windows
  pub optional : a.optional ≡ b.optional

-- Where a run gave a solution, and checking by the same day start and days of the period and on the same tables, whatever the
-- longest wait of a through pair, reads what then stands, it answers that the proof holds.
abbrev pub SolvedIsChecked : Type 0
SolvedIsChecked = (held stands : Files) (dir : List ℕ) (solving checking : TableOptions) (options : SolveOptions) (code : ℕ) (before after : Option (List ℕ)) (answer : Answer)
    → CountAlike solving checking → AnswersInFull held (Some (solve dir solving options)) code (Some stands) before after → IsSolution code
    → Answers stands (Some (check dir checking)) answer → answer.status.code ≡ DONE
