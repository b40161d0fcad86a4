-- What solving leaves, from the answer that was given.
use Rattle.std.proofs.Common.{◌≡◌, ℕ, List, Option, Some, inl, inr, ap, ◌∙◌}
use Rattle.command_words.specs.Words.{solve}
use Rattle.command_words.specs.declared.command.SolveOptions.{SolveOptions}
use Rattle.fleet_model.specs.declared.options.TableOptions.{TableOptions}
use Rattle.fleet_model.specs.declared.tables.Tables.{Tables}
use Rattle.bound_cert.specs.ProofText.{proof_text}
use Rattle.plan_desk.specs.Desk.{Files}
use Rattle.plan_desk.specs.DeskFile.{path_of}
use Rattle.plan_desk.specs.Sink.{output_with}
use Rattle.rotation_report.specs.RotationRecords.{rotation_text}
use Rattle.euler_rotation.specs.declared.fleet_rotation.FleetRotation.{FleetRotation}
use Rattle.plan_desk.specs.declared.file.DeskFile.TheVariants as desk_file
use Rattle.fleet_cli.proofs.OneAnswer.{not_refused}
use Rattle.folder_answers.proofs.TextsStand.{stands_last}
use Rattle.fleet_cli.specs.Answer.{Answers, Solves}
use Rattle.folder_answers.specs.Contents.{bytes_in, table_bytes}
use Rattle.fleet_cli.specs.Headline.{TellsSolution, is_planned, plan_there}
use Rattle.fleet_cli.specs.Run.{IsSolution}
use Rattle.dual_bound.specs.Solved.{tree_of}
use Rattle.folder_answers.specs.Solution.{solved_files}
use Rattle.folder_answers.specs.Written.{held_with_texts, with_texts}
use Rattle.folder_answers.specs.declared.answer.Answer.{Answer}
use Rattle.dual_bound.specs.declared.solved.Solved.{Solved}
use Rattle.dual_bound.specs.declared.solved.Solved.TheVariants as solved

-- of each file the last text that is written stands
module _ (held : Files) (dir : List ℕ) (t shown : Tables) (rotations : List FleetRotation) (visits : ℕ) where
  pub plan_stands : (s : Solved) → with_texts held dir (solved_files t shown s rotations visits) (path_of dir desk_file.Plan) ≡ plan_there t s (held (path_of dir desk_file.Plan))
  unfolding solved_files
  plan_stands (solved.Planned plan cost bound tree) = stands_last held dir (solved_files t shown (solved.Planned plan cost bound tree) rotations visits) desk_file.Plan
  plan_stands (solved.Infeasible tree) = stands_last held dir (solved_files t shown (solved.Infeasible tree) rotations visits) desk_file.Plan
  plan_stands (solved.Unsettled bound tree) = stands_last held dir (solved_files t shown (solved.Unsettled bound tree) rotations visits) desk_file.Plan

  pub proof_stands : (s : Solved) → with_texts held dir (solved_files t shown s rotations visits) (path_of dir desk_file.Proof) ≡ Some (proof_text t (is_planned s) (tree_of s))
  unfolding solved_files
  proof_stands (solved.Planned plan cost bound tree) = stands_last held dir (solved_files t shown (solved.Planned plan cost bound tree) rotations visits) desk_file.Proof
  proof_stands (solved.Infeasible tree) = stands_last held dir (solved_files t shown (solved.Infeasible tree) rotations visits) desk_file.Proof
  proof_stands (solved.Unsettled bound tree) = stands_last held dir (solved_files t shown (solved.Unsettled bound tree) rotations visits) desk_file.Proof

  rotation_stands : (s : Solved) → with_texts held dir (solved_files t shown s rotations visits) (path_of dir desk_file.Rotation) ≡ Some (rotation_text shown rotations visits)
  unfolding solved_files
  rotation_stands (solved.Planned plan cost bound tree) = stands_last held dir (solved_files t shown (solved.Planned plan cost bound tree) rotations visits) desk_file.Rotation
  rotation_stands (solved.Infeasible tree) = stands_last held dir (solved_files t shown (solved.Infeasible tree) rotations visits) desk_file.Rotation
  rotation_stands (solved.Unsettled bound tree) = stands_last held dir (solved_files t shown (solved.Unsettled bound tree) rotations visits) desk_file.Rotation

module _ (held : Files) (dir : List ℕ) (reading : TableOptions) (options : SolveOptions) (answer : Answer) (code : ℕ) (told : Option Files) (before after : Option (List ℕ)) where
  pub solved_leaves : Answers held (Some (solve dir reading options)) answer → code ≡ answer.status.code → told ≡ held_with_texts (Some held) dir answer.files → after ≡ output_with before answer.text → IsSolution code
      → TellsSolution held told dir reading options code before after
  solved_leaves (inl long) is written put solution = absurd (not_refused code solution (is ∙ ap (λ (a : Answer). a.status.code) long.is))
  solved_leaves (inr read) is written put solution = by_tables read.answers
    where
      by_tables : Solves reading options (table_bytes (bytes_in held dir)) answer → TellsSolution held told dir reading options code before after
      by_tables (inl refused) = absurd (not_refused code solution (is ∙ ap (λ (a : Answer). a.status.code) refused.is))
      by_tables (inr solves) = let given = solves.finishes in record {
        stands = with_texts held dir (solved_files solves.tables given.shown given.solution given.rotations options.rotations.visits);
        tells = written ∙ ap (λ (a : Answer). held_with_texts (Some held) dir a.files) given.is;
        leaves = record {
          tables = solves.tables;
          solution = given.solution;
          shown = given.shown;
          rotations = given.rotations;
          there = read.within.first;
          reads = solves.reads;
          solves = given.solves;
          rotates = given.rotates;
          plan = plan_stands held dir solves.tables given.shown given.rotations options.rotations.visits given.solution;
          proof = proof_stands held dir solves.tables given.shown given.rotations options.rotations.visits given.solution;
          rotation = rotation_stands held dir solves.tables given.shown given.rotations options.rotations.visits given.solution;
          put = put ∙ ap (λ (a : Answer). output_with before a.text) given.is;
          code_is = is ∙ ap (λ (a : Answer). a.status.code) given.is;
        };
      }
