-- What checking says of a proof doesn't change with settings other than the day start and the days of the period.
use Rattle.std.proofs.Common.{◌≡◌, ℕ, Bool, List, ℤ, Option, Some, None, inl, inr, refl, sym, ap, subst, ◌∙◌}
use Rattle.bound_cert.proofs.OtherReading.{reads_by}
use Rattle.cert_check.proofs.OtherSettings.{holds_by, legal_by}
use Rattle.command_words.specs.Words.{check}
use Rattle.fleet_model.specs.Legal.{cost_of, total_cost}
use Rattle.fleet_model.specs.Limits.{AreSettings}
use Rattle.fleet_model.specs.Schedule.{days_in, fleet_by, slot_by}
use Rattle.fleet_model.specs.declared.options.TableOptions.{TableOptions}
use Rattle.fleet_model.specs.declared.parts.Settings.{Settings}
use Rattle.fleet_model.proofs.SettingsFit.{fit_or_not}
use Rattle.fleet_model.specs.declared.tables.Tables.{Tables}
use Rattle.plan_desk.specs.Desk.{Files}
use Rattle.plan_desk.specs.declared.file.DeskFile.TheVariants as file
use Rattle.sched_read.proofs.OtherSettings.{with_settings}
use Rattle.sched_read.proofs.OtherFileSettings.{fault_by_day, read_by_day, settings_read}
use Rattle.sched_read.proofs.FileReadLaws.{no_fault}
use Rattle.sched_read.specs.Files.{AllBytes, FilesRead}
use Rattle.fleet_cli.proofs.OneAnswer.{all_within}
use Rattle.fleet_cli.proofs.OneReading.{within_or_long}
use Rattle.fleet_cli.specs.Answer.{Answers}
use Rattle.folder_answers.specs.Commands.{Checks}
use Rattle.folder_answers.specs.Contents.{bytes_in, table_bytes}
use Rattle.folder_answers.specs.Gathered.{AllStand}
use Rattle.folder_answers.specs.FileLists.{proof_files}
use Rattle.fleet_cli.specs.Run.{IsCostThere, ProofThere}
use Rattle.fleet_cli.specs.SolvedChecked.{CountAlike}
use Rattle.folder_answers.specs.declared.answer.Answer.{Answer}

-- files read by settings that are within their limits
read_within : (bytes : AllBytes) (options : TableOptions) (t : Tables) → FilesRead bytes options t → AreSettings options.settings
read_within bytes options t reads = subst AreSettings (settings_read bytes options t reads) t.in_range.settings_fit

days_are : (bytes : AllBytes) (options : TableOptions) (t : Tables) → FilesRead bytes options t → t.settings.period ≡ options.settings.period
days_are bytes options t reads = ap (λ (s : Settings). s.period) (settings_read bytes options t reads)

module _ (held : Files) (dir : List ℕ) where
  module _ (t : Tables) (settings : Settings) (fit : AreSettings settings) (as_long : t.settings.period ≡ settings.period) where
    abbrev other : Tables
    other = with_settings t settings fit as_long

    same_total : (plan : List ℕ) → total_cost t plan ≡ total_cost other plan
    unfolding total_cost cost_of fleet_by slot_by
    same_total plan = refl

    -- the plan that stands there
    plan_by : (planned : Bool) (cost : Option ℤ) → IsCostThere held dir t planned cost → IsCostThere held dir other planned cost
    unfolding days_in fleet_by slot_by
    plan_by planned None none = none
    plan_by planned (Some cost) (is, there) =
        let legal = legal_by t.stations t.fleets t.legs t.costs t.throughs t.departures t.windows t.optional (t.settings, t.in_range) (settings, other.in_range) as_long there.plan there.legal in (
          is,
          record {
            plan = there.plan;
            there = there.there;
            reads = record { assignment = legal.assignment; same = there.reads.same };
            legal = legal;
            costs = there.costs ∙ same_total there.plan;
          },
        )

  module _ (solving checking : TableOptions) (alike : CountAlike solving checking) where
    -- the same files are read
    same_files : proof_files solving ≡ proof_files checking
    same_files = rw (alike.windows, alike.optional) refl

    -- a proof that stands there stands there by other settings that count minutes alike
    proof_by : AreSettings checking.settings → ProofThere held dir solving → ProofThere held dir checking
    unfolding days_in
    proof_by fit x =
        let t = x.tables in
        let as_long = days_are (table_bytes (bytes_in held dir)) solving t x.reads ∙ alike.days in
        let u = with_settings t checking.settings fit as_long in
        record {
          tables = u;
          proof = x.proof;
          cost = x.cost;
          bound = x.bound;
          there = subst (AllStand held dir) same_files x.there;
          reads = read_by_day (table_bytes (bytes_in held dir)) solving checking alike.day_start alike.days alike.windows alike.optional fit t as_long x.reads;
          proof_reads = reads_by t.stations t.fleets t.legs t.costs t.throughs t.departures t.windows t.optional (t.settings, t.in_range) (checking.settings, u.in_range) as_long (bytes_in held dir file.Proof) x.proof x.proof_reads;
          plan = plan_by t checking.settings fit as_long x.proof.planned x.cost x.plan;
          holds = holds_by t.stations t.fleets t.legs t.costs t.throughs t.departures t.windows t.optional (t.settings, t.in_range) (checking.settings, u.in_range) as_long x.cost x.proof.tree x.bound x.holds;
        }

    -- where checking answers at all, its settings are within their limits
    never_answered : (answer : Answer) → ProofThere held dir solving → ¬ (AreSettings checking.settings) → Answers held (Some (check dir checking)) answer → ⊥
    never_answered answer x unfit (inl long) =
        within_or_long (Some (check dir checking)) held long.file
        (all_within held (Some (check dir checking)) (subst (AllStand held dir) same_files x.there) (λ follows. absurd (unread follows.1.tables follows.1.reads))) long.longer
      where
        unread : (t : Tables) → FilesRead (table_bytes (bytes_in held dir)) checking t → ⊥
        unread t reads = unfit (read_within (table_bytes (bytes_in held dir)) checking t reads)
    never_answered answer x unfit (inr read) = by_tables read.answers
      where
        solving_fits : AreSettings solving.settings
        solving_fits = read_within (table_bytes (bytes_in held dir)) solving x.tables x.reads

        by_tables : Checks checking (table_bytes (bytes_in held dir)) (bytes_in held dir file.Proof) (bytes_in held dir file.Plan) answer → ⊥
        by_tables (inl refused) =
            no_fault (table_bytes (bytes_in held dir)) solving x.tables refused.file refused.row refused.kind x.reads
            (fault_by_day (table_bytes (bytes_in held dir)) checking solving (sym alike.day_start) (sym alike.days) (sym alike.windows) (sym alike.optional) solving_fits refused.file refused.row refused.kind refused.bad)
        by_tables (inr answers) = unfit (read_within (table_bytes (bytes_in held dir)) checking answers.tables answers.reads)

    -- so a proof that stands there by some settings is one by those of an answer to checking that counts minutes alike
    pub proof_by_day : (answer : Answer) → ProofThere held dir solving → Answers held (Some (check dir checking)) answer → ProofThere held dir checking
    proof_by_day answer x answers = elim (fit_or_not checking.settings) [
      | inl fit ↦ proof_by fit x
      | inr unfit ↦ absurd (never_answered answer x unfit answers)
    ]
