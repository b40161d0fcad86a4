-- Made tables: they stand in a folder after they were written, and read.
use Rattle.std.proofs.Common.{◌≡◌, ℕ, zero, suc, ◌+◌, ◌-◌, ◌<◌, ◌≤◌, List, ◌++◌, length, length-append, get_or, Some, Result, Err, refl, sym, ap, subst, ◌∙◌, arith}
use Rattle.std.specs.Prelude.{MatchResult}
use Rattle.std.proofs.lemmas.List.{get_or-append_right}
use Rattle.dual_bound.specs.declared.solved.Solved.{Solved}
use Rattle.dual_bound.specs.declared.solved.Solved.TheVariants as solved
use Rattle.command_words.specs.declared.command.TheConstants.{DEFAULT_READING}
use Rattle.fleet_model.specs.Limits.{AreSettings}
use Rattle.fleet_model.specs.declared.refusals.BadInput.{BadInput}
use Rattle.fleet_model.specs.declared.refusals.LoadError.{LoadError}
use Rattle.fleet_model.specs.declared.refusals.LoadError.TheVariants as load
use Rattle.fleet_model.specs.declared.tables.Tables.{Tables}
use Rattle.plan_desk.specs.Desk.{Files}
use Rattle.plan_desk.specs.DeskFile.{path_of}
use Rattle.plan_desk.specs.declared.file.DeskFile.{DeskFile}
use Rattle.plan_desk.specs.declared.file.DeskFile.TheVariants as file
use Rattle.plan_desk.specs.declared.file.TheConstants.{PROOF_LIMIT}
use Rattle.euler_rotation.specs.declared.fleet_rotation.FleetRotation.{FleetRotation}
use Rattle.sched_read.proofs.ReadLaws as tables
use Rattle.sched_read.specs.Reading.{IsFirstBad, Reads, TableBytes}
use Rattle.sched_read.specs.Files.{FilesRead}
use Rattle.table_maker.proofs.MadeRead.{made_read}
use Rattle.table_maker.specs.Laws.{AreShort, made_bytes}
use Rattle.table_maker.specs.Made.{CanBeMade, made_tables}
use Rattle.table_maker.specs.declared.made.MadeTables.{MadeTables}
use Rattle.folder_answers.proofs.FrontFacts.{held_in}
use Rattle.folder_answers.proofs.TextsStand.{last_text, stands_last}
use Rattle.folder_answers.specs.Contents.{FileBytes, bytes_in, five_alone, five_bytes, table_bytes}
use Rattle.folder_answers.specs.Gathered.{AllStand, IsHeldWithin, limit_of}
use Rattle.folder_answers.specs.Making.{made_files}
use Rattle.folder_answers.specs.FileLists.{five_tables}
use Rattle.folder_answers.specs.Skeletons.{TablesRead}
use Rattle.folder_answers.specs.Solution.{solved_files}
use Rattle.folder_answers.specs.Written.{HaveLengths, with_texts}
use Rattle.folder_answers.specs.declared.answer.Answer.{Answer}
use Rattle.folder_answers.specs.declared.answer.FileText.{FileText}

-- ---- the tables stand

-- under the names of the five tables stand the made ones
pub record TablesStand (stands : Files) (dir : List ℕ) (made : MadeTables) : Type 0 where
  pub stations : stands (path_of dir file.Stations) ≡ Some made.stations
  pub fleets : stands (path_of dir file.Fleets) ≡ Some made.fleets
  pub legs : stands (path_of dir file.Legs) ≡ Some made.legs
  pub costs : stands (path_of dir file.Costs) ≡ Some made.costs
  pub throughs : stands (path_of dir file.Throughs) ≡ Some made.throughs

module _ (held : Files) (dir : List ℕ) (made : MadeTables) where
  -- so they do after texts of which the last of each table is the made one
  stand_by : (texts : List FileText) → last_text texts file.Stations (held (path_of dir file.Stations)) ≡ Some made.stations → last_text texts file.Fleets (held (path_of dir file.Fleets)) ≡ Some made.fleets
      → last_text texts file.Legs (held (path_of dir file.Legs)) ≡ Some made.legs → last_text texts file.Costs (held (path_of dir file.Costs)) ≡ Some made.costs
      → last_text texts file.Throughs (held (path_of dir file.Throughs)) ≡ Some made.throughs → TablesStand (with_texts held dir texts) dir made
  stand_by texts stations fleets legs costs throughs = record {
    stations = stands_last held dir texts file.Stations ∙ stations;
    fleets = stands_last held dir texts file.Fleets ∙ fleets;
    legs = stands_last held dir texts file.Legs ∙ legs;
    costs = stands_last held dir texts file.Costs ∙ costs;
    throughs = stands_last held dir texts file.Throughs ∙ throughs;
  }

  pub made_stand : TablesStand (with_texts held dir (made_files made)) dir made
  unfolding made_files
  made_stand = stand_by (made_files made) refl refl refl refl refl

  -- and still stand after what solving writes
  pub still_stand : (t shown : Tables) (s : Solved) (rotations : List FleetRotation) (visits : ℕ) → TablesStand (with_texts held dir (made_files made ++ solved_files t shown s rotations visits)) dir made
  unfolding made_files solved_files
  still_stand t shown (solved.Planned plan cost bound tree) rotations visits = stand_by (made_files made ++ solved_files t shown (solved.Planned plan cost bound tree) rotations visits) refl refl refl refl refl
  still_stand t shown (solved.Infeasible tree) rotations visits = stand_by (made_files made ++ solved_files t shown (solved.Infeasible tree) rotations visits) refl refl refl refl refl
  still_stand t shown (solved.Unsettled bound tree) rotations visits = stand_by (made_files made ++ solved_files t shown (solved.Unsettled bound tree) rotations visits) refl refl refl refl refl

module _ (stands : Files) (dir : List ℕ) (made : MadeTables) (there : TablesStand stands dir made) where
  pub tables_are : five_bytes (bytes_in stands dir) ≡ made_bytes made
  tables_are = rw (there.stations, there.fleets, there.legs, there.costs, there.throughs) refl

  pub all_stand : AreShort made → AllStand stands dir five_tables
  unfolding limit_of
  all_stand short = record { each = at }
    where
      at : (k : ℕ) (d : DeskFile) → k < 5 → IsHeldWithin stands dir (get_or five_tables k d) (bytes_in stands dir (get_or five_tables k d))
      at zero d below = held_in stands dir file.Stations made.stations (record { stands = there.stations; within = short.stations_short })
      at (suc zero) d below = held_in stands dir file.Fleets made.fleets (record { stands = there.fleets; within = short.fleets_short })
      at (suc (suc zero)) d below = held_in stands dir file.Legs made.legs (record { stands = there.legs; within = short.legs_short })
      at (suc (suc (suc zero))) d below = held_in stands dir file.Costs made.costs (record { stands = there.costs; within = short.costs_short })
      at (suc (suc (suc (suc zero)))) d below = held_in stands dir file.Throughs made.throughs (record { stands = there.throughs; within = short.throughs_short })
      at (suc (suc (suc (suc (suc k))))) d below = absurd (omega arith)

-- where no further file is asked for, the five alone read as tables
pub read_alone : (five : TableBytes) (t : Tables) → Reads five DEFAULT_READING.settings t → FilesRead (five_alone five) DEFAULT_READING t
read_alone five t reads = record { moved = t; before = record { first = t; five = reads; windows = refl }; optional = refl }

-- .. and whatever stands in the other files
pub alone : {finish : Tables → Answer → Type 0} {answer : Answer} (bytes : FileBytes) {five : TableBytes} → five_bytes bytes ≡ five
    → TablesRead DEFAULT_READING (five_alone five) finish answer → TablesRead DEFAULT_READING (table_bytes bytes) finish answer
alone bytes same x = record {
  tables = x.tables;
  reads = record {
    moved = x.reads.moved;
    before = record { first = x.reads.before.first; five = subst (λ b. Reads b DEFAULT_READING.settings x.reads.before.first) (sym same) x.reads.before.five; windows = x.reads.before.windows };
    optional = x.reads.optional;
  };
  finishes = x.finishes;
}

pub later_lengths : (first rest : List FileText) → HaveLengths (first ++ rest) → HaveLengths rest
later_lengths first rest all = record {
  each = λ k d below.
      let within : length first + k < length (first ++ rest) = omega (arith, length-append first rest) in
      let place : length first + k - length first ≡ k = omega arith in
      let same : get_or (first ++ rest) (length first + k) d ≡ get_or rest k d =
      get_or-append_right first rest (length first) (length first + k) d refl (omega arith) ∙ ap (λ i. get_or rest i d) place in
      subst (λ (text : FileText). length text.bytes ≤ PROOF_LIMIT) same (all.each (length first + k) d within);
}

pub defaults_fit : AreSettings DEFAULT_READING.settings
defaults_fit = record { day_start = omega arith; through_max = omega arith; least_night = omega arith; some_days = omega arith; few_days = omega arith }

-- made tables have no fault
pub never_bad : (number legs : ℕ) (made : MadeTables) (loaded : Result Tables LoadError) (error : LoadError) (bad : BadInput) → CanBeMade number legs → made ≡ made_tables number legs
    → MatchResult loaded (Reads (made_bytes made) DEFAULT_READING.settings) (IsFirstBad (made_bytes made) DEFAULT_READING.settings) → loaded ≡ Err error → error ≡ load.Bad bad → ⊥
never_bad number legs made loaded error bad can are told failed same =
    let read = made_read number legs DEFAULT_READING.settings can defaults_fit refl in
    let first = rw (failed, same, are) at told in
    tables.reads_no_fault (made_bytes (made_tables number legs)) DEFAULT_READING.settings read.tables bad.file bad.row bad.kind read.reads first
