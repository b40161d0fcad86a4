-- A file that isn't asked for isn't looked at.
use Rattle.std.proofs.Common.{◌≡◌, ℕ, Bool, true, false, List, refl, subst}
use Rattle.csv_fields.specs.Record.{records_of}
use Rattle.fleet_model.specs.declared.options.TableOptions.{TableOptions}
use Rattle.fleet_model.specs.declared.refusals.TableFile.{TableFile}
use Rattle.fleet_model.specs.declared.refusals.TableFile.TheVariants as file
use Rattle.fleet_model.specs.declared.tables.Tables.{Tables}
use Rattle.sched_read.specs.optional_legs.Adding.{ReadsOptional}
use Rattle.sched_read.specs.optional_legs.Optional.{OptionalBad}
use Rattle.sched_read.specs.retime_windows.Times.{ReadsWindows}
use Rattle.sched_read.specs.retime_windows.Windows.{WindowsBad}
use Rattle.sched_read.specs.Reading.{BadAt, Reads}
use Rattle.sched_read.specs.Files.{AllBytes, FilesBad, FilesRead, MovedRead, WhereAsked}

-- the five files hold the same, and so does each further one that is asked for
pub record AreAlike (options : TableOptions) (one other : AllBytes) : Type 0 where
  pub five : one.five ≡ other.five
  pub windows : options.windows ≡ true → one.windows ≡ other.windows
  pub optional : options.optional ≡ true → one.optional ≡ other.optional

same_step : (asked : Bool) (reads : Tables → List ℕ → Tables → Type 0) (t u : Tables) (bytes other : List ℕ) → (asked ≡ true → bytes ≡ other) → WhereAsked asked reads t bytes u → WhereAsked asked reads t other u
same_step true reads t u bytes other same read = subst (λ b. reads t b u) (same refl) read
same_step false reads t u bytes other same read = read

module _ (options : TableOptions) (one other : AllBytes) (alike : AreAlike options one other) where
  moved_alike : (t : Tables) → MovedRead one options t → MovedRead other options t
  moved_alike t read = record {
    first = read.first;
    five = subst (λ five. Reads five options.settings read.first) alike.five read.five;
    windows = same_step options.windows ReadsWindows read.first t one.windows other.windows alike.windows read.windows;
  }

  pub read_alike : (t : Tables) → FilesRead one options t → FilesRead other options t
  read_alike t read = record {
    moved = read.moved;
    before = moved_alike read.moved read.before;
    optional = same_step options.optional ReadsOptional read.moved t one.optional other.optional alike.optional read.optional;
  }

  five_alike : (at : TableFile) (row kind : ℕ) → BadAt one.five options.settings at row kind → BadAt other.five options.settings at row kind
  five_alike at row kind = subst (λ five. BadAt five options.settings at row kind) alike.five

  pub bad_alike : (at : TableFile) (row kind : ℕ) → FilesBad one options at row kind → FilesBad other options at row kind
  bad_alike file.Stations row kind bad = five_alike file.Stations row kind bad
  bad_alike file.Fleets row kind bad = five_alike file.Fleets row kind bad
  bad_alike file.Legs row kind bad = five_alike file.Legs row kind bad
  bad_alike file.Costs row kind bad = five_alike file.Costs row kind bad
  bad_alike file.Throughs row kind bad = five_alike file.Throughs row kind bad
  bad_alike file.Windows row kind (asked, first, reads, bad) =
      (asked, first, subst (λ five. Reads five options.settings first) alike.five reads, subst (λ b. WindowsBad first (records_of b) row kind) (alike.windows asked) bad)
  bad_alike file.Optional row kind (asked, moved, before, bad) =
      (asked, moved, moved_alike moved before, subst (λ b. OptionalBad moved (records_of b) row kind) (alike.optional asked) bad)
  bad_alike file.Tails row kind bad = bad
