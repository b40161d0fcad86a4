-- What a further file comes to, where it is asked for and where it isn't.
use Rattle.std.proofs.Common.{◌≡◌, ℕ, Bool, true, false, List, Result, Ok, Err, MatchResult, refl, sym, ap, subst}
use Rattle.csv_fields.specs.Record.{records_of}
use Rattle.fleet_model.specs.declared.options.TableOptions.{TableOptions}
use Rattle.fleet_model.specs.declared.refusals.LoadError.{LoadError}
use Rattle.fleet_model.specs.declared.refusals.LoadError.TheVariants as load
use Rattle.fleet_model.specs.declared.refusals.TableFile.TheVariants as file
use Rattle.fleet_model.specs.declared.tables.Tables.{Tables}
use Rattle.sched_read.specs.optional_legs.Adding.{ReadsOptional}
use Rattle.sched_read.specs.optional_legs.Optional.{OptionalBad}
use Rattle.sched_read.specs.retime_windows.Times.{ReadsWindows}
use Rattle.sched_read.specs.retime_windows.Windows.{WindowsBad}
use Rattle.sched_read.specs.Reading.{Reads}
use Rattle.sched_read.specs.Files.{AllBytes, FilesBad, FilesRead, IsFirstBad, MovedRead, WhereAsked}
use Rattle.table_rows.specs.Outcome.{IsFirstFault}

-- what a step keeps where it is asked for, it always keeps
pub kept_by_step : {X : Type 0} (part : Tables → X) (asked : Bool) (reads : Tables → List ℕ → Tables → Type 0) → ((t u : Tables) (bytes : List ℕ) → reads t bytes u → part u ≡ part t)
    → (t u : Tables) (bytes : List ℕ) → WhereAsked asked reads t bytes u → part u ≡ part t
kept_by_step part true reads kept t u bytes read = kept t u bytes read
kept_by_step part false reads kept t u bytes same = ap part same

module _ (bytes : AllBytes) (options : TableOptions) where
  pub windows_asked : (first : Tables) (r : Result Tables LoadError) → options.windows ≡ true → Reads bytes.five options.settings first
      → MatchResult r (ReadsWindows first bytes.windows) (IsFirstFault file.Windows (WindowsBad first (records_of bytes.windows))) → MatchResult r (MovedRead bytes options) (IsFirstBad bytes options)
  windows_asked first (Ok t) asked reads read = record { first = first; five = reads; windows = subst (λ b. WhereAsked b ReadsWindows first bytes.windows t) (sym asked) read }
  windows_asked first (Err (load.Bad bad)) asked reads fault = subst (λ f. FilesBad bytes options f bad.row bad.kind) (sym fault.0) (asked, first, reads, fault.1)
  windows_asked first (Err load.NoMemory) asked reads fault = tt

  pub no_windows : (first : Tables) → options.windows ≡ false → Reads bytes.five options.settings first → MovedRead bytes options first
  no_windows first none reads = record { first = first; five = reads; windows = subst (λ b. WhereAsked b ReadsWindows first bytes.windows first) (sym none) refl }

  pub optional_asked : (moved : Tables) (r : Result Tables LoadError) → options.optional ≡ true → MovedRead bytes options moved
      → MatchResult r (ReadsOptional moved bytes.optional) (IsFirstFault file.Optional (OptionalBad moved (records_of bytes.optional))) → MatchResult r (FilesRead bytes options) (IsFirstBad bytes options)
  optional_asked moved (Ok t) asked before read = record { moved = moved; before = before; optional = subst (λ b. WhereAsked b ReadsOptional moved bytes.optional t) (sym asked) read }
  optional_asked moved (Err (load.Bad bad)) asked before fault = subst (λ f. FilesBad bytes options f bad.row bad.kind) (sym fault.0) (asked, moved, before, fault.1)
  optional_asked moved (Err load.NoMemory) asked before fault = tt

  pub none_optional : (moved : Tables) → options.optional ≡ false → MovedRead bytes options moved → FilesRead bytes options moved
  none_optional moved none before = record { moved = moved; before = before; optional = subst (λ b. WhereAsked b ReadsOptional moved bytes.optional moved) (sym none) refl }
