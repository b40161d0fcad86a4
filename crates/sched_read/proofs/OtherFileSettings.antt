-- Of the settings, reading the files looks at the day start and the period alone.
use Rattle.std.proofs.Common.{◌≡◌, ℕ, Bool, true, false, List, refl, sym, ap, subst, ◌∙◌}
use Rattle.fleet_model.specs.Limits.{AreSettings}
use Rattle.fleet_model.specs.Period.{minutes_of}
use Rattle.fleet_model.specs.Schedule.{leg_of, legs_in}
use Rattle.fleet_model.specs.declared.options.TableOptions.{TableOptions}
use Rattle.fleet_model.specs.declared.parts.Settings.{Settings}
use Rattle.fleet_model.specs.declared.refusals.TableFile.{TableFile}
use Rattle.fleet_model.specs.declared.refusals.TableFile.TheVariants as file
use Rattle.fleet_model.specs.declared.tables.Tables.{Tables}
use Rattle.fleet_model.proofs.TablesSame.{tables_same}
use Rattle.sched_read.specs.optional_legs.Adding.{ReadsOptional}
use Rattle.sched_read.specs.retime_windows.Times.{ReadsWindows, leg_in_windows}
use Rattle.sched_read.proofs.OtherSettings.{bad_by_day, reads_by_day, with_settings}
use Rattle.sums.specs.Places.{list_below}
use Rattle.sched_read.specs.Files.{AllBytes, FilesBad, FilesRead, MovedRead, WhereAsked}
use Rattle.sched_read.proofs.Steps.{kept_by_step}

-- ---- one further file
module _ (settings : Settings) (fit : AreSettings settings) where
  -- tables by these settings, which are of as many days
  abbrev by : (t : Tables) → t.settings.period ≡ settings.period → Tables
  by t days = with_settings t settings fit days

  windows_by : (t u : Tables) (bytes : List ℕ) (first : t.settings.period ≡ settings.period) (then_too : u.settings.period ≡ settings.period) → ReadsWindows t bytes u → ReadsWindows (by t first) bytes (by u then_too)
  windows_by t u bytes first then_too reads = record {
    windows = reads.windows;
    read = reads.read;
    have = record {
      stations = reads.have.stations;
      fleets = reads.have.fleets;
      legs = subst (λ days. u.legs ≡ list_below (λ l. leg_in_windows (minutes_of days) reads.windows l (leg_of t l)) (legs_in t)) first reads.have.legs;
      costs = reads.have.costs;
      throughs = reads.have.throughs;
      settings = refl;
      asked = reads.have.asked;
      optional = reads.have.optional;
    };
  }

  optional_by : (t u : Tables) (bytes : List ℕ) (first : t.settings.period ≡ settings.period) (then_too : u.settings.period ≡ settings.period) → ReadsOptional t bytes u → ReadsOptional (by t first) bytes (by u then_too)
  optional_by t u bytes first then_too reads = record {
    optional = reads.optional;
    read = reads.read;
    have = record {
      stations = reads.have.stations;
      fleets = reads.have.fleets;
      legs = reads.have.legs;
      costs = reads.have.costs;
      throughs = reads.have.throughs;
      settings = refl;
      windows = reads.have.windows;
      asked = reads.have.asked;
    };
  }

  same_by : (t u : Tables) (first : t.settings.period ≡ settings.period) (then_too : u.settings.period ≡ settings.period) → u ≡ t → by u then_too ≡ by t first
  same_by t u first then_too same =
      tables_same (by u then_too) (by t first) (ap (λ (v : Tables). v.stations) same) (ap (λ (v : Tables). v.fleets) same) (ap (λ (v : Tables). v.legs) same) (ap (λ (v : Tables). v.costs) same)
      (ap (λ (v : Tables). v.throughs) same) refl (ap (λ (v : Tables). v.windows) same) (ap (λ (v : Tables). v.optional) same)

  -- what a step reads, whether it is asked for or not
  abbrev Keeps : (Tables → List ℕ → Tables → Type 0) → Type 0
  Keeps reads = (t u : Tables) (bytes : List ℕ) (first : t.settings.period ≡ settings.period) (then_too : u.settings.period ≡ settings.period) → reads t bytes u → reads (by t first) bytes (by u then_too)

  step_by : (asked : Bool) (reads : Tables → List ℕ → Tables → Type 0) → Keeps reads → (t u : Tables) (bytes : List ℕ) (first : t.settings.period ≡ settings.period) (then_too : u.settings.period ≡ settings.period)
      → WhereAsked asked reads t bytes u → WhereAsked asked reads (by t first) bytes (by u then_too)
  step_by true reads keeps t u bytes first then_too read = keeps t u bytes first then_too read
  step_by false reads keeps t u bytes first then_too same = same_by t u first then_too same

moved_settings : (bytes : AllBytes) (options : TableOptions) (t : Tables) → MovedRead bytes options t → t.settings ≡ options.settings
moved_settings bytes options t read =
    kept_by_step (λ (v : Tables). v.settings) options.windows ReadsWindows (λ t u bytes reads. reads.have.settings) read.first t bytes.windows read.windows ∙ read.five.settings_are

-- the settings of tables that read
pub settings_read : (bytes : AllBytes) (options : TableOptions) (t : Tables) → FilesRead bytes options t → t.settings ≡ options.settings
settings_read bytes options t read =
    kept_by_step (λ (v : Tables). v.settings) options.optional ReadsOptional (λ t u bytes reads. reads.have.settings) read.moved t bytes.optional read.optional ∙ moved_settings bytes options read.moved read.before

-- ---- all files
-- the same tables are asked for, and minutes are counted alike
module _ (bytes : AllBytes) (a b : TableOptions) (day : a.settings.day_start ≡ b.settings.day_start) (days : a.settings.period ≡ b.settings.period)
    (windows : a.windows ≡ b.windows) (optional : a.optional ≡ b.optional) (fit : AreSettings b.settings) where
  as_long : (t : Tables) → t.settings ≡ a.settings → t.settings.period ≡ b.settings.period
  as_long t same = ap (λ (s : Settings). s.period) same ∙ days

  moved_by : (t : Tables) (long : t.settings.period ≡ b.settings.period) → MovedRead bytes a t → MovedRead bytes b (with_settings t b.settings fit long)
  moved_by t long read =
      let first = as_long read.first read.five.settings_are in
      let before = with_settings read.first b.settings fit first in
      record {
        first = before;
        five = reads_by_day bytes.five a.settings b.settings day days read.first fit first read.five;
        windows = subst (λ asked. WhereAsked asked ReadsWindows before bytes.windows (with_settings t b.settings fit long)) windows
            (step_by b.settings fit a.windows ReadsWindows (windows_by b.settings fit) read.first t bytes.windows first long read.windows);
      }

  -- files that read by options read by others that ask for the same tables, with the same day start and as many days
  pub read_by_day : (t : Tables) (long : t.settings.period ≡ b.settings.period) → FilesRead bytes a t → FilesRead bytes b (with_settings t b.settings fit long)
  read_by_day t long read =
      let first = as_long read.moved (moved_settings bytes a read.moved read.before) in
      let before = with_settings read.moved b.settings fit first in
      record {
        moved = before;
        before = moved_by read.moved first read.before;
        optional = subst (λ asked. WhereAsked asked ReadsOptional before bytes.optional (with_settings t b.settings fit long)) optional
            (step_by b.settings fit a.optional ReadsOptional (optional_by b.settings fit) read.moved t bytes.optional first long read.optional);
      }

  -- so is their first fault
  pub fault_by_day : (at : TableFile) (row kind : ℕ) → FilesBad bytes a at row kind → FilesBad bytes b at row kind
  fault_by_day file.Stations row kind bad = bad_by_day bytes.five a.settings b.settings day days file.Stations row kind bad
  fault_by_day file.Fleets row kind bad = bad_by_day bytes.five a.settings b.settings day days file.Fleets row kind bad
  fault_by_day file.Legs row kind bad = bad_by_day bytes.five a.settings b.settings day days file.Legs row kind bad
  fault_by_day file.Costs row kind bad = bad_by_day bytes.five a.settings b.settings day days file.Costs row kind bad
  fault_by_day file.Throughs row kind bad = bad_by_day bytes.five a.settings b.settings day days file.Throughs row kind bad
  fault_by_day file.Windows row kind (asked, first, reads, bad) =
      let long = as_long first reads.settings_are in
      (sym windows ∙ asked, with_settings first b.settings fit long, reads_by_day bytes.five a.settings b.settings day days first fit long reads, bad)
  fault_by_day file.Optional row kind (asked, moved, before, bad) =
      let long = as_long moved (moved_settings bytes a moved before) in
      (sym optional ∙ asked, with_settings moved b.settings fit long, moved_by moved long before, bad)
  fault_by_day file.Tails row kind bad = bad
