-- What a command reads, in what order, and what it writes. One case for each command.
use Rattle.std.specs.Prelude.{◌≡◌, ◌⊎◌, ℕ, ◌+◌, true, List, [], ◌∷◌, ◌++◌, length, Option, Some, None, IsSome}
use Rattle.bound_cert.specs.ReadProof.{ReadsAs}
use Rattle.bound_cert.specs.declared.reading.Proof.{Proof}
use Rattle.command_words.specs.Words.{Asked, check, due, judge, make, solve, tails, whatif}
use Rattle.fleet_model.specs.declared.options.TableOptions.{TableOptions}
use Rattle.fleet_model.specs.declared.tables.Tables.{Tables}
use Rattle.plan_desk.specs.Desk.{Files}
use Rattle.plan_desk.specs.DeskFile.{path_of}
use Rattle.plan_desk.specs.declared.file.DeskFile.{DeskFile}
use Rattle.plan_desk.specs.declared.file.DeskFile.TheVariants as file
use Rattle.sched_read.specs.Files.{AllBytes, FilesRead}
use Rattle.folder_answers.specs.Contents.{FileBytes, bytes_in, table_bytes}
use Rattle.folder_answers.specs.FileLists.{due_files, five_tables, judge_files, proof_files, tables_of}
use Rattle.folder_answers.specs.Gathered.{AllStand, ComesTo, IsAmong, IsFirstMissing, IsFirstTooLong, IsHeldWithin}
use Rattle.folder_answers.specs.Refusals.{fleet_named}

-- the folder that words ask about
abbrev pub folder_of : Option Asked → List ℕ
folder_of None = []
folder_of (Some (judge dir reading)) = dir
folder_of (Some (solve dir reading options)) = dir
folder_of (Some (check dir reading)) = dir
folder_of (Some (tails dir reading limits dates)) = dir
folder_of (Some (due dir reading limits dates)) = dir
folder_of (Some (make dir number legs)) = dir
folder_of (Some (whatif dir reading name count)) = dir

-- the files that are read first, in their order
abbrev pub first_files : Option Asked → List DeskFile
first_files None = []
first_files (Some (judge dir reading)) = judge_files reading
first_files (Some (solve dir reading options)) = tables_of reading
first_files (Some (check dir reading)) = proof_files reading
first_files (Some (tails dir reading limits dates)) = judge_files reading
first_files (Some (due dir reading limits dates)) = due_files reading
first_files (Some (make dir number legs)) = []
first_files (Some (whatif dir reading name count)) = proof_files reading

-- the tables and the proof read, and the proof says that a plan comes with it
pub record WantsPlan (reading : TableOptions) (bytes : AllBytes) (text : List ℕ) : Type 0 where
  pub tables : Tables
  pub proof : Proof
  pub reads : FilesRead bytes reading tables
  pub proof_reads : ReadsAs tables text proof
  pub planned : proof.planned ≡ true

-- .. and the tables have a fleet of this name
pub record WantsPlanOf (name : List ℕ) (reading : TableOptions) (bytes : AllBytes) (text : List ℕ) : Type 0 where
  pub wants : WantsPlan reading bytes text
  pub known : IsSome (fleet_named wants.tables name)

-- the file is read after the first ones, where they hold these bytes
abbrev pub IsReadAfter : Option Asked → FileBytes → DeskFile → Type 0
IsReadAfter None bytes f = ⊥
IsReadAfter (Some (judge dir reading)) bytes f = ⊥
IsReadAfter (Some (solve dir reading options)) bytes f = ⊥
IsReadAfter (Some (check dir reading)) bytes f = (f ≡ file.Plan) × WantsPlan reading (table_bytes bytes) (bytes file.Proof)
IsReadAfter (Some (tails dir reading limits dates)) bytes f = ⊥
IsReadAfter (Some (due dir reading limits dates)) bytes f = ⊥
IsReadAfter (Some (make dir number legs)) bytes f = ⊥
IsReadAfter (Some (whatif dir reading name count)) bytes f = (f ≡ file.Plan) × WantsPlanOf name reading (table_bytes bytes) (bytes file.Proof)

-- the files that solving may write
abbrev pub solution_files : List DeskFile
solution_files = file.Plan ∷ file.Proof ∷ file.Rotation ∷ []

-- the files that may be written
abbrev pub written_files : Option Asked → List DeskFile
written_files None = []
written_files (Some (judge dir reading)) = []
written_files (Some (solve dir reading options)) = solution_files
written_files (Some (check dir reading)) = []
written_files (Some (tails dir reading limits dates)) = []
written_files (Some (due dir reading limits dates)) = []
written_files (Some (make dir number legs)) = five_tables ++ solution_files
written_files (Some (whatif dir reading name count)) = []

-- how many files the first ones may ask for
abbrev pub most_further : Option Asked → ℕ
most_further None = 0
most_further (Some (judge dir reading)) = 0
most_further (Some (solve dir reading options)) = 0
most_further (Some (check dir reading)) = 1
most_further (Some (tails dir reading limits dates)) = 0
most_further (Some (due dir reading limits dates)) = 0
most_further (Some (make dir number legs)) = 0
most_further (Some (whatif dir reading name count)) = 1

-- ---- what follows of each command

-- how many files are read at most
abbrev pub most_reads : Option Asked → ℕ
most_reads asked = length (first_files asked) + most_further asked

-- how many files are read and written at most
abbrev pub most_calls : Option Asked → ℕ
most_calls asked = most_reads asked + length (written_files asked)

-- the file may be read
abbrev pub IsRead : Option Asked → DeskFile → Type 0
IsRead asked f = IsAmong (first_files asked) f ⊎ ((bytes : FileBytes) × IsReadAfter asked bytes f)

-- reading comes to the file: those before it stand there within their limits, and it is one of the first, or they ask for it
abbrev pub IsFileReached : Option Asked → Files → DeskFile → Type 0
IsFileReached asked held f =
    ComesTo held (folder_of asked) (first_files asked) f ⊎ AllStand held (folder_of asked) (first_files asked) × IsReadAfter asked (bytes_in held (folder_of asked)) f

-- each file that reading comes to stands there
abbrev pub NamesStand : Option Asked → Files → Type 0
NamesStand asked held = (f : DeskFile) → IsFileReached asked held f → IsSome (held (path_of (folder_of asked) f))

-- the first files stand there within their limits, and so does each that they ask for
pub record AllWithin (asked : Option Asked) (held : Files) : Type 0 where
  pub first : AllStand held (folder_of asked) (first_files asked)
  pub further : (f : DeskFile) → IsReadAfter asked (bytes_in held (folder_of asked)) f → IsHeldWithin held (folder_of asked) f (bytes_in held (folder_of asked) f)

-- a file that reading comes to is too long
abbrev pub IsTooLong : Option Asked → Files → DeskFile → Type 0
IsTooLong asked held = IsFirstTooLong held (folder_of asked) (IsFileReached asked held)

-- a file that reading comes to is missing
abbrev pub IsMissing : Option Asked → Files → DeskFile → Type 0
IsMissing asked held = IsFirstMissing held (folder_of asked) (IsFileReached asked held)
