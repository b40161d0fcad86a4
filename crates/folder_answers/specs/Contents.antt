-- What the files of a folder hold, each under its name.
use Rattle.std.specs.Prelude.{ℕ, ◌==◌, Bool, List, [], if◌then◌else◌, unwrap_or}
use Rattle.plan_desk.specs.Desk.{Files}
use Rattle.plan_desk.specs.DeskFile.{path_of}
use Rattle.plan_desk.specs.declared.file.DeskFile.{DeskFile}
use Rattle.plan_desk.specs.declared.file.DeskFile.TheVariants as file
use Rattle.sched_read.specs.Reading.{TableBytes}
use Rattle.sched_read.specs.Files.{AllBytes}
use Rattle.sched_read.specs.declared.files.TableTexts.{TableTexts}
use Rattle.folder_answers.specs.declared.contents.Contents.{Contents}

-- the bytes of each file
abbrev pub FileBytes : Type 0
FileBytes = DeskFile → List ℕ

-- the bytes that stand in a folder; none where no file stands
abbrev pub bytes_in : Files → List ℕ → FileBytes
bytes_in held dir f = unwrap_or (held (path_of dir f)) []

-- those of the five tables
abbrev pub five_bytes : FileBytes → TableBytes
five_bytes bytes = record {
  stations = bytes file.Stations;
  fleets = bytes file.Fleets;
  legs = bytes file.Legs;
  costs = bytes file.Costs;
  throughs = bytes file.Throughs;
}

-- those of all tables
abbrev pub table_bytes : FileBytes → AllBytes
table_bytes bytes = record { five = five_bytes bytes; windows = bytes file.Windows; optional = bytes file.Optional }

-- five tables, with nothing in the others
abbrev pub five_alone : TableBytes → AllBytes
five_alone five = record { five = five; windows = []; optional = [] }

-- each file has a number of its own, by which two are told apart
abbrev pub file_number : DeskFile → ℕ
file_number file.Stations = 0
file_number file.Fleets = 1
file_number file.Legs = 2
file_number file.Costs = 3
file_number file.Throughs = 4
file_number file.Windows = 5
file_number file.Optional = 6
file_number file.Tails = 7
file_number file.Plan = 8
file_number file.Proof = 9
file_number file.Rotation = 10

-- the two files are one
abbrev pub same_file : DeskFile → DeskFile → Bool
same_file one other = file_number one == file_number other

-- the same, with other bytes of the plan
abbrev pub with_plan : FileBytes → List ℕ → FileBytes
with_plan bytes plan f = if same_file f file.Plan then plan else bytes f

-- ---- as the code has them

-- the bytes of each file in what was read
abbrev pub file_content : Contents → FileBytes
file_content c file.Stations = c.tables.stations
file_content c file.Fleets = c.tables.fleets
file_content c file.Legs = c.tables.legs
file_content c file.Costs = c.tables.costs
file_content c file.Throughs = c.tables.throughs
file_content c file.Windows = c.tables.windows
file_content c file.Optional = c.tables.optional
file_content c file.Tails = c.tails
file_content c file.Plan = c.plan
file_content c file.Proof = c.proof
file_content c file.Rotation = c.rotation

-- nothing was read
abbrev pub no_tables : TableTexts
no_tables = record { stations = []; fleets = []; legs = []; costs = []; throughs = []; windows = []; optional = [] }

abbrev pub no_contents : Contents
no_contents = record { tables = no_tables; tails = []; plan = []; proof = []; rotation = [] }

-- what was read, with the bytes of one file more
abbrev pub with_table : TableTexts → DeskFile → List ℕ → TableTexts
with_table tables f bytes = record {
  stations = if same_file file.Stations f then bytes else tables.stations;
  fleets = if same_file file.Fleets f then bytes else tables.fleets;
  legs = if same_file file.Legs f then bytes else tables.legs;
  costs = if same_file file.Costs f then bytes else tables.costs;
  throughs = if same_file file.Throughs f then bytes else tables.throughs;
  windows = if same_file file.Windows f then bytes else tables.windows;
  optional = if same_file file.Optional f then bytes else tables.optional;
}

abbrev pub with_content : Contents → DeskFile → List ℕ → Contents
with_content c f bytes = record {
  tables = with_table c.tables f bytes;
  tails = if same_file file.Tails f then bytes else c.tails;
  plan = if same_file file.Plan f then bytes else c.plan;
  proof = if same_file file.Proof f then bytes else c.proof;
  rotation = if same_file file.Rotation f then bytes else c.rotation;
}
