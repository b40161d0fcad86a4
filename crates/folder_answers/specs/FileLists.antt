-- Files of a folder in the order in which commands read them.
use Rattle.std.specs.Prelude.{Bool, true, false, List, [], ◌∷◌, ◌++◌}
use Rattle.fleet_model.specs.declared.options.TableOptions.{TableOptions}
use Rattle.plan_desk.specs.declared.file.DeskFile.{DeskFile}
use Rattle.plan_desk.specs.declared.file.DeskFile.TheVariants as file

-- the five tables, in the order in which they are read
abbrev pub five_tables : List DeskFile
five_tables = file.Stations ∷ file.Fleets ∷ file.Legs ∷ file.Costs ∷ file.Throughs ∷ []

-- a table that is read where it is asked for
abbrev pub where_asked : Bool → DeskFile → List DeskFile
where_asked true f = f ∷ []
where_asked false f = []

-- the tables that are read by these options, in their order
abbrev pub tables_of : TableOptions → List DeskFile
tables_of reading = five_tables ++ where_asked reading.windows file.Windows ++ where_asked reading.optional file.Optional

-- and files that are read after them
abbrev pub tables_and : TableOptions → List DeskFile → List DeskFile
tables_and reading more = tables_of reading ++ more

-- the files that judging (and telling tails), telling named tails, and checking (and asking about another size) read first,
-- in their order
abbrev pub judge_files : TableOptions → List DeskFile
judge_files reading = tables_and reading (file.Plan ∷ [])

abbrev pub due_files : TableOptions → List DeskFile
due_files reading = tables_and reading (file.Tails ∷ file.Plan ∷ [])

abbrev pub proof_files : TableOptions → List DeskFile
proof_files reading = tables_and reading (file.Proof ∷ [])
