-- What a run prints.
use Rattle.std.specs.Prelude.{ℕ, List, [], ◌∷◌, ◌++◌, codes, ℤ, Option, Some, None}
use Rattle.std.specs.Fmt.{decimal, signed_decimal}
use Rattle.cert_check.specs.declared.checked.Checked.{Checked}
use Rattle.cert_check.specs.declared.checked.Checked.TheVariants as checked
use Rattle.cert_check.specs.declared.what_if.WhatIf.{WhatIf}
use Rattle.cert_check.specs.declared.what_if.WhatIf.TheVariants as what
use Rattle.fleet_model.specs.declared.tables.Tables.{Tables}
use Rattle.fleet_model.specs.declared.refusals.TableFile.{TableFile}
use Rattle.fleet_model.specs.declared.refusals.TableFile.TheVariants as table
use Rattle.fleet_model.specs.Schedule.{fleet_of, fleets_in, leg_of, station_of}
use Rattle.plan_desk.specs.DeskFile.{file_name}
use Rattle.plan_desk.specs.declared.file.DeskFile.{DeskFile}
use Rattle.plan_desk.specs.declared.file.DeskFile.TheVariants as file
use Rattle.plan_judge.specs.declared.verdicts.Verdict.{Verdict}
use Rattle.plan_judge.specs.declared.verdicts.Verdict.TheVariants as verdict
use Rattle.printed_lines.specs.Lines.{line_of}
use Rattle.rotation_report.specs.TextLines.{fleet_lines}

-- the file of a table
abbrev pub desk_file_of : TableFile → DeskFile
desk_file_of table.Stations = file.Stations
desk_file_of table.Fleets = file.Fleets
desk_file_of table.Legs = file.Legs
desk_file_of table.Costs = file.Costs
desk_file_of table.Throughs = file.Throughs
desk_file_of table.Windows = file.Windows
desk_file_of table.Optional = file.Optional
desk_file_of table.Tails = file.Tails

abbrev pub usage_text : List ℕ
usage_text = line_of (codes "usage: fleetplan judge|solve|check|make|tails|due|whatif DIR [options]" ∷ [])

abbrev pub fault_text : DeskFile → List ℕ
fault_text f = line_of (codes "fault: " ∷ file_name f ∷ [])

abbrev pub bad_input_text : DeskFile → ℕ → ℕ → List ℕ
bad_input_text f row kind = line_of (codes "bad input: " ∷ file_name f ∷ codes " record " ∷ decimal row ∷ codes " kind " ∷ decimal kind ∷ [])

abbrev pub plan_refused_text : ℕ → ℕ → List ℕ
plan_refused_text row kind = line_of (codes "plan refused: record " ∷ decimal row ∷ codes " kind " ∷ decimal kind ∷ [])

abbrev pub proof_refused_text : ℕ → ℕ → List ℕ
proof_refused_text line kind = line_of (codes "proof refused: line " ∷ decimal line ∷ codes " kind " ∷ decimal kind ∷ [])

-- what is printed of a verdict
abbrev pub verdict_text : Tables → List ℕ → Verdict → List ℕ
verdict_text t a (verdict.NotAllowed leg) = line_of (codes "not allowed: " ∷ (leg_of t leg).flight ∷ [])
verdict_text t a (verdict.Unbalanced f s came left) =
    line_of (codes "unbalanced: " ∷ (fleet_of t f).name ∷ codes " at " ∷ (station_of t s).code ∷ codes ", in " ∷ decimal came ∷ codes ", out " ∷ decimal left ∷ [])
verdict_text t a (verdict.TooMany f used has) =
    line_of (codes "too many: " ∷ (fleet_of t f).name ∷ codes " used " ∷ decimal used ∷ codes " of " ∷ decimal has ∷ [])
verdict_text t a (verdict.Crowded s d stands cap) =
    line_of (codes "crowded: " ∷ (station_of t s).code ∷ codes " day " ∷ decimal d ∷ codes " parked " ∷ decimal stands ∷ codes " of " ∷ decimal cap ∷ [])
verdict_text t a (verdict.Legal cost) = line_of (codes "legal: cost " ∷ signed_decimal cost ∷ []) ++ fleet_lines t a (fleets_in t)

-- the bound of a tree that holds, with the plan's cost where one comes with it
abbrev pub bound_text : Option ℤ → ℤ → List ℕ
bound_text (Some cost) bound = line_of (codes "holds: cost " ∷ signed_decimal cost ∷ codes " bound " ∷ signed_decimal bound ∷ [])
bound_text None bound = line_of (codes "holds: bound " ∷ signed_decimal bound ∷ [])

-- the first broken node, and the first rule that it breaks
abbrev pub broken_text : ℕ → ℕ → List ℕ
broken_text node rule = line_of (codes "broken: node " ∷ decimal node ∷ codes " rule " ∷ decimal rule ∷ [])

-- what is printed of a tree that comes with a plan of this cost, or with none; where it holds without a bound, no plan
-- can come with it, for nothing is legal
abbrev pub checked_text : Option ℤ → Checked → List ℕ
checked_text cost (checked.Holds (Some bound)) = bound_text cost bound
checked_text cost (checked.Holds None) = line_of (codes "holds: infeasible" ∷ [])
checked_text cost (checked.Broken node rule) = broken_text node rule

-- a name that no fleet of the tables has
abbrev pub unknown_fleet_text : List ℕ → List ℕ
unknown_fleet_text name = line_of (codes "unknown fleet: " ∷ name ∷ [])

-- what is printed of the tables with so many aircraft of the fleet of this name
abbrev pub what_if_text : List ℕ → ℕ → WhatIf → List ℕ
what_if_text name count (what.Fallen node) = line_of (codes "fallen: node " ∷ decimal node ∷ [])
what_if_text name count what.NoPlan = line_of (codes "whatif " ∷ name ∷ codes " " ∷ decimal count ∷ codes ": infeasible" ∷ [])
what_if_text name count (what.Bound bound) =
    line_of (codes "whatif " ∷ name ∷ codes " " ∷ decimal count ∷ codes ": bound " ∷ signed_decimal bound ∷ [])
