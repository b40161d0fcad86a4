-- What solving leaves: the plan and its cost, its rotations, the bound, or that nothing is legal, over what the files held
-- and hold. And what it means where checking says that a proof holds, and what it says of tables of another size.
use Rattle.std.specs.Prelude.{◌≡◌, ℕ, List, Bool, true, false, Option, Some, None, IfSome, IsSomeAnd, ⊤, ℤ, ◌≤ℤ◌}
use Rattle.cert_check.specs.OtherSizes.{answer_of}
use Rattle.cert_check.specs.Verdicts.{BoundsAll}
use Rattle.cert_check.specs.declared.checked.Checked.TheVariants as checked
use Rattle.command_words.specs.Words.{Asked, check, due, judge, make, solve, tails, whatif}
use Rattle.command_words.specs.declared.command.SolveOptions.{SolveOptions}
use Rattle.command_words.specs.declared.command.TheConstants.{DEFAULT_OPTIONS, DEFAULT_READING}
use Rattle.fleet_model.specs.OtherSizes.{IsOtherSize}
use Rattle.fleet_model.specs.Schedule.{fleet_of}
use Rattle.fleet_model.specs.declared.options.TableOptions.{TableOptions}
use Rattle.fleet_model.specs.declared.tables.Tables.{Tables}
use Rattle.bound_cert.specs.ProofText.{proof_text}
use Rattle.plan_desk.specs.Desk.{Files}
use Rattle.plan_desk.specs.DeskFile.{path_of}
use Rattle.plan_desk.specs.Sink.{output_with}
use Rattle.plan_desk.specs.declared.file.DeskFile.TheVariants as desk_file
use Rattle.rotation_report.specs.RotationRecords.{rotation_text}
use Rattle.euler_rotation.specs.declared.fleet_rotation.FleetRotation.{FleetRotation}
use Rattle.fleet_cli.specs.plan_search.SolvedBy.{IsSolvedBy}
use Rattle.plan_text.specs.Text.{plan_text}
use Rattle.sched_read.specs.Files.{FilesRead}
use Rattle.table_maker.specs.Laws.{made_bytes}
use Rattle.table_maker.specs.Made.{made_tables}
use Rattle.folder_answers.specs.Contents.{bytes_in, five_bytes, table_bytes}
use Rattle.folder_answers.specs.Gathered.{AllStand}
use Rattle.folder_answers.specs.Making.{made_files}
use Rattle.folder_answers.specs.FileLists.{five_tables, proof_files, tables_of}
use Rattle.folder_answers.specs.Refusals.{fleet_named}
use Rattle.fleet_cli.specs.Run.{IsSolution, PlanThere}
use Rattle.dual_bound.specs.Solved.{tree_of}
use Rattle.folder_answers.specs.Solution.{AreRotationsOf, printed_text, solved_status}
use Rattle.folder_answers.specs.Texts.{checked_text, what_if_text}
use Rattle.folder_answers.specs.Written.{with_texts}
use Rattle.dual_bound.specs.declared.solved.Solved.{Solved}
use Rattle.dual_bound.specs.declared.solved.Solved.TheVariants as solved
use Rattle.folder_answers.specs.declared.status.TheConstants.{DONE}

-- there is a plan
abbrev pub is_planned : Solved → Bool
is_planned (solved.Planned plan cost bound tree) = true
is_planned (solved.Infeasible tree) = false
is_planned (solved.Unsettled bound tree) = false

-- what stands under the plan's name: its text, and what stood there before where there is no plan
abbrev pub plan_there : Tables → Solved → Option (List ℕ) → Option (List ℕ)
plan_there t (solved.Planned plan cost bound tree) before = Some (plan_text t plan)
plan_there t (solved.Infeasible tree) before = before
plan_there t (solved.Unsettled bound tree) before = before

-- The files read as tables, with the times of legs and the legs that may be left out where these are asked for. Under the
-- plan's name stands the text of one legal plan, under the proof's name the text of one tree, and the summary with the plan's
-- exact cost, the tree's bound and the status was put. No legal assignment, whatever fleets and departures it chooses and
-- whichever legs it leaves out, undercuts that bound; it is the cost where no leaf is open, each open leaf has its cause, which
-- isn't spent pivots where all are allowed or where the tree was found freely, and where it says infeasible, none is legal. Under the rotations' name stands the
-- text of what becomes of each fleet's rotation by that plan, on the tables in which each leg departs when the plan says, and
-- the summary tells it: each tour is one of the fleet and is kept, each that is refused has its cause, and the pairs of the
-- first round are a through set that is worth most. Without a plan there are no rotations.
pub record LeavesSolution (held stands : Files) (dir : List ℕ) (reading : TableOptions) (options : SolveOptions) (code : ℕ) (before after : Option (List ℕ)) : Type 0 where
  pub tables : Tables
  pub solution : Solved
  pub shown : Tables
  pub rotations : List FleetRotation
  pub there : AllStand held dir (tables_of reading)
  pub reads : FilesRead (table_bytes (bytes_in held dir)) reading tables
  pub solves : IsSolvedBy tables options.way options.search solution
  pub rotates : AreRotationsOf tables options.rotations solution shown rotations
  pub plan : stands (path_of dir desk_file.Plan) ≡ plan_there tables solution (held (path_of dir desk_file.Plan))
  pub proof : stands (path_of dir desk_file.Proof) ≡ Some (proof_text tables (is_planned solution) (tree_of solution))
  pub rotation : stands (path_of dir desk_file.Rotation) ≡ Some (rotation_text shown rotations options.rotations.visits)
  pub put : after ≡ output_with before (printed_text tables options.json solution rotations)
  pub code_is : code ≡ solved_status solution

-- the desk still tells what it holds, and it is what solving leaves
pub record TellsSolution (held : Files) (told : Option Files) (dir : List ℕ) (reading : TableOptions) (options : SolveOptions) (code : ℕ) (before after : Option (List ℕ)) : Type 0 where
  pub stands : Files
  pub tells : told ≡ Some stands
  pub leaves : LeavesSolution held stands dir reading options code before after

-- The desk still tells what it holds. The five made tables stand there, and all else is what solving leaves, by the
-- defaults, where these tables stood before.
pub record TellsMade (held : Files) (told : Option Files) (dir : List ℕ) (number legs code : ℕ) (before after : Option (List ℕ)) : Type 0 where
  pub stands : Files
  pub tells : told ≡ Some stands
  pub there : AllStand stands dir five_tables
  pub tables : five_bytes (bytes_in stands dir) ≡ made_bytes (made_tables number legs)
  pub leaves : LeavesSolution (with_texts held dir (made_files (made_tables number legs))) stands dir DEFAULT_READING DEFAULT_OPTIONS code before after

-- a bound is there, and it is no more than a cost
abbrev pub IsUnderCost : Option ℤ → ℤ → Type 0
IsUnderCost bound cost = IsSomeAnd bound (λ least. least ≤ℤ cost)

-- The files read as tables. What was put is the line of a tree that holds: its bound, with the cost of the legal plan
-- that stands there where one comes with it. No legal assignment undercuts the bound, and with no bound none is legal; so
-- where there is a cost, there is a bound, and it is no more.
pub record TellsBound (held : Files) (dir : List ℕ) (reading : TableOptions) (before after : Option (List ℕ)) : Type 0 where
  pub tables : Tables
  pub cost : Option ℤ
  pub bound : Option ℤ
  pub there : AllStand held dir (proof_files reading)
  pub reads : FilesRead (table_bytes (bytes_in held dir)) reading tables
  pub plan : IfSome cost (PlanThere held dir tables)
  pub proven : BoundsAll tables bound
  pub under : IfSome cost (IsUnderCost bound)
  pub put : after ≡ output_with before (checked_text cost (checked.Holds bound))

-- The files read as tables, and a fleet of theirs has the name. What was put is a bound for the tables in which that
-- fleet has so many aircraft, and is else like them: each assignment that is legal there costs at least the bound, and with no bound
-- none is legal there.
pub record TellsOther (held : Files) (dir : List ℕ) (reading : TableOptions) (name : List ℕ) (count : ℕ) (before after : Option (List ℕ)) : Type 0 where
  pub tables : Tables
  pub fleet : ℕ
  pub other : Tables
  pub bound : Option ℤ
  pub there : AllStand held dir (proof_files reading)
  pub reads : FilesRead (table_bytes (bytes_in held dir)) reading tables
  pub known : fleet_named tables name ≡ Some fleet
  pub sized : IsOtherSize tables fleet count other
  pub proven : BoundsAll other bound
  pub put : after ≡ output_with before (what_if_text (fleet_of tables fleet).name count (answer_of bound))

-- the headline: a run that solves leaves a solution, where its status tells of one, and one that makes tables leaves one of
-- them; one that checks tells a bound that is proved, where it says that a proof holds, and so does one that asks about
-- another size, where it tells a bound or that there is no plan
abbrev pub Headline : Files → Option Asked → ℕ → Option Files → Option (List ℕ) → Option (List ℕ) → Type 0
Headline held None code told before after = ⊤
Headline held (Some (judge dir reading)) code told before after = ⊤
Headline held (Some (check dir reading)) code told before after = code ≡ DONE → TellsBound held dir reading before after
Headline held (Some (tails dir reading limits dates)) code told before after = ⊤
Headline held (Some (due dir reading limits dates)) code told before after = ⊤
Headline held (Some (solve dir reading options)) code told before after = IsSolution code → TellsSolution held told dir reading options code before after
Headline held (Some (make dir number legs)) code told before after = TellsMade held told dir number legs code before after
Headline held (Some (whatif dir reading name count)) code told before after = code ≡ DONE → TellsOther held dir reading name count before after
