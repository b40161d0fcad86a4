-- What commands answer on the tables of a folder, that look for no plan.
use Rattle.std.specs.Prelude.{◌≡◌, ◌%◌, ℕ, Bool, true, false, if◌then◌else◌, List, ℤ, Option, Some, None}
use Rattle.bound_cert.specs.declared.reading.Proof.{Proof}
use Rattle.dual_bound.specs.declared.trees.Tree.{Tree}
use Rattle.due_report.specs.Lines.{due_text}
use Rattle.due_report.specs.Placings.{ArePlacings, are_unplaced}
use Rattle.cert_check.specs.Verdicts.{IsChecked}
use Rattle.cert_check.specs.declared.checked.Checked.{Checked}
use Rattle.cert_check.specs.declared.checked.Checked.TheVariants as checked
use Rattle.cert_check.specs.OtherSizes.{IsAskedOfTree}
use Rattle.cert_check.specs.declared.what_if.WhatIf.{WhatIf}
use Rattle.cert_check.specs.declared.what_if.WhatIf.TheVariants as what
use Rattle.command_words.specs.Arguments.{AskedDates}
use Rattle.command_words.specs.declared.command.RotationLimits.{RotationLimits}
use Rattle.fleet_model.specs.Legal.{total_cost}
use Rattle.fleet_model.specs.OtherSizes.{IsOtherSize}
use Rattle.fleet_model.specs.Schedule.{days_in, fleet_of}
use Rattle.fleet_model.specs.declared.options.TableOptions.{TableOptions}
use Rattle.fleet_model.specs.declared.tables.Tables.{Tables}
use Rattle.euler_rotation.specs.declared.fleet_rotation.FleetRotation.{FleetRotation}
use Rattle.plan_judge.specs.Verdicts.{IsVerdict}
use Rattle.plan_judge.specs.declared.verdicts.Verdict.{Verdict}
use Rattle.plan_rotations.specs.Rotations.{ArePlanRotations}
use Rattle.rotation_report.specs.Tails.{tails_text}
use Rattle.sched_read.specs.Files.{AllBytes}
use Rattle.tail_dates.specs.declared.placing.Placed.{Placed}
use Rattle.tail_dates.specs.declared.tails.TailState.{TailState}
use Rattle.folder_answers.specs.Refusals.{says, verdict_status}
use Rattle.folder_answers.specs.Skeletons.{OnFleet, OnLegal, OnPlan, OnProof, OnShown, OnTables, OnTails}
use Rattle.folder_answers.specs.Texts.{broken_text, checked_text, verdict_text, what_if_text}
use Rattle.folder_answers.specs.declared.answer.Answer.{Answer}
use Rattle.folder_answers.specs.declared.opened.Question.{Question}
use Rattle.folder_answers.specs.declared.opened.Question.TheVariants as question
use Rattle.folder_answers.specs.declared.status.TheConstants.{DONE, FALLEN, REFUSED, UNPLACED}

-- ---- judging

-- the plan has its verdict
pub record JudgesPlan (t : Tables) (plan : List ℕ) (answer : Answer) : Type 0 where
  pub verdict : Verdict
  pub judged : IsVerdict t plan verdict
  pub is : answer ≡ says (verdict_status verdict) (verdict_text t plan verdict)

-- judging on tables, by the bytes of the plan
abbrev pub JudgesOn : List ℕ → Tables → Answer → Type 0
JudgesOn plan t = OnPlan t plan (JudgesPlan t)

-- judging by the bytes of the tables and of the plan
abbrev pub Judges : TableOptions → AllBytes → List ℕ → Answer → Type 0
Judges reading bytes plan = OnTables reading bytes (JudgesOn plan)

-- ---- checking

-- the status that tells a verdict on a tree
abbrev pub checked_status : Checked → ℕ
checked_status (checked.Holds bound) = DONE
checked_status (checked.Broken node rule) = REFUSED

-- the tree that comes with a plan of this cost, or with none, has its verdict
pub record ChecksTree (t : Tables) (cost : Option ℤ) (tree : Tree) (answer : Answer) : Type 0 where
  pub verdict : Checked
  pub checked : IsChecked t cost tree verdict
  pub is : answer ≡ says (checked_status verdict) (checked_text cost verdict)

-- ---- another size

-- the status that tells what a tree says of tables of another size
abbrev pub what_if_status : WhatIf → ℕ
what_if_status (what.Fallen node) = FALLEN
what_if_status what.NoPlan = DONE
what_if_status (what.Bound bound) = DONE

-- it is told what a tree says of the tables in which a fleet has so many aircraft
pub record SaysOfOther (t : Tables) (fleet count : ℕ) (tree : Tree) (answer : Answer) : Type 0 where
  pub other : Tables
  pub sized : IsOtherSize t fleet count other
  pub what : WhatIf
  pub asked : IsAskedOfTree other tree what
  pub is : answer ≡ says (what_if_status what) (what_if_text (fleet_of t fleet).name count what)

-- a tree that holds is asked, and of one that doesn't the first broken rule is told
abbrev pub AsksChecked : Tables → ℕ → ℕ → Tree → Checked → Answer → Type 0
AsksChecked t fleet count tree (checked.Holds bound) answer = SaysOfOther t fleet count tree answer
AsksChecked t fleet count tree (checked.Broken node rule) answer = answer ≡ says REFUSED (broken_text node rule)

-- .. by the verdict on a tree that comes with a plan of this cost, or with none
pub record AsksTree (t : Tables) (fleet count : ℕ) (cost : Option ℤ) (tree : Tree) (answer : Answer) : Type 0 where
  pub verdict : Checked
  pub checked : IsChecked t cost tree verdict
  pub asks : AsksChecked t fleet count tree verdict answer

-- ---- what is asked of a proof

-- what is answered of a tree that comes with a plan of this cost, or with none, by what is asked of it
abbrev pub TellsTree : Tables → Question → Option ℤ → Tree → Answer → Type 0
TellsTree t question.Holds cost tree = ChecksTree t cost tree
TellsTree t (question.OtherSize fleet count) cost tree = AsksTree t fleet count cost tree

-- .. with a plan's cost
abbrev pub TellsWith : Tables → Question → Tree → List ℕ → Answer → Type 0
TellsWith t asks tree plan = TellsTree t asks (Some (total_cost t plan)) tree

-- .. with the plan of these bytes where one comes with it
abbrev pub TellsProof : Tables → Question → Bool → Tree → List ℕ → Answer → Type 0
TellsProof t asks false tree plan = TellsTree t asks None tree
TellsProof t asks true tree plan = OnPlan t plan (OnLegal t (TellsWith t asks tree))

-- .. of a proof, which says whether a plan comes with it
abbrev pub TellsRead : Tables → Question → List ℕ → Proof → Answer → Type 0
TellsRead t asks plan proof = TellsProof t asks proof.planned proof.tree plan

-- .. on tables, by the bytes of the proof and of the plan
abbrev pub TellsOn : Question → List ℕ → List ℕ → Tables → Answer → Type 0
TellsOn asks proof plan t = OnProof t proof (TellsRead t asks plan)

-- checking by the bytes of the tables, of the proof and of the plan
abbrev pub Checks : TableOptions → AllBytes → List ℕ → List ℕ → Answer → Type 0
Checks reading bytes proof plan = OnTables reading bytes (TellsOn question.Holds proof plan)

-- asking about so many aircraft of the fleet of this name, on tables
abbrev pub AsksOn : List ℕ → ℕ → List ℕ → List ℕ → Tables → Answer → Type 0
AsksOn name count proof plan t = OnFleet t name (λ fleet. TellsOn (question.OtherSize fleet count) proof plan t)

-- .. by the bytes of the tables, of the proof and of the plan
abbrev pub Asks : TableOptions → List ℕ → ℕ → AllBytes → List ℕ → List ℕ → Answer → Type 0
Asks reading name count bytes proof plan = OnTables reading bytes (AsksOn name count proof plan)

-- ---- tails

-- the tails of a plan's rotations on the dates are told, on the tables that are shown
pub record TellsLines (limits : RotationLimits) (dates : AskedDates) (shown : Tables) (flown : List ℕ) (answer : Answer) : Type 0 where
  pub rotations : List FleetRotation
  pub rotates : ArePlanRotations shown flown limits.days limits.visits rotations
  pub is : answer ≡ says DONE (tails_text shown rotations dates.past dates.first dates.count)

abbrev pub TellsTails : Tables → RotationLimits → AskedDates → List ℕ → Answer → Type 0
TellsTails t limits dates = OnShown t (TellsLines limits dates)

-- telling tails on tables, by the bytes of the plan
abbrev pub TailsOn : RotationLimits → AskedDates → List ℕ → Tables → Answer → Type 0
TailsOn limits dates plan t = OnPlan t plan (OnLegal t (TellsTails t limits dates))

-- telling tails by the bytes of the tables and of the plan
abbrev pub TailsOf : TableOptions → RotationLimits → AskedDates → AllBytes → List ℕ → Answer → Type 0
TailsOf reading limits dates bytes plan = OnTables reading bytes (TailsOn limits dates plan)

-- ---- named tails

-- the status that tells whether tails are placed
abbrev pub due_status : List (Option Placed) → ℕ
due_status placings = if are_unplaced placings then UNPLACED else DONE

-- the day of the period, counted from 0, that comes so many days after a first one
abbrev pub day_past : Tables → ℕ → ℕ
day_past t past = past % days_in t

-- By a plan's rotations the tails of each fleet take starts of the first date's day of the period, or can't, and what they fly on
-- the dates is told, on the tables that are shown.
pub record TellsStarts (limits : RotationLimits) (dates : AskedDates) (tails : List TailState) (shown : Tables) (flown : List ℕ) (answer : Answer) : Type 0 where
  pub rotations : List FleetRotation
  pub placings : List (Option Placed)
  pub rotates : ArePlanRotations shown flown limits.days limits.visits rotations
  pub places : ArePlacings shown flown rotations (day_past shown dates.past) tails placings
  pub is : answer ≡ says (due_status placings) (due_text shown rotations tails placings dates.first dates.count)

abbrev pub TellsDue : Tables → RotationLimits → AskedDates → List TailState → List ℕ → Answer → Type 0
TellsDue t limits dates named = OnShown t (TellsStarts limits dates named)

-- telling named tails, by the bytes of the plan
abbrev pub DueWith : RotationLimits → AskedDates → List ℕ → Tables → List TailState → Answer → Type 0
DueWith limits dates plan t named = OnPlan t plan (OnLegal t (TellsDue t limits dates named))

-- telling them on tables, by the bytes of the table of tails too
abbrev pub DueOn : RotationLimits → AskedDates → List ℕ → List ℕ → Tables → Answer → Type 0
DueOn limits dates named plan t = OnTails t named (DueWith limits dates plan t)

-- telling them by the bytes of the tables, of the table of tails and of the plan
abbrev pub DueOf : TableOptions → RotationLimits → AskedDates → AllBytes → List ℕ → List ℕ → Answer → Type 0
DueOf reading limits dates bytes named plan = OnTables reading bytes (DueOn limits dates named plan)
