-- The verdict on an assignment where one fleet may have another number of aircraft than the tables say.
use Rattle.std.specs.Prelude.{◌≡◌, ℕ, ◌<◌, ◌≤◌, List, Option, Some, None, ℤ}
use Rattle.fleet_model.specs.declared.sizes.Sizes.{Sizes}
use Rattle.fleet_model.specs.declared.tables.Tables.{Tables}
use Rattle.fleet_model.specs.Counts.{weights_of}
use Rattle.fleet_model.specs.Legal.{HasRoom, IsAllowed, IsAssignment, IsLegal, total_cost}
use Rattle.fleet_model.specs.Schedule.{fleets_in}
use Rattle.fleet_model.specs.Sizes.{aircraft_by}
use Rattle.fleet_model.specs.Use.{IsBalanced, used_of}
use Rattle.plan_judge.specs.Verdicts.{FirstCrowded, FirstNotAllowed, FirstUnbalanced}
use Rattle.plan_judge.specs.declared.limits.Overuse.{Overuse}
use Rattle.plan_judge.specs.declared.verdicts.Verdict.{Verdict}
use Rattle.plan_judge.specs.declared.verdicts.Verdict.TheVariants as verdict

-- no fleet uses more aircraft than it has
pub record IsWithinBy (t : Tables) (by : Sizes) (a : List ℕ) : Type 0 where
  pub each : (f : ℕ) → f < fleets_in t → used_of t (weights_of a) f ≤ aircraft_by t by f

-- the first fleet that uses more aircraft than it has
pub record FirstTooManyBy (t : Tables) (by : Sizes) (a : List ℕ) (fleet used has : ℕ) : Type 0 where
  pub within : fleet < fleets_in t
  pub uses : used ≡ used_of t (weights_of a) fleet
  pub owns : has ≡ aircraft_by t by fleet
  pub too_many : has < used
  pub first : (f : ℕ) → f < fleet → used_of t (weights_of a) f ≤ aircraft_by t by f

abbrev pub IsFirstTooManyBy : Tables → Sizes → List ℕ → Overuse → Type 0
IsFirstTooManyBy t by a found = FirstTooManyBy t by a found.fleet found.used found.has

-- an assignment that is legal
pub record IsLegalBySizes (t : Tables) (by : Sizes) (a : List ℕ) : Type 0 where
  pub assignment : IsAssignment t a
  pub allowed : IsAllowed t a
  pub balanced : IsBalanced t (weights_of a)
  pub within : IsWithinBy t by a
  pub room : HasRoom t 1 (weights_of a)

-- the verdict on an assignment
abbrev pub IsVerdictBy : Tables → Sizes → List ℕ → Verdict → Type 0
IsVerdictBy t by a (verdict.NotAllowed leg) = FirstNotAllowed t a leg
IsVerdictBy t by a (verdict.Unbalanced fleet station came left) = IsAllowed t a × FirstUnbalanced t a fleet station came left
IsVerdictBy t by a (verdict.TooMany fleet used has) = IsAllowed t a × IsBalanced t (weights_of a) × FirstTooManyBy t by a fleet used has
IsVerdictBy t by a (verdict.Crowded station day stands cap) = IsAllowed t a × IsBalanced t (weights_of a) × IsWithinBy t by a × FirstCrowded t a station day stands cap
IsVerdictBy t by a (verdict.Legal cost) = IsLegalBySizes t by a × (cost ≡ total_cost t a)

-- the cost of which a verdict tells
abbrev pub cost_judged : Verdict → Option ℤ
cost_judged (verdict.NotAllowed leg) = None
cost_judged (verdict.Unbalanced fleet station came left) = None
cost_judged (verdict.TooMany fleet used has) = None
cost_judged (verdict.Crowded station day stands cap) = None
cost_judged (verdict.Legal cost) = Some cost

-- an assignment is legal, and costs this
pub record IsLegalAt (t : Tables) (plan : List ℕ) (cost : ℤ) : Type 0 where
  pub legal : IsLegal t plan
  pub costs : cost ≡ total_cost t plan
