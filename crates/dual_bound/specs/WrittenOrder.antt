-- Trees in written order: those that the text of a proof tells, each by one text alone.
use Rattle.std.specs.Prelude.{◌≡◌, ℕ, ◌<◌, ◌≤◌, ◌^◌, ◌==◌, ◌&&◌, Bool, false, not, List, [], ◌∷◌, length, All, ℤ, pos, neg_ℤ, ◌≤ℤ◌, Option, Some, None, IsTrue, ⊤}
use Rattle.std.specs.Ordering.{int_eq}
use Rattle.fleet_model.specs.Schedule.{IsPair, days_in, fleets_in, last_of, leg_on, legs_in, stations_in}
use Rattle.fleet_model.specs.declared.tables.Tables.{Tables}
use Rattle.dual_bound.specs.Leaves.{depth_of}
use Rattle.dual_bound.specs.Nodes.{nodes_of}
use Rattle.dual_bound.specs.Order.{charge_follows, same_place, step_follows, weight_follows}
use Rattle.dual_bound.specs.declared.trees.TheConstants.{MAX_DEPTH}
use Rattle.dual_bound.specs.declared.prices.TheConstants.{MAX_SIZE}
use Rattle.dual_bound.specs.declared.mixed.Mixed.{Mixed}
use Rattle.dual_bound.specs.declared.mixed.Weight.{Weight}
use Rattle.dual_bound.specs.declared.nodes.Node.{Node}
use Rattle.dual_bound.specs.declared.nodes.Node.TheVariants as node
use Rattle.dual_bound.specs.declared.prices.Charge.{Charge}
use Rattle.dual_bound.specs.declared.prices.Prices.{Prices}
use Rattle.dual_bound.specs.declared.prices.PriceStep.{PriceStep}
use Rattle.dual_bound.specs.declared.trees.Cause.{Cause}
use Rattle.dual_bound.specs.declared.trees.Cause.TheVariants as cause
use Rattle.dual_bound.specs.declared.trees.Tree.{Tree}

-- a number that a text may hold: its size is no more than the greatest
pub record IsFigure (z : ℤ) : Type 0 where
  pub no_less : neg_ℤ (pos MAX_SIZE) ≤ℤ z
  pub no_more : z ≤ℤ pos MAX_SIZE

-- a step of the tables at a minute of the period
pub record IsStepInOrder (t : Tables) (step : PriceStep) : Type 0 where
  pub fleet : step.fleet < fleets_in t
  pub station : step.station < stations_in t
  pub minute : step.minute ≤ last_of t
  pub value : IsFigure step.value

-- each step may follow the one before it: at its place a later minute and another value, at a later place minute 0
abbrev pub StepsFollow : Option PriceStep → List PriceStep → Type 0
StepsFollow before [] = ⊤
StepsFollow before (step ∷ steps) = IsTrue (step_follows before step) × StepsFollow (Some step) steps

-- the next step is of the same place
abbrev pub goes_on : PriceStep → List PriceStep → Bool
goes_on step [] = false
goes_on step (next ∷ steps) = same_place step next

-- a step of value 0 at minute 0 that is the one step of its place
abbrev pub is_lone_zero : PriceStep → List PriceStep → Bool
is_lone_zero step steps = (step.minute == 0) && int_eq step.value (pos 0) && not (goes_on step steps)

-- no step of value 0 is the one step of its place
abbrev pub NoLoneZero : List PriceStep → Type 0
NoLoneZero [] = ⊤
NoLoneZero (step ∷ steps) = (is_lone_zero step steps ≡ false) × NoLoneZero steps

-- steps rise by fleet, station and minute, say 0 only where the price was another, and begin at minute 0 at each place
pub record AreStepsInOrder (t : Tables) (steps : List PriceStep) : Type 0 where
  pub each : All (IsStepInOrder t) steps
  pub follow : StepsFollow None steps
  pub no_lone_zero : NoLoneZero steps

-- a charge of a station and a day of the tables, days counted from 1
pub record IsChargeInOrder (t : Tables) (entry : Charge) : Type 0 where
  pub station : entry.station < stations_in t
  pub some : 0 < entry.day
  pub day : entry.day ≤ days_in t
  pub charge : IsFigure entry.charge

-- each charge may follow the one before it: it isn't 0, and it is of a later station, or of a later day there
abbrev pub ChargesFollow : Option Charge → List Charge → Type 0
ChargesFollow before [] = ⊤
ChargesFollow before (entry ∷ entries) = IsTrue (charge_follows before entry) × ChargesFollow (Some entry) entries

-- charges rise by station and day, and none is 0
pub record AreChargesInOrder (t : Tables) (charges : List Charge) : Type 0 where
  pub each : All (IsChargeInOrder t) charges
  pub follow : ChargesFollow None charges

-- prices: one rent for each fleet, and the charges and the steps in their order
pub record ArePricesInOrder (t : Tables) (prices : Prices) : Type 0 where
  pub scale : IsFigure prices.scale
  pub one_each : length prices.rents ≡ fleets_in t
  pub rents : All IsFigure prices.rents
  pub charges : AreChargesInOrder t prices.charges
  pub steps : AreStepsInOrder t prices.steps

-- a weight of a leg on a choice of the tables
pub record IsWeightInOrder (t : Tables) (entry : Weight) : Type 0 where
  pub pair : IsPair t (leg_on entry.leg entry.choice)
  pub weight : IsFigure entry.weight

-- each weight may follow the one before it: it isn't 0, and its pair comes later, by leg and then by choice
abbrev pub WeightsFollow : Option Weight → List Weight → Type 0
WeightsFollow before [] = ⊤
WeightsFollow before (entry ∷ entries) = IsTrue (weight_follows before entry) × WeightsFollow (Some entry) entries

-- a fractional assignment: its weights rise by leg and choice, and none is 0
pub record IsMixedInOrder (t : Tables) (mixed : Mixed) : Type 0 where
  pub scale : IsFigure mixed.scale
  pub each : All (IsWeightInOrder t) mixed.weights
  pub follow : WeightsFollow None mixed.weights

-- a count that 64 bits hold
pub record IsCount (n : ℕ) : Type 0 where
  pub held : n < 2 ^ 64

-- a cause
abbrev pub IsCauseInOrder : Tables → Cause → Type 0
IsCauseInOrder t (cause.Nodes mixed) = IsMixedInOrder t mixed
IsCauseInOrder t (cause.Pivots made) = IsCount made
IsCauseInOrder t (cause.Grew pivots row column) = IsCount pivots × IsCount row × IsCount column
IsCauseInOrder t (cause.Lift step at) = IsCount step × IsCount at

-- a node without its children
abbrev pub IsNodeInOrder : Tables → Node → Type 0
IsNodeInOrder t (node.Bare leg) = leg < legs_in t
IsNodeInOrder t node.Sole = ⊤
IsNodeInOrder t (node.Refuted prices) = ArePricesInOrder t prices
IsNodeInOrder t (node.Priced prices) = ArePricesInOrder t prices
IsNodeInOrder t (node.Open prices why) = ArePricesInOrder t prices × IsCauseInOrder t why
IsNodeInOrder t (node.Trim leg choice) = IsPair t (leg_on leg choice)
IsNodeInOrder t (node.Split leg choice prices mixed) = IsPair t (leg_on leg choice) × ArePricesInOrder t prices × IsMixedInOrder t mixed

-- the tree is in written order
abbrev pub InWrittenOrder : Tables → Tree → Type 0
InWrittenOrder t tree = All (IsNodeInOrder t) (nodes_of tree)

-- no more trims and splits stand above a node than a reader takes
abbrev pub IsShallow : Tree → Type 0
IsShallow tree = depth_of tree ≤ MAX_DEPTH
