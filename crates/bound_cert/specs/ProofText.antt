-- The text of a proof of a bound: its lines, as they are written and read.
use Rattle.std.specs.Prelude.{◌≡◌, ℕ, Bool, true, false, if◌then◌else◌, List, [], ◌∷◌, ◌++◌, map, pos, slice_index_or, All, ⊤}
use Rattle.std.specs.List.{flat_map, range_with_len}
use Rattle.std.specs.Ordering.{int_eq}
use Rattle.fleet_model.specs.Schedule.{fleets_in}
use Rattle.fleet_model.specs.declared.tables.Tables.{Tables}
use Rattle.dual_bound.specs.Nodes.{nodes_of}
use Rattle.dual_bound.specs.Prices.{rent_of}
use Rattle.dual_bound.specs.declared.mixed.Mixed.{Mixed}
use Rattle.dual_bound.specs.declared.mixed.Weight.{Weight}
use Rattle.dual_bound.specs.declared.nodes.Node.{Node}
use Rattle.dual_bound.specs.declared.nodes.Node.TheVariants as node
use Rattle.dual_bound.specs.declared.prices.Charge.{Charge}
use Rattle.dual_bound.specs.declared.prices.Prices.{Prices}
use Rattle.dual_bound.specs.declared.prices.PriceStep.{PriceStep}
use Rattle.dual_bound.specs.declared.trees.Cause.{Cause}
use Rattle.dual_bound.specs.declared.trees.Cause.TheVariants as cause
use Rattle.dual_bound.specs.declared.trees.Tree.{Tree}
use Rattle.proof_lines.specs.Forms.{has_charges}
use Rattle.proof_lines.specs.LineText.{line_words, text_of}
use Rattle.proof_lines.specs.Words.{Word}
use Rattle.proof_lines.specs.declared.line.Line.{Line}
use Rattle.proof_lines.specs.declared.line.Line.TheVariants as line
use Rattle.proof_lines.specs.declared.line.Version.{Version}
use Rattle.proof_lines.specs.declared.line.Version.TheVariants as version

-- the bytes of lines
abbrev pub text_of_lines : Tables → List Line → List ℕ
text_of_lines t = flat_map (text_of t)

-- the line of a charge, of a step, and of a weight
abbrev pub charge_line : Charge → Line
charge_line entry = line.Charge entry.station entry.day entry.charge

abbrev pub at_line : PriceStep → Line
at_line step = line.At step.fleet step.station step.minute step.value

abbrev pub weight_line : Weight → Line
weight_line entry = line.Weight entry.leg entry.choice entry.weight

-- the first line of an open leaf, by its cause
abbrev pub open_line : Cause → Line
open_line (cause.Nodes mixed) = line.OpenNodes
open_line (cause.Pivots made) = line.OpenPivots made
open_line (cause.Grew pivots row column) = line.OpenGrew pivots row column
open_line (cause.Lift step at) = line.OpenLift step at

-- the line of a fleet's rent, and none where it is 0
abbrev pub rent_lines_at : Prices → ℕ → List Line
rent_lines_at prices f = if int_eq (rent_of prices f) (pos 0) then [] else (line.Rent f (rent_of prices f) ∷ [])

-- the lines of the rents of so many fleets, from the first on
abbrev pub rent_lines : Prices → ℕ → List Line
rent_lines prices fleets = flat_map (rent_lines_at prices) (range_with_len 0 fleets)

-- the lines of prices: the scale, the rents in the order of the fleets, the charges and the steps in their order
abbrev pub price_lines : Tables → Prices → List Line
price_lines t prices = line.Scale prices.scale ∷ (rent_lines prices (fleets_in t) ++ (map charge_line prices.charges ++ map at_line prices.steps))

-- the lines of a fractional assignment: the scale, the weights in their order
abbrev pub mixed_lines : Mixed → List Line
mixed_lines mixed = line.Mixed mixed.scale ∷ map weight_line mixed.weights

-- the lines of a cause behind the prices of its leaf
abbrev pub cause_lines : Cause → List Line
cause_lines (cause.Nodes mixed) = mixed_lines mixed
cause_lines (cause.Pivots made) = []
cause_lines (cause.Grew pivots row column) = []
cause_lines (cause.Lift step at) = []

-- the lines of a node itself, without those of its children
abbrev pub node_lines : Tables → Node → List Line
node_lines t (node.Bare leg) = line.Bare leg ∷ []
node_lines t node.Sole = line.Sole ∷ []
node_lines t (node.Refuted prices) = line.Refuted ∷ price_lines t prices
node_lines t (node.Priced prices) = line.Priced ∷ price_lines t prices
node_lines t (node.Open prices why) = open_line why ∷ (price_lines t prices ++ cause_lines why)
node_lines t (node.Trim leg choice) = line.Trim leg choice ∷ []
node_lines t (node.Split leg choice prices mixed) = line.Split leg choice ∷ (price_lines t prices ++ mixed_lines mixed)

-- the first of them
abbrev pub first_line : Node → Line
first_line (node.Bare leg) = line.Bare leg
first_line node.Sole = line.Sole
first_line (node.Refuted prices) = line.Refuted
first_line (node.Priced prices) = line.Priced
first_line (node.Open prices why) = open_line why
first_line (node.Trim leg choice) = line.Trim leg choice
first_line (node.Split leg choice prices mixed) = line.Split leg choice

-- the node at the top of a tree
abbrev pub root_of : Tree → Node
root_of tree = slice_index_or (nodes_of tree) 0 node.Sole

-- the lines of a tree: those of its nodes, each before its children, and of these those of `yes` first
abbrev pub tree_lines : Tables → Tree → List Line
tree_lines t tree = flat_map (node_lines t) (nodes_of tree)

-- the lines of a proof in a version: the head, whether a plan comes with it, the tree, the end
abbrev pub lines_in_version : Version → Tables → Bool → Tree → List Line
lines_in_version v t planned tree = line.Head v ∷ line.Plan planned ∷ (tree_lines t tree ++ line.End ∷ [])

-- the version that is written: where the tables have windows that with shifts
abbrev pub written_version : Bool → Version
written_version true = version.Three
written_version false = version.Two

-- the lines of a proof in that version; and each as its words
abbrev pub all_lines : Tables → Bool → Tree → List Line
all_lines t = lines_in_version (written_version t.windows) t

abbrev pub proof_lines : Tables → Bool → Tree → List (List Word)
proof_lines t planned tree = map (line_words t) (all_lines t planned tree)

-- the text of a proof in a version
unfoldable pub text_in : Version → Tables → Bool → Tree → List ℕ
text_in v t planned tree = text_of_lines t (lines_in_version v t planned tree)

-- the text of a proof, as it is written
abbrev pub proof_text : Tables → Bool → Tree → List ℕ
proof_text t = text_in (written_version t.windows) t

-- a text of version 1 has no line for charges, so of prices with charges there is none
abbrev pub ArePricesIn : Version → Prices → Type 0
ArePricesIn v prices = has_charges v ≡ false → prices.charges ≡ []

abbrev pub IsNodeIn : Version → Node → Type 0
IsNodeIn v (node.Refuted prices) = ArePricesIn v prices
IsNodeIn v (node.Priced prices) = ArePricesIn v prices
IsNodeIn v (node.Open prices why) = ArePricesIn v prices
IsNodeIn v (node.Split leg choice prices mixed) = ArePricesIn v prices
IsNodeIn v other = ⊤

-- a text of this version can tell the tree
abbrev pub CanTell : Version → Tree → Type 0
CanTell v tree = All (IsNodeIn v) (nodes_of tree)
