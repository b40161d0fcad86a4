-- The lines of a proof name what the tables have, so they are of words, and plain.
use Rattle.bound_cert.proofs.NodesOfTables.{IsNodeOf, nodes_are}
use Rattle.bound_cert.specs.ProofText.{all_lines, at_line, cause_lines, charge_line, lines_in_version, mixed_lines, node_lines, open_line, price_lines, proof_lines, rent_lines, rent_lines_at, tree_lines, weight_line, written_version}
use Rattle.bound_cert.specs.Words.{IsPlainLine}
use Rattle.dual_bound.specs.OfTables.{ArePricesOf, IsCauseOf, IsChargeOf, IsMixedOf, IsOfTables, IsStepOf, IsWeightOf}
use Rattle.dual_bound.specs.Prices.{rent_of}
use Rattle.dual_bound.specs.declared.mixed.Mixed.{Mixed}
use Rattle.dual_bound.specs.Nodes.{nodes_of}
use Rattle.dual_bound.specs.declared.nodes.Node.{Node}
use Rattle.dual_bound.specs.declared.nodes.Node.TheVariants as node
use Rattle.dual_bound.specs.declared.prices.Prices.{Prices}
use Rattle.dual_bound.specs.declared.trees.Cause.{Cause}
use Rattle.dual_bound.specs.declared.trees.Tree.{Tree}
use Rattle.fleet_model.specs.Schedule.{fleets_in}
use Rattle.fleet_model.specs.declared.tables.Tables.{Tables}
use Rattle.proof_lines.specs.declared.line.Version.{Version}
use Rattle.proof_lines.proofs.LineWords.{of_words}
use Rattle.proof_lines.proofs.Spaces.{joined_plain}
use Rattle.proof_lines.specs.LineText.{IsNamed, line_words}
use Rattle.proof_lines.specs.Reading.{made}
use Rattle.proof_lines.specs.Words.{IsOfWords}
use Rattle.proof_lines.specs.declared.line.Line.{Line}
use Rattle.std.proofs.Common.{[], ◌++◌, ◌+◌, ◌<◌, ◌∷◌, ◌≤◌, Bool, List, arith, cond, false, map, pos, suc, true, zero, ℕ}
use Rattle.std.proofs.lemmas.List.Elements.{All-append, All-cons, All-head, All-map, All-nil, All-tail, All-weaker}
use Rattle.std.specs.List.{flat_map, range_with_len}
use Rattle.std.specs.Ordering.{int_eq}
use Rattle.std.specs.Prelude.{All}
use Rattle.dual_bound.specs.declared.trees.Cause.TheVariants as cause
use Rattle.proof_lines.specs.declared.line.Line.TheVariants as says

one_line : (t : Tables) (line : Line) → IsNamed t line → All (IsNamed t) (line ∷ [])
one_line t line is = All-cons (IsNamed t) line [] is (All-nil (IsNamed t))

either_lines : (t : Tables) (b : Bool) (xs ys : List Line) → All (IsNamed t) xs → All (IsNamed t) ys → All (IsNamed t) (cond b xs ys)
either_lines t true xs ys left right = left
either_lines t false xs ys left right = right

rents_at_are : (t : Tables) (prices : Prices) (f : ℕ) → f < fleets_in t → All (IsNamed t) (rent_lines_at prices f)
rents_at_are t prices f fleet =
    let line = says.Rent f (rent_of prices f) in
    either_lines t (int_eq (rent_of prices f) (pos 0)) [] (line ∷ []) (All-nil (IsNamed t)) (one_line t line fleet)

rents_are : (t : Tables) (prices : Prices) (n first : ℕ) → first + n ≤ fleets_in t → All (IsNamed t) (flat_map (rent_lines_at prices) (range_with_len first n))
rents_are t prices zero first within = All-nil (IsNamed t)
rents_are t prices (suc n) first within =
    All-append (IsNamed t) (rent_lines_at prices first) _ (rents_at_are t prices first (omega arith)) (rents_are t prices n (first + 1) (omega arith))

prices_are : (t : Tables) (prices : Prices) → ArePricesOf t prices → All (IsNamed t) (price_lines t prices)
prices_are t prices is =
    All-cons (IsNamed t) (says.Scale prices.scale) _ tt
    (All-append (IsNamed t) (rent_lines prices (fleets_in t)) (map charge_line prices.charges ++ map at_line prices.steps) (rents_are t prices (fleets_in t) 0 (omega arith))
    (All-append (IsNamed t) (map charge_line prices.charges) (map at_line prices.steps)
    (All-map (IsNamed t) charge_line prices.charges (All-weaker (IsChargeOf t) (λ entry. IsNamed t (charge_line entry)) (λ entry is. is) prices.charges is.charges))
    (All-map (IsNamed t) at_line prices.steps (All-weaker (IsStepOf t) (λ step. IsNamed t (at_line step)) (λ step is. (is.fleet, is.station)) prices.steps is.steps))))

mixed_are : (t : Tables) (mixed : Mixed) → IsMixedOf t mixed → All (IsNamed t) (mixed_lines mixed)
mixed_are t mixed is =
    All-cons (IsNamed t) (says.Mixed mixed.scale) (map weight_line mixed.weights) tt
    (All-map (IsNamed t) weight_line mixed.weights (All-weaker (IsWeightOf t) (λ entry. IsNamed t (weight_line entry)) (λ entry is. is) mixed.weights is))

cause_are : (t : Tables) (why : Cause) → IsCauseOf t why → All (IsNamed t) (open_line why ∷ cause_lines why)
cause_are t (cause.Nodes mixed) is = All-cons (IsNamed t) says.OpenNodes (mixed_lines mixed) tt (mixed_are t mixed is)
cause_are t (cause.Pivots made) is = one_line t (says.OpenPivots made) tt
cause_are t (cause.Grew pivots row column) is = one_line t (says.OpenGrew pivots row column) tt
cause_are t (cause.Lift step at) is = one_line t (says.OpenLift step at) tt

node_is : (t : Tables) (n : Node) → IsNodeOf t n → All (IsNamed t) (node_lines t n)
node_is t (node.Bare leg) is = one_line t (says.Bare leg) is
node_is t node.Sole is = one_line t says.Sole tt
node_is t (node.Refuted prices) is = All-cons (IsNamed t) says.Refuted (price_lines t prices) tt (prices_are t prices is)
node_is t (node.Priced prices) is = All-cons (IsNamed t) says.Priced (price_lines t prices) tt (prices_are t prices is)
node_is t (node.Open prices why) is =
    let of_cause = cause_are t why is.1 in
    All-cons (IsNamed t) (open_line why) (price_lines t prices ++ cause_lines why) (All-head (IsNamed t) (open_line why) (cause_lines why) of_cause)
    (All-append (IsNamed t) (price_lines t prices) (cause_lines why) (prices_are t prices is.0) (All-tail (IsNamed t) (open_line why) (cause_lines why) of_cause))
node_is t (node.Trim leg choice) is = one_line t (says.Trim leg choice) is
node_is t (node.Split leg choice prices mixed) is =
    All-cons (IsNamed t) (says.Split leg choice) (price_lines t prices ++ mixed_lines mixed) is.0
    (All-append (IsNamed t) (price_lines t prices) (mixed_lines mixed) (prices_are t prices is.1) (mixed_are t mixed is.2))

nodes_named : (t : Tables) (nodes : List Node) → All (IsNodeOf t) nodes → All (IsNamed t) (flat_map (node_lines t) nodes)
nodes_named t [] are = All-nil (IsNamed t)
nodes_named t (n ∷ nodes) are =
    All-append (IsNamed t) (node_lines t n) (flat_map (node_lines t) nodes) (node_is t n (All-head (IsNodeOf t) n nodes are)) (nodes_named t nodes (All-tail (IsNodeOf t) n nodes are))

pub lines_named : (v : Version) (t : Tables) (planned : Bool) (tree : Tree) → IsOfTables t tree → All (IsNamed t) (lines_in_version v t planned tree)
lines_named v t planned tree is =
    let rest : List Line = tree_lines t tree ++ says.End ∷ [] in
    All-cons (IsNamed t) (says.Head v) (says.Plan planned ∷ rest) tt
    (All-cons (IsNamed t) (says.Plan planned) rest tt (All-append (IsNamed t) (tree_lines t tree) (says.End ∷ []) (nodes_named t (nodes_of tree) (nodes_are t tree is)) (one_line t says.End tt)))

pub lines_are_of_words : (t : Tables) (planned : Bool) (tree : Tree) → IsOfTables t tree → All IsOfWords (proof_lines t planned tree)
lines_are_of_words t planned tree is =
    let lines = all_lines t planned tree in
    All-map IsOfWords (line_words t) lines (All-weaker (IsNamed t) (λ line. IsOfWords (line_words t line)) (of_words t) lines (lines_named (written_version t.windows) t planned tree is))

pub lines_are_plain : (t : Tables) (planned : Bool) (tree : Tree) → IsOfTables t tree → All IsPlainLine (proof_lines t planned tree)
lines_are_plain t planned tree is =
    All-weaker IsOfWords IsPlainLine (λ line words. joined_plain line words.words) (proof_lines t planned tree) (lines_are_of_words t planned tree is)
