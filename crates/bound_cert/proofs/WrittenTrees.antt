-- A proof whose tree is in written order is what its text reads as.
use Rattle.bound_cert.proofs.LinesOfWords.{lines_named}
use Rattle.bound_cert.proofs.NodesOfTables.{IsNodeOf, tree_of}
use Rattle.bound_cert.proofs.ReadBack.{ok_same}
use Rattle.bound_cert.proofs.ReadOn.{bound}
use Rattle.proof_lines.proofs.Choosing.{refused}
use Rattle.bound_cert.proofs.WrittenLines.{left_of_lines, line_read, names, texts, texts_append}
use Rattle.bound_cert.proofs.WrittenNodes.{before_node, behind_line, node_read}
use Rattle.bound_cert.proofs.WrittenPrices.{IsBehind, steps_of}
use Rattle.bound_cert.specs.Lines.{Left, Reading, left_of, line_due, may_stand}
use Rattle.bound_cert.specs.Nodes.{Above, after_node, after_tree, end_at, head_is, nodes_from, nothing, plan_at, proof_at, rest_at, tree_at}
use Rattle.bound_cert.specs.ProofText.{CanTell, IsNodeIn, lines_in_version, node_lines, proof_text, text_in, tree_lines, written_version}
use Rattle.bound_cert.specs.Reading.{node_said, said_at}
use Rattle.dual_bound.specs.Leaves.{depth_of}
use Rattle.dual_bound.specs.Nodes.{nodes_of}
use Rattle.dual_bound.specs.OfTables.{ArePricesOf, IsCauseOf, IsChargeOf, IsOfTables, IsWeightOf}
use Rattle.dual_bound.specs.WrittenOrder.{ArePricesInOrder, InWrittenOrder, IsCauseInOrder, IsChargeInOrder, IsNodeInOrder, IsShallow, IsWeightInOrder}
use Rattle.dual_bound.specs.declared.prices.Prices.{Prices}
use Rattle.dual_bound.specs.declared.nodes.Node.{Node}
use Rattle.dual_bound.specs.declared.trees.Cause.{Cause}
use Rattle.dual_bound.specs.declared.trees.TheConstants.{MAX_DEPTH}
use Rattle.dual_bound.specs.declared.trees.Tree.{Tree}
use Rattle.fleet_model.specs.declared.tables.Tables.{Tables}
use Rattle.proof_lines.specs.declared.line.Version.{Version}
use Rattle.proof_lines.specs.Forms.{form_of, has_charges, has_form, has_shifts}
use Rattle.proof_lines.specs.LineText.{line_bytes}
use Rattle.std.proofs.Common.{[], ◌++◌, ◌+◌, ◌<◌, ◌==◌, ◌∙◌, ◌∷◌, ◌≡◌, ◌≤◌, Bool, List, Ok, ap, append-nil, append_assoc, arith, cond, false, get_or, length, refl, subst, suc, sym, true, zero, ℕ}
use Rattle.std.proofs.lemmas.Bool.Decides.{nat_tests}
use Rattle.std.proofs.lemmas.List.Elements.{All-head, All-tail, All-weaker}
use Rattle.std.proofs.lemmas.List.{length-append, length-map}
use Rattle.std.specs.List.{flat_map}
use Rattle.std.specs.Prelude.{All, max}
use Rattle.bound_cert.specs.declared.reading_lines.Due.TheVariants as due
use Rattle.dual_bound.specs.declared.nodes.Node.TheVariants as node
use Rattle.dual_bound.specs.declared.trees.Cause.TheVariants as cause
use Rattle.dual_bound.specs.declared.trees.Tree.TheVariants as tree
use Rattle.proof_lines.specs.declared.line.Line.TheVariants as says
use Rattle.proof_lines.specs.declared.line.Version.TheVariants as version

some_line : (t : Tables) (n : Node) → 1 ≤ length (node_lines t n)
some_line t node.Sole = omega arith
some_line t other = omega arith

no_more_nodes : (t : Tables) (nodes : List Node) → length nodes ≤ length (flat_map (node_lines t) nodes)
no_more_nodes t [] = omega arith
no_more_nodes t (n ∷ nodes) = omega (arith, some_line t n, no_more_nodes t nodes, length-append (node_lines t n) (flat_map (node_lines t) nodes))

-- where a tree ends: the whole is read, or reading goes on
abbrev onward : Version → Tables → ℕ → List Node → Above → Left → Reading (List Node × Left)
onward v t most nodes above left = cond (length above == 0) (Ok (nodes, left)) (nodes_from (names v t) most nodes above left)

goes_on : (v : Version) (t : Tables) (most : ℕ) (nodes : List Node) (first : Bool) (above : Above) (left : Left) → onward v t most nodes (first ∷ above) left ≡ nodes_from (names v t) most nodes (first ∷ above) left
goes_on v t most nodes first above left = refused (length (first ∷ above) == 0) _ _ (grind (arith, nat_tests))

one_node : (v : Version) (t : Tables) (most : ℕ) (nodes : List Node) (above : Above) (n : Node) (behind : Left) → IsNodeInOrder t n → IsNodeIn v n → length above ≤ MAX_DEPTH → IsBehind behind
    → nodes_from (names v t) (suc most) nodes above (texts t (node_lines t n) ++ behind) ≡ onward v t most (nodes ++ n ∷ []) (after_node n above) behind
unfolding nodes_from
one_node v t most nodes above n behind is tells shallow ends =
    bound (node_said (names v t) (length above) (texts t (node_lines t n) ++ behind)) (n, behind) _ (node_read v t (length above) n behind is tells shallow ends)

-- nodes go on where they do below what stands above: none is too deep, and with the last nothing waits any more
abbrev Goes : Above → List Node → Type 0
Goes [] more = more ≡ []
Goes (first ∷ above) [] = ⊥
Goes (first ∷ above) (n ∷ more) = (length (first ∷ above) ≤ MAX_DEPTH) × Goes (after_node n (first ∷ above)) more

-- .. and begin with one at least
abbrev Begins : Above → List Node → Type 0
Begins above [] = ⊥
Begins above (n ∷ more) = (length above ≤ MAX_DEPTH) × Goes (after_node n above) more

behind_nodes : (v : Version) (t : Tables) (nodes : List Node) (behind : Left) → All (IsNodeInOrder t) nodes → All (IsNodeIn v) nodes → IsBehind behind → IsBehind (texts t (flat_map (node_lines t) nodes) ++ behind)
behind_nodes v t [] behind are tell ends = ends
behind_nodes v t (n ∷ nodes) behind are tell ends = before_node v t n (flat_map (node_lines t) nodes) behind (All-head (IsNodeInOrder t) n nodes are) (All-head (IsNodeIn v) n nodes tell)

onward_read : (v : Version) (t : Tables) (nodes : List Node) (most : ℕ) (done : List Node) (above : Above) (behind : Left) → Goes above nodes
    → (Begins above nodes → nodes_from (names v t) most done above (texts t (flat_map (node_lines t) nodes) ++ behind) ≡ Ok (done ++ nodes, behind))
    → onward v t most done above (texts t (flat_map (node_lines t) nodes) ++ behind) ≡ Ok (done ++ nodes, behind)
onward_read v t [] most done [] behind goes on = ap (λ nodes. Ok (nodes, behind)) (sym (append-nil done))
onward_read v t [] most done (first ∷ above) behind goes on = absurd goes
onward_read v t (n ∷ nodes) most done [] behind goes on = absurd (cc goes)
onward_read v t (n ∷ nodes) most done (first ∷ above) behind goes on = goes_on v t most done first above (texts t (flat_map (node_lines t) (n ∷ nodes)) ++ behind) ∙ on goes

nodes_read : (v : Version) (t : Tables) (nodes : List Node) (most : ℕ) (done : List Node) (above : Above) (behind : Left) → Begins above nodes → All (IsNodeInOrder t) nodes → All (IsNodeIn v) nodes → length nodes ≤ most → IsBehind behind
    → nodes_from (names v t) most done above (texts t (flat_map (node_lines t) nodes) ++ behind) ≡ Ok (done ++ nodes, behind)
nodes_read v t [] most done above behind begins are tell few ends = absurd begins
nodes_read v t (n ∷ nodes) zero done above behind begins are tell few ends = absurd (omega (arith, few))
nodes_read v t (n ∷ nodes) (suc most) done above behind begins are tell few ends =
    let others = All-tail (IsNodeInOrder t) n nodes are in
    let others_tell = All-tail (IsNodeIn v) n nodes tell in
    ap (nodes_from (names v t) (suc most) done above) (texts_append t (node_lines t n) (flat_map (node_lines t) nodes) behind)
    ∙ one_node v t most done above n (texts t (flat_map (node_lines t) nodes) ++ behind) (All-head (IsNodeInOrder t) n nodes are) (All-head (IsNodeIn v) n nodes tell) begins.0 (behind_nodes v t nodes behind others others_tell ends)
    ∙ onward_read v t nodes most (done ++ n ∷ []) (after_node n above) behind begins.1
    (λ more. nodes_read v t nodes most (done ++ n ∷ []) (after_node n above) behind more others others_tell (omega (arith, few)) ends)
    ∙ ap (λ nodes. Ok (nodes, behind)) (append_assoc done (n ∷ []) nodes)

left_depth : (above most a b : ℕ) → above + suc (max a b) ≤ most → suc above + a ≤ most
left_depth above most a b le = omega (arith, le, max_left a b)
  where
    max_left : (a b : ℕ) → a ≤ max a b
    max_left a b = grind (arith, nat_tests)

right_depth : (above most a b : ℕ) → above + suc (max a b) ≤ most → suc above + b ≤ most
right_depth above most a b le = omega (arith, le, max_right a b)
  where
    max_right : (a b : ℕ) → b ≤ max a b
    max_right a b = grind (arith, nat_tests)

-- the nodes of a tree that is no deeper than it may go on below what stands above it
below : (first : Bool) (above : Above) (nodes : List Node) → Begins (first ∷ above) nodes → Goes (first ∷ above) nodes
below first above [] begins = begins
below first above (n ∷ nodes) begins = begins

tree_begins : (whole : Tree) (above : Above) (more : List Node) → length above + depth_of whole ≤ MAX_DEPTH → Goes (after_tree above) more → Begins above (nodes_of whole ++ more)
tree_begins (tree.Trim' leg choice p with_pair q without) above more shallow goes =
    let second = tree_begins without (true ∷ above) more (right_depth (length above) MAX_DEPTH (depth_of with_pair) (depth_of without) shallow) goes in
    let first = tree_begins with_pair (false ∷ above) (nodes_of without ++ more) (left_depth (length above) MAX_DEPTH (depth_of with_pair) (depth_of without) shallow) (below true above (nodes_of without ++ more) second) in
    (omega (arith, shallow), subst (Goes (false ∷ above)) (sym (append_assoc (nodes_of with_pair) (nodes_of without) more)) (below false above (nodes_of with_pair ++ (nodes_of without ++ more)) first))
tree_begins (tree.Split' leg choice prices mixed p with_pair q without) above more shallow goes =
    let second = tree_begins without (true ∷ above) more (right_depth (length above) MAX_DEPTH (depth_of with_pair) (depth_of without) shallow) goes in
    let first = tree_begins with_pair (false ∷ above) (nodes_of without ++ more) (left_depth (length above) MAX_DEPTH (depth_of with_pair) (depth_of without) shallow) (below true above (nodes_of without ++ more) second) in
    (omega (arith, shallow), subst (Goes (false ∷ above)) (sym (append_assoc (nodes_of with_pair) (nodes_of without) more)) (below false above (nodes_of with_pair ++ (nodes_of without ++ more)) first))
tree_begins other above more shallow goes = (omega (arith, shallow), goes)

-- the end, the plan, and all

abbrev pub last : Tables → Left
last t = line_bytes t says.End ∷ [] ∷ []

pub end_read : (v : Version) (t : Tables) → end_at (names v t) (last t) ≡ Ok tt
unfolding end_at nothing
end_read v t = bound (line_due (names v t) due.End (last t)) says.End _ (line_read v t due.End says.End ([] ∷ []) refl (record { named = tt; figures = tt }) refl (omega arith))

pub plan_read : (v : Version) (t : Tables) (planned : Bool) (rest : Left) → 0 < length rest → plan_at (names v t) (line_bytes t (says.Plan planned) ∷ rest) ≡ Ok planned
unfolding said_at
plan_read v t planned rest some =
    bound (line_due (names v t) due.Plan (line_bytes t (says.Plan planned) ∷ rest)) (says.Plan planned) _
    (line_read v t due.Plan (says.Plan planned) rest (plan_is planned) (record { named = tt; figures = tt }) (plan_stands planned) some)
  where
    plan_stands : (planned : Bool) → may_stand due.Plan (form_of (says.Plan planned)) ≡ true
    plan_stands true = refl
    plan_stands false = refl

    plan_is : (planned : Bool) → has_form v (form_of (says.Plan planned)) ≡ true
    plan_is true = refl
    plan_is false = refl

pub last_is : (t : Tables) → IsBehind (last t)
last_is t = behind_line version.Two t says.End ([] ∷ []) tt refl refl refl refl

pub whole_read : (v : Version) (t : Tables) (whole : Tree) → CanTell v whole → InWrittenOrder t whole → IsShallow whole → tree_at (names v t) (texts t (tree_lines t whole) ++ (last t)) ≡ Ok (nodes_of whole)
unfolding tree_at
whole_read v t whole tells are shallow =
    let left : Left = texts t (tree_lines t whole) ++ (last t) in
    let nodes = nodes_of whole in
    let few : length nodes ≤ length left =
    omega (arith, no_more_nodes t nodes, length-append (texts t (tree_lines t whole)) (last t), length-map (tree_lines t whole) (line_bytes t)) in
    let begins : Begins [] nodes = subst (Begins []) (append-nil nodes) (tree_begins whole [] [] (omega (arith, shallow)) refl) in
    bound (nodes_from (names v t) (length left) [] [] left) (nodes, (last t)) _ (nodes_read v t nodes (length left) [] [] (last t) begins are tells few (last_is t))
    ∙ bound (end_at (names v t) (last t)) tt _ (end_read v t)

cause_of : (t : Tables) (why : Cause) → IsCauseInOrder t why → IsCauseOf t why
cause_of t (cause.Nodes mixed) is = All-weaker (IsWeightInOrder t) (IsWeightOf t) (λ entry is. is.pair) mixed.weights is.each
cause_of t other is = tt

prices_of : (t : Tables) (prices : Prices) → ArePricesInOrder t prices → ArePricesOf t prices
prices_of t prices are = record { steps = steps_of t prices.steps are.steps.each; charges = All-weaker (IsChargeInOrder t) (IsChargeOf t) (λ entry is. is.station) prices.charges are.charges.each }

node_of : (t : Tables) (n : Node) → IsNodeInOrder t n → IsNodeOf t n
node_of t (node.Bare leg) is = is
node_of t node.Sole is = tt
node_of t (node.Refuted prices) is = prices_of t prices is
node_of t (node.Priced prices) is = prices_of t prices is
node_of t (node.Open prices why) is = (prices_of t prices is.0, cause_of t why is.1)
node_of t (node.Trim leg choice) is = is
node_of t (node.Split leg choice prices mixed) is =
    (is.0, prices_of t prices is.1, All-weaker (IsWeightInOrder t) (IsWeightOf t) (λ entry is. is.pair) mixed.weights is.2.each)

-- a tree in written order is of the tables
pub in_order_of_tables : (t : Tables) (whole : Tree) → InWrittenOrder t whole → IsOfTables t whole
in_order_of_tables t whole are = tree_of t whole (All-weaker (IsNodeInOrder t) (IsNodeOf t) (node_of t) (nodes_of whole) are)

-- the head that is written says the version, where it is one of the tables
pub head_read : (v : Version) (t : Tables) (windows : Bool) (next : List ℕ) (rest : Left) → has_shifts v ≡ windows → head_is windows (line_bytes t (says.Head v) ∷ next ∷ rest) ≡ Ok v
unfolding head_is
head_read version.One t false next rest of = refl
head_read version.Two t false next rest of = refl
head_read version.Three t true next rest of = refl
head_read version.One t true next rest of = absurd (cc of)
head_read version.Two t true next rest of = absurd (cc of)
head_read version.Three t false next rest of = absurd (cc of)

-- a text reads as the proof that it is written of, in each version of the tables
pub reads_in : (v : Version) (t : Tables) (planned : Bool) (whole : Tree) → has_shifts v ≡ t.windows → CanTell v whole → InWrittenOrder t whole → IsShallow whole → proof_at t (left_of (text_in v t planned whole)) ≡ Ok (planned, nodes_of whole)
unfolding proof_at rest_at text_in
reads_in v t planned whole of tells are shallow =
    let rest : Left = texts t (tree_lines t whole) ++ (last t) in
    let all : left_of (text_in v t planned whole) ≡ line_bytes t (says.Head v) ∷ line_bytes t (says.Plan planned) ∷ rest =
    left_of_lines t (lines_in_version v t planned whole) (lines_named v t planned whole (in_order_of_tables t whole are))
    ∙ ap (λ rest. line_bytes t (says.Head v) ∷ line_bytes t (says.Plan planned) ∷ rest) (texts_append t (tree_lines t whole) (says.End ∷ []) ([] ∷ [])) in
    let some : 0 < length rest = (behind_nodes v t (nodes_of whole) (last t) are tells (last_is t)).some in
    ap (proof_at t) all
    ∙ bound (head_is t.windows (line_bytes t (says.Head v) ∷ line_bytes t (says.Plan planned) ∷ rest)) v _ (head_read v t t.windows (line_bytes t (says.Plan planned)) rest of)
    ∙ bound (plan_at (names v t) (line_bytes t (says.Plan planned) ∷ rest)) planned _ (plan_read v t planned rest some)
    ∙ bound (tree_at (names v t) rest) (nodes_of whole) _ (whole_read v t whole tells are shallow)

-- a text of a version with charges can tell each tree
node_tells : (v : Version) → has_charges v ≡ true → (n : Node) → IsNodeIn v n
node_tells v has (node.Refuted prices) = λ off. absurd (cc (sym has ∙ off))
node_tells v has (node.Priced prices) = λ off. absurd (cc (sym has ∙ off))
node_tells v has (node.Open prices why) = λ off. absurd (cc (sym has ∙ off))
node_tells v has (node.Split leg choice prices mixed) = λ off. absurd (cc (sym has ∙ off))
node_tells v has other = tt

-- the version that is written has charges, and shifts where the tables have windows
written_charges : (windows : Bool) → has_charges (written_version windows) ≡ true
written_charges true = refl
written_charges false = refl

pub written_shifts : (windows : Bool) → has_shifts (written_version windows) ≡ windows
written_shifts true = refl
written_shifts false = refl

tells_all : (windows : Bool) (whole : Tree) → CanTell (written_version windows) whole
tells_all windows whole = λ k d below. node_tells (written_version windows) (written_charges windows) (get_or (nodes_of whole) k d)

pub reads_what_was_written : (t : Tables) (planned : Bool) (whole : Tree) → InWrittenOrder t whole → IsShallow whole → proof_at t (left_of (proof_text t planned whole)) ≡ Ok (planned, nodes_of whole)
reads_what_was_written t planned whole = reads_in (written_version t.windows) t planned whole (written_shifts t.windows) (tells_all t.windows whole)

-- proofs of one text are one
pub one_text : (t : Tables) (a b : Bool) (x y : Tree) → InWrittenOrder t x → IsShallow x → InWrittenOrder t y → IsShallow y → proof_text t a x ≡ proof_text t b y
    → (a ≡ b) × (nodes_of x ≡ nodes_of y)
one_text t a b x y x_order x_shallow y_order y_shallow same =
    let one : (a, nodes_of x) ≡ (b, nodes_of y) =
    ok_same (a, nodes_of x) (b, nodes_of y)
    (sym (reads_what_was_written t a x x_order x_shallow) ∙ ap (λ text. proof_at t (left_of text)) same ∙ reads_what_was_written t b y y_order y_shallow) in
    (ap (λ p. p.0) one, ap (λ p. p.1) one)
