-- A tree as its nodes, each before its children.
use Rattle.std.specs.Prelude.{ℕ, zero, suc, ◌==◌, Bool, true, false, if◌then◌else◌, List, [], ◌∷◌, ◌++◌, length, drop, codes, bytes_eq, Option, Some, None, Ok, ⊤}
use Rattle.std.specs.List.{flat_map}
use Rattle.fleet_model.specs.declared.tables.Tables.{Tables}
use Rattle.proof_lines.specs.Known.{Naming, names_in}
use Rattle.proof_lines.specs.Words.{is_plain, is_word}
use Rattle.proof_lines.specs.declared.line.Line.{Line}
use Rattle.proof_lines.specs.declared.line.Line.TheVariants as line
use Rattle.proof_lines.specs.declared.line.Version.{Version}
use Rattle.proof_lines.specs.declared.line.Version.TheVariants as version
use Rattle.bound_cert.specs.Lines.{Left, Reading, ◌>>=◌, line_due, stopped}
use Rattle.bound_cert.specs.Reading.{node_said, other_line, said_at}
use Rattle.bound_cert.specs.declared.faults.TheConstants.{BAD_LINE, TEXT_ENDS, WRONG_HEAD, WRONG_WORD}
use Rattle.bound_cert.specs.declared.nodes.Inner.{Inner}
use Rattle.bound_cert.specs.declared.nodes.Inner.TheVariants as inner
use Rattle.dual_bound.specs.Nodes.{nodes_of}
use Rattle.dual_bound.specs.declared.nodes.Node.{Node}
use Rattle.dual_bound.specs.declared.nodes.Node.TheVariants as node
use Rattle.bound_cert.specs.declared.nodes.Parent.{Parent}
use Rattle.bound_cert.specs.declared.reading_lines.Due.TheVariants as due
use Rattle.dual_bound.specs.declared.trees.Tree.{Tree}

-- for each trim and split above, the nearest first, whether its first child is complete
abbrev pub Above : Type 0
Above = List Bool

-- what stands above the next node behind a tree
abbrev pub after_tree : Above → Above
after_tree [] = []
after_tree (true ∷ above) = after_tree above
after_tree (false ∷ above) = true ∷ above

-- the node is a trim or a split, below which two trees stand
abbrev pub is_inner : Node → Bool
is_inner (node.Trim leg choice) = true
is_inner (node.Split leg choice prices mixed) = true
is_inner other = false

-- what stands above the next node behind a node
abbrev pub after_node : Node → Above → Above
after_node n above = if is_inner n then false ∷ above else after_tree above

-- the nodes of a tree, from those that are read so far, and what is left behind their lines; at most so many
unfoldable pub nodes_from : Naming → ℕ → List Node → Above → Left → Reading (List Node × Left)
nodes_from n zero nodes above left = stopped left TEXT_ENDS
nodes_from n (suc most) nodes above left =
    node_said n (length above) left >>= λ read.
    if length (after_node read.0 above) == 0 then Ok (nodes ++ read.0 ∷ [], read.1)
    else nodes_from n most (nodes ++ read.0 ∷ []) (after_node read.0 above) read.1

-- the version that the head of a text says: where the tables have windows one with shifts, and else one without
abbrev pub version_of : Bool → List ℕ → Option Version
version_of true line = if bytes_eq line (codes "fleet proof 3") then Some version.Three else None
version_of false line =
    if bytes_eq line (codes "fleet proof 1") then Some version.One
    else if bytes_eq line (codes "fleet proof 2") then Some version.Two
    else None

-- .. or its fault
abbrev pub headed : Option Version → Left → Reading Version
headed None left = stopped left WRONG_HEAD
headed (Some version) left = Ok version

-- the head, which says the version of the text, where the tables have windows or haven't
unfoldable pub head_is : Bool → Left → Reading Version
head_is windows [] = stopped [] WRONG_HEAD
head_is windows (line ∷ []) = stopped (line ∷ []) WRONG_HEAD
head_is windows (line ∷ next ∷ rest) = headed (version_of windows line) (line ∷ next ∷ rest)

-- whether a plan comes with the proof
abbrev pub plan_in_line : Line → Left → Reading Bool
plan_in_line (line.Plan planned) left = Ok planned
plan_in_line other left = other_line left

abbrev pub plan_at : Naming → Left → Reading Bool
plan_at n = said_at n due.Plan plan_in_line

-- nothing is left
unfoldable pub nothing : Left → Reading ⊤
nothing [] = Ok tt
nothing (line ∷ []) = if is_word line then stopped (line ∷ []) BAD_LINE else Ok tt
nothing (line ∷ next ∷ rest) = stopped (line ∷ next ∷ rest) (if is_plain line then WRONG_WORD else BAD_LINE)

-- the end, and nothing behind it
unfoldable pub end_at : Naming → Left → Reading ⊤
end_at n left = line_due n due.End left >>= λ line. nothing (drop 1 left)

-- the nodes of a tree, and the end behind them
unfoldable pub tree_at : Naming → Left → Reading (List Node)
tree_at n left = nodes_from n (length left) [] [] left >>= λ read. end_at n read.1 >>= λ ended. Ok read.0

-- whether a plan comes, and the nodes of the tree
unfoldable pub rest_at : Naming → Left → Reading (Bool × List Node)
rest_at n left = plan_at n left >>= λ planned. tree_at n (drop 1 left) >>= λ nodes. Ok (planned, nodes)

-- what a text reads as
unfoldable pub proof_at : Tables → Left → Reading (Bool × List Node)
proof_at t left = head_is t.windows left >>= λ version. rest_at (names_in version t) (drop 1 left)

-- a trim or a split as a node
abbrev pub inner_node : Inner → Node
inner_node (inner.Trim leg choice) = node.Trim leg choice
inner_node (inner.Split leg choice prices mixed) = node.Split leg choice prices mixed

-- the nodes of a first child, where it is complete
abbrev pub first_nodes : Option Tree → List Node
first_nodes None = []
first_nodes (Some tree) = nodes_of tree

-- whether the first child is complete
abbrev pub has_first : Option Tree → Bool
has_first None = false
has_first (Some tree) = true

-- the nodes of a trim or split that waits for children, with those of its first child
abbrev pub parent_nodes : Parent → List Node
parent_nodes parent = inner_node parent.inner ∷ first_nodes parent.yes

-- the nodes of all that wait, the first of them highest
abbrev pub waiting_nodes : List Parent → List Node
waiting_nodes = flat_map parent_nodes

-- what stands above, with parents below it, the first of them highest
abbrev pub above_with : Above → List Parent → Above
above_with above [] = above
above_with above (parent ∷ parents) = above_with (has_first parent.yes ∷ above) parents

-- what stands above the next node
abbrev pub above_of : List Parent → Above
above_of = above_with []
