-- Lines appended, one at a time.
use Rattle.bound_cert.specs.ProofText.{at_line, charge_line, first_line, node_lines, open_line, price_lines, proof_text, rent_lines, root_of, text_in, text_of_lines, tree_lines, written_version}
use Rattle.dual_bound.specs.OfTables.{IsOfTables}
use Rattle.dual_bound.specs.Nodes.{nodes_of}
use Rattle.dual_bound.specs.declared.nodes.Node.{Node}
use Rattle.dual_bound.specs.declared.nodes.Node.TheVariants as node
use Rattle.dual_bound.specs.declared.trees.Cause.{Cause}
use Rattle.dual_bound.specs.declared.trees.Cause.TheVariants as cause
use Rattle.dual_bound.specs.declared.trees.Tree.TheVariants as tree
use Rattle.dual_bound.specs.declared.mixed.Mixed.{Mixed}
use Rattle.dual_bound.specs.declared.trees.Tree.{Split, Tree, Trim}
use Rattle.dual_bound.specs.declared.prices.Prices.{Prices}
use Rattle.fleet_model.specs.Schedule.{fleets_in}
use Rattle.fleet_model.specs.declared.tables.Tables.{Tables}
use Rattle.proof_lines.specs.LineText.{IsNamed, text_of}
use Rattle.proof_lines.specs.declared.line.Line.{Line}
use Rattle.std.proofs.Common.{[], ◌++◌, ◌+◌, ◌<◌, ◌∙◌, ◌∷◌, ◌≡◌, ◌⊎◌, Bool, Box, Err, Global, List, Ok, Result, add-one, ap, append_assoc, arith, drop, get_or, inl, inr, length, refl, slice_index_or, suc, sym, take, zero, ℕ}
use Rattle.std.proofs.lemmas.Grind.{flat_map-append}
use Rattle.std.proofs.lemmas.List.{append-nil, map-append, take_more}
use Rattle.std.specs.List.{flat_map, range_with_len}
use Rattle.std.specs.Prelude.{OnOk, map}
use Rattle.proof_lines.specs.declared.line.Line.TheVariants as says

range_more : (a n : ℕ) → range_with_len a (suc n) ≡ range_with_len a n ++ (a + n) ∷ []
range_more a zero = ap (λ k. k ∷ []) (omega arith)
range_more a (suc n) =
    let last : a + 1 + n ≡ a + suc n = omega arith in
    ap (λ ks. a ∷ ks) (range_more (a + 1) n ∙ ap (λ k. range_with_len (a + 1) n ++ k ∷ []) last)

-- the lines of one number more
pub lines_more : (t : Tables) (lines : ℕ → List Line) (n : ℕ) (start text grown : List ℕ) → text ≡ start ++ text_of_lines t (flat_map lines (range_with_len 0 n))
    → grown ≡ text ++ text_of_lines t (lines n) → grown ≡ start ++ text_of_lines t (flat_map lines (range_with_len 0 (n + 1)))
lines_more t lines n start text grown so_far added =
    let front = flat_map lines (range_with_len 0 n) in
    let numbers : range_with_len 0 (n + 1) ≡ range_with_len 0 n ++ n ∷ [] =
    rw add-one (range_more 0 n ∙ ap (λ k. range_with_len 0 n ++ k ∷ []) (omega arith)) in
    added ∙ rw (so_far, numbers, flat_map-append lines (range_with_len 0 n) (n ∷ []), append-nil (lines n), flat_map-append (text_of t) front (lines n))
    (append_assoc start (text_of_lines t front) (text_of_lines t (lines n)))

-- what is appended in two parts, and the line of one entry more of a list
pub appended : (t : Tables) (first more : List Line) (start text grown : List ℕ) → text ≡ start ++ text_of_lines t first → grown ≡ text ++ text_of_lines t more → grown ≡ start ++ text_of_lines t (first ++ more)
appended t first more start text grown begun added =
    added ∙ rw (begun, flat_map-append (text_of t) first more) (append_assoc start (text_of_lines t first) (text_of_lines t more))

line_alone : (t : Tables) (line : Line) (text grown : List ℕ) → grown ≡ text ++ text_of t line → grown ≡ text ++ text_of_lines t (line ∷ [])
line_alone t line text grown added = added ∙ ap (λ bytes. text ++ bytes) (sym (append-nil (text_of t line)))

pub entry_more : {A : Type 0} (t : Tables) (line_of : A → Line) (entries : List A) (n : ℕ) (entry : A) (start text grown : List ℕ) → n < length entries → entry ≡ get_or entries n entry → text ≡ start ++ text_of_lines t (map line_of (take n entries))
    → grown ≡ text ++ text_of t (line_of entry) → grown ≡ start ++ text_of_lines t (map line_of (take (n + 1) entries))
entry_more t line_of entries n entry start text grown within is so_far added =
    appended t (map line_of (take n entries)) (line_of entry ∷ []) start text grown so_far (line_alone t (line_of entry) text grown added)
    ∙ ap (λ lines. start ++ text_of_lines t lines)
    (sym (ap (map line_of) (take_more entries n entry within ∙ ap (λ one. take n entries ++ one ∷ []) (sym is)) ∙ map-append line_of (take n entries) (entry ∷ [])))

-- what follows from what a last call gives
pub done : {A E P Q : Type 0} (result : Result A E) → (P → Q) → OnOk result P → OnOk result Q
done (Ok x) leads is = leads is
done (Err e) leads is = tt

-- a node's first line, which is of the tables, and those behind it
pub node_split : (t : Tables) (n : Node) → node_lines t n ≡ first_line n ∷ drop 1 (node_lines t n)
node_split t (node.Bare leg) = refl
node_split t node.Sole = refl
node_split t (node.Refuted prices) = refl
node_split t (node.Priced prices) = refl
node_split t (node.Open prices why) = refl
node_split t (node.Trim leg choice) = refl
node_split t (node.Split leg choice prices mixed) = refl

pub headed : (t : Tables) (line : Line) (more : List Line) (start text grown : List ℕ) → text ≡ start ++ text_of t line → grown ≡ text ++ text_of_lines t more → grown ≡ start ++ text_of_lines t (line ∷ more)
headed t line more start text grown begun = appended t (line ∷ []) more start text grown (line_alone t line start text begun)

pub node_done : (t : Tables) (n : Node) (start text grown : List ℕ) → text ≡ start ++ text_of t (first_line n) → grown ≡ text ++ text_of_lines t (drop 1 (node_lines t n)) → grown ≡ start ++ text_of_lines t (node_lines t n)
node_done t n start text grown begun added =
    headed t (first_line n) (drop 1 (node_lines t n)) start text grown begun added
    ∙ ap (λ lines. start ++ text_of_lines t lines) (sym (node_split t n))

open_named : (t : Tables) (why : Cause) → IsNamed t (open_line why)
open_named t (cause.Nodes mixed) = tt
open_named t (cause.Pivots made) = tt
open_named t (cause.Grew pivots row column) = tt
open_named t (cause.Lift step at) = tt

pub first_named : (t : Tables) (it : Tree) → IsOfTables t it → IsNamed t (first_line (root_of it))
first_named t (tree.Bare leg) is = is
first_named t tree.Sole is = tt
first_named t (tree.Refuted prices) is = tt
first_named t (tree.Priced prices) is = tt
first_named t (tree.Open prices why) is = open_named t why
first_named t (tree.Trim' leg choice p with_pair q without) is = is.0
first_named t (tree.Split' leg choice prices mixed p with_pair q without) is = is.0

-- the three parts of a tree that has children
pub tree_done : (t : Tables) (it : Tree) (root : Node) (with_pair without : List Node) (start first second whole : List ℕ) → nodes_of it ≡ root ∷ (with_pair ++ without) → first ≡ start ++ text_of_lines t (node_lines t (root_of it))
    → second ≡ first ++ text_of_lines t (flat_map (node_lines t) with_pair) → whole ≡ second ++ text_of_lines t (flat_map (node_lines t) without) → whole ≡ start ++ text_of_lines t (tree_lines t it)
tree_done t it root with_pair without start first second whole nodes top one other =
    let lines = flat_map (node_lines t) in
    let of_root : root_of it ≡ root = ap (λ nodes. slice_index_or nodes 0 node.Sole) nodes in
    appended t (node_lines t root) (lines with_pair ++ lines without) start first whole (top ∙ ap (λ n. start ++ text_of_lines t (node_lines t n)) of_root) (appended t (lines with_pair) (lines without) first second whole one other)
    ∙ ap (λ it. start ++ text_of_lines t it) (ap (λ rest. node_lines t root ++ rest) (sym (flat_map-append (node_lines t) with_pair without)) ∙ sym (ap lines nodes))

pub parent_nodes : (it : Tree) (with_pair without : Box Tree Global) → ((leg : ℕ) × (choice : ℕ) × it ≡ Trim leg choice with_pair without) ⊎ ((leg : ℕ) × (choice : ℕ) × (prices : Prices) × (mixed : Mixed) × it ≡ Split leg choice prices mixed with_pair without)
    → (root : Node) × (nodes_of it ≡ root ∷ (nodes_of with_pair.value ++ nodes_of without.value))
parent_nodes it with_pair without (inl told) = (node.Trim told.0 told.1, ap nodes_of told.2)
parent_nodes it with_pair without (inr told) = (node.Split told.0 told.1 told.2 told.3, ap nodes_of told.4)

-- the four parts of prices
pub prices_done : (t : Tables) (prices : Prices) (start scale rents charges whole : List ℕ) → scale ≡ start ++ text_of t (says.Scale prices.scale) → rents ≡ scale ++ text_of_lines t (rent_lines prices (fleets_in t))
    → charges ≡ rents ++ text_of_lines t (map charge_line prices.charges) → whole ≡ charges ++ text_of_lines t (map at_line prices.steps) → whole ≡ start ++ text_of_lines t (price_lines t prices)
prices_done t prices start scale rents charges whole scaled rented charged stepped =
    let last = map charge_line prices.charges ++ map at_line prices.steps in
    headed t (says.Scale prices.scale) (rent_lines prices (fleets_in t) ++ last) start scale whole scaled
    (appended t (rent_lines prices (fleets_in t)) last scale rents whole rented (appended t (map charge_line prices.charges) (map at_line prices.steps) rents charges whole charged stepped))

-- the four parts of a proof
pub proof_done : (t : Tables) (planned : Bool) (tree : Tree) (start head plan body whole : List ℕ) → head ≡ start ++ text_of t (says.Head (written_version t.windows))
    → plan ≡ head ++ text_of t (says.Plan planned) → body ≡ plan ++ text_of_lines t (tree_lines t tree) → whole ≡ body ++ text_of t says.End → whole ≡ start ++ proof_text t planned tree
unfolding text_in
proof_done t planned tree start head plan body whole headed answered written ended =
    let lines = tree_lines t tree in
    let first = says.Head (written_version t.windows) in
    let both = appended t (first ∷ []) (says.Plan planned ∷ []) start head plan (line_alone t first start head headed) (line_alone t (says.Plan planned) head plan answered) in
    let body_is = appended t (first ∷ says.Plan planned ∷ []) lines start plan body both written in
    appended t (first ∷ says.Plan planned ∷ lines) (says.End ∷ []) start body whole body_is (line_alone t says.End body whole ended)
