-- A node or a tree put into its place among those that wait.
use Rattle.bound_cert.proofs.ReadOn.{bound, failed, fails_by}
use Rattle.proof_lines.proofs.Choosing.{chosen, refused}
use Rattle.bound_cert.specs.Lines.{Fails, Gives, Left, Reading, Stopped, stopped}
use Rattle.bound_cert.specs.Nodes.{Above, above_of, above_with, after_node, after_tree, first_nodes, has_first, inner_node, nodes_from, parent_nodes, waiting_nodes}
use Rattle.bound_cert.specs.ReadTree.{IsGrownByNode, IsInnerOf, StillWaits}
use Rattle.bound_cert.specs.Reading.{node_said}
use Rattle.bound_cert.specs.declared.faults.Stop.{Stop}
use Rattle.bound_cert.specs.declared.faults.TheConstants.{TEXT_ENDS}
use Rattle.bound_cert.specs.declared.nodes.Inner.{Inner}
use Rattle.bound_cert.specs.declared.nodes.Parent.{Parent}
use Rattle.dual_bound.specs.Nodes.{nodes_of}
use Rattle.dual_bound.specs.declared.nodes.Node.{Node}
use Rattle.dual_bound.specs.declared.trees.Tree.{Tree}
use Rattle.proof_lines.specs.Known.{Naming}
use Rattle.proof_lines.specs.Words.{joined, seen, stands}
use Rattle.std.proofs.Common.{[], ◌++◌, ◌+◌, ◌-◌, ◌<◌, ◌==◌, ◌∙◌, ◌∷◌, ◌≡◌, ◌≢◌, Bor, Err, List, None, Ok, Option, Result, Some, ap, append-nil, append_assoc, arith, false, length, refl, subst, suc, sym, true, zero, ℕ}
use Rattle.std.proofs.lemmas.Bool.Decides.{nat_tests}
use Rattle.std.proofs.lemmas.Grind.{flat_map-append}
use Rattle.bound_cert.specs.declared.faults.Stop.TheVariants as stop

-- one more parent, below the others
pub above_last : (above : Above) (parents : List Parent) (last : Parent) → above_with above (parents ++ last ∷ []) ≡ has_first last.yes ∷ above_with above parents
above_last above [] last = refl
above_last above (parent ∷ parents) last = above_last (has_first parent.yes ∷ above) parents last

pub above_len : (above : Above) (parents : List Parent) → length (above_with above parents) ≡ length above + length parents
above_len above [] = omega arith
above_len above (parent ∷ parents) = above_len (has_first parent.yes ∷ above) parents ∙ omega arith

pub nodes_last : (parents : List Parent) (last : Parent) → waiting_nodes (parents ++ last ∷ []) ≡ waiting_nodes parents ++ parent_nodes last
nodes_last parents last = flat_map-append parent_nodes parents (last ∷ []) ∙ ap (λ nodes. waiting_nodes parents ++ nodes) (append-nil (parent_nodes last))

-- a trim or a split waits
pub waits : (before grown : List Parent) (node : Node) (inner : Inner) → IsInnerOf node inner → grown ≡ before ++ record { inner = inner; yes = None } ∷ []
    → StillWaits (waiting_nodes before ++ node ∷ []) (after_node node (above_of before)) grown
waits before grown node inner is grew =
    let last : Parent = record { inner = inner; yes = None } in
    record {
      nodes_are = rw grew (nodes_last before last ∙ ap (λ n. waiting_nodes before ++ n ∷ []) is.node_is);
      above_is = rw grew (above_last [] before last ∙ sym (is.after (above_of before)));
      some = λ none. absurd (cc (sym (is.after (above_of before)) ∙ none));
    }

-- a tree is the first child of the nearest that waits
pub first_child : (before rest grown : List Parent) (parent : Parent) (whole : Tree) → rest ++ parent ∷ [] ≡ before → parent.yes ≡ None → grown ≡ rest ++ record { inner = parent.inner; yes = Some whole } ∷ []
    → (nodes : List Node) (above : Above) → waiting_nodes before ++ nodes_of whole ≡ nodes → after_tree (above_of before) ≡ above → StillWaits nodes above grown
first_child before rest grown parent whole was none grew nodes above all stands =
    let last : Parent = record { inner = parent.inner; yes = Some whole } in
    let had : has_first parent.yes ≡ false = ap has_first none in
    let stood : above_of before ≡ false ∷ above_of rest = rw (sym was) (above_last [] rest parent ∙ ap (λ b. b ∷ above_of rest) had) in
    let begun : waiting_nodes before ≡ waiting_nodes rest ++ inner_node parent.inner ∷ [] =
    rw (sym was) (nodes_last rest parent ∙ ap (λ yes. waiting_nodes rest ++ inner_node parent.inner ∷ first_nodes yes) none) in
    let stands_now : above ≡ true ∷ above_of rest = sym stands ∙ ap after_tree stood in
    record {
      nodes_are = rw grew (nodes_last rest last ∙ (sym (append_assoc (waiting_nodes rest) (inner_node parent.inner ∷ []) (nodes_of whole)) ∙ ap (λ n. n ++ nodes_of whole) (sym begun) ∙ all));
      above_is = rw grew (above_last [] rest last ∙ sym stands_now);
      some = λ none. absurd (cc (sym stands_now ∙ none));
    }

-- a tree is the second child, which completes its parent
pub second_child : (before rest : List Parent) (parent : Parent) (first whole tree : Tree) → rest ++ parent ∷ [] ≡ before → parent.yes ≡ Some first
    → nodes_of tree ≡ inner_node parent.inner ∷ (nodes_of first ++ nodes_of whole) → waiting_nodes rest ++ nodes_of tree ≡ waiting_nodes before ++ nodes_of whole
second_child before rest parent first whole tree was some joined =
    let begun : waiting_nodes before ≡ waiting_nodes rest ++ (inner_node parent.inner ∷ nodes_of first) =
    rw (sym was) (nodes_last rest parent ∙ ap (λ yes. waiting_nodes rest ++ inner_node parent.inner ∷ first_nodes yes) some) in
    ap (λ n. waiting_nodes rest ++ n) joined ∙ sym (append_assoc (waiting_nodes rest) (inner_node parent.inner ∷ nodes_of first) (nodes_of whole)) ∙ ap (λ n. n ++ nodes_of whole) (sym begun)

pub second_above : (before rest : List Parent) (parent : Parent) (first : Tree) → rest ++ parent ∷ [] ≡ before → parent.yes ≡ Some first
    → after_tree (above_of rest) ≡ after_tree (above_of before)
second_above before rest parent first was some =
    let had : has_first parent.yes ≡ true = ap has_first some in
    let stood : above_of before ≡ true ∷ above_of rest = rw (sym was) (above_last [] rest parent ∙ ap (λ b. b ∷ above_of rest) had) in
    sym (ap after_tree stood)

-- as many stand above as wait
pub as_many : (before : List Parent) → length (above_of before) ≡ length before
as_many before = above_len [] before ∙ omega arith

is_empty : (above : Above) → above ≡ [] → (length above == 0) ≡ true
is_empty above none = ap (λ a. length a == 0) none

not_empty : (above : Above) → above ≢ [] → (length above == 0) ≡ false
not_empty [] some = absurd (some refl)
not_empty (b ∷ above) some = grind (arith, nat_tests)

-- one node more
module _ (n : Naming) (most : ℕ) (nodes : List Node) (above : Above) (left behind : Left) (node : Node) (read : node_said n (length above) left ≡ Ok (node, behind)) where
  pub one_more : after_node node above ≢ [] → nodes_from n (suc most) nodes above left ≡ nodes_from n most (nodes ++ node ∷ []) (after_node node above) behind
  unfolding nodes_from
  one_more some = bound (node_said n (length above) left) (node, behind) _ read ∙ refused (length (after_node node above) == 0) _ _ (not_empty (after_node node above) some)

  pub last_one : after_node node above ≡ [] → nodes_from n (suc most) nodes above left ≡ Ok (nodes ++ node ∷ [], behind)
  unfolding nodes_from
  last_one none = bound (node_said n (length above) left) (node, behind) _ read ∙ chosen (length (after_node node above) == 0) _ _ (is_empty (after_node node above) none)

pub none_more : (n : Naming) (most : ℕ) (nodes : List Node) (above : Above) (left : Left) (f : Stopped) → node_said n (length above) left ≡ Err f → nodes_from n (suc most) nodes above left ≡ Err f
unfolding nodes_from
none_more n most nodes above left f is = failed (node_said n (length above) left) f _ is

-- a loop that reads nodes, where some may come still: its ends, and a turn
module _ (n : Naming) (whole : Reading (List Node × Left)) (most : ℕ) (waiting : List Parent) (left : Left) (many : ℕ) (many_is : many ≡ length waiting) (some : 0 < most) (so_far : nodes_from n most (waiting_nodes waiting) (above_of waiting) left ≡ whole) where
  from_next : nodes_from n (suc (most - 1)) (waiting_nodes waiting) (above_of waiting) left ≡ whole
  from_next = let same : suc (most - 1) ≡ most = omega (arith, some) in ap (λ m. nodes_from n m (waiting_nodes waiting) (above_of waiting) left) same ∙ so_far

  read_above : (r : Reading (Node × Left)) → node_said n many left ≡ r → node_said n (length (above_of waiting)) left ≡ r
  read_above r is = ap (λ k. node_said n k left) (as_many waiting ∙ sym many_is) ∙ is

  pub node_stops : (e : Stop) → Fails e (node_said n many left) → Fails e whole
  node_stops e =
      fails_by e (node_said n many left) whole
      (λ f is. sym from_next ∙ none_more n (most - 1) (waiting_nodes waiting) (above_of waiting) left f (read_above (Err f) is))

  module _ (grown : List Parent) (behind : Left) (node : Node) (is : node_said n many left ≡ Ok (node, behind)) where
    pub goes_on : (reached : Option Tree) → reached ≡ None → IsGrownByNode waiting node grown reached → nodes_from n (most - 1) (waiting_nodes grown) (above_of grown) behind ≡ whole
    goes_on (Some tree) none waits = absurd (cc none)
    goes_on None none waits =
        rw (waits.nodes_are, waits.above_is)
        (sym (one_more n (most - 1) (waiting_nodes waiting) (above_of waiting) left behind node (read_above _ is) waits.some) ∙ from_next)

    pub is_whole : (tree : Tree) (reached : Option Tree) → reached ≡ Some tree → IsGrownByNode waiting node grown reached → whole ≡ Ok (nodes_of tree, behind)
    is_whole tree None some all = absurd (cc some)
    is_whole tree (Some other) some all =
        let same : other ≡ tree = cc some in
        sym from_next ∙ last_one n (most - 1) (waiting_nodes waiting) (above_of waiting) left behind node (read_above _ is) all.none
        ∙ ap (λ nodes. Ok (nodes, behind)) (sym all.all ∙ ap nodes_of same)

pub none_left : (n : Naming) (whole : Reading (List Node × Left)) (most : ℕ) (nodes : List Node) (above : Above) (left : Left) → most ≡ 0 → nodes_from n most nodes above left ≡ whole → whole ≡ stopped left TEXT_ENDS
unfolding nodes_from
none_left n whole zero nodes above left is so_far = sym so_far
none_left n whole (suc most) nodes above left is so_far = absurd (omega (arith, is))

pub seen_len : (left : List (Bor (List ℕ))) → length (seen left) ≡ length left
seen_len [] = refl
seen_len (line ∷ rest) = ap suc (seen_len rest)

-- a fault at the first line that is left
pub stopped_gives : {X Y : Type 0} (view : X → Y) (result : Result X Stop) (read : Reading Y) (left : List (Bor (List ℕ))) (kind : ℕ) → result ≡ Err (stop.Fault (length left) kind)
    → read ≡ stopped (seen left) kind → Gives view result read
stopped_gives view result read left kind is reads =
    subst (λ r. Gives view r read) (sym is) (reads ∙ ap (λ n. Err (record { left = n; kind = kind })) (seen_len left))
