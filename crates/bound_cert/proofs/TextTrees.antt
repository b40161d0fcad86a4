-- A text that reads as a proof is the text of that proof, whose tree is in written order and no deeper than a reader takes.
use Rattle.bound_cert.proofs.ReadBack.{either_way, goes, ok_same}
use Rattle.bound_cert.proofs.TextLines.{LineIs, line_may, line_was}
use Rattle.bound_cert.proofs.TextNodes.{node_was}
use Rattle.bound_cert.proofs.WrittenLines.{names, texts, texts_append}
use Rattle.bound_cert.proofs.WrittenTrees.{last}
use Rattle.bound_cert.specs.Lines.{Left, Reading, left_of, line_due, may_stand}
use Rattle.bound_cert.specs.Nodes.{Above, after_node, after_tree, end_at, head_is, headed, nodes_from, nothing, plan_at, plan_in_line, proof_at, rest_at, tree_at, version_of}
use Rattle.bound_cert.specs.ProofText.{IsNodeIn, lines_in_version, node_lines, text_in, text_of_lines, tree_lines}
use Rattle.bound_cert.specs.ReadProof.{IsTextOf}
use Rattle.bound_cert.specs.Reading.{node_said, said_at}
use Rattle.bound_cert.specs.declared.faults.TheConstants.{BAD_LINE}
use Rattle.dual_bound.specs.Leaves.{depth_of}
use Rattle.dual_bound.specs.Nodes.{nodes_of}
use Rattle.dual_bound.specs.WrittenOrder.{IsNodeInOrder}
use Rattle.dual_bound.specs.declared.nodes.Node.{Node}
use Rattle.dual_bound.specs.declared.trees.TheConstants.{MAX_DEPTH}
use Rattle.dual_bound.specs.declared.trees.Tree.{Tree}
use Rattle.fleet_model.specs.declared.tables.Tables.{Tables}
use Rattle.proof_lines.proofs.FigureWords.{same_bytes}
use Rattle.proof_lines.specs.Forms.{form_of, has_shifts}
use Rattle.proof_lines.specs.LineText.{line_bytes}
use Rattle.proof_lines.specs.Words.{is_word, line_feed}
use Rattle.proof_lines.specs.declared.line.Line.{Line}
use Rattle.proof_lines.specs.declared.line.Version.{Version}
use Rattle.std.proofs.Common.{[], ◌++◌, ◌+◌, ◌<◌, ◌==◌, ◌∙◌, ◌∷◌, ◌≡◌, ◌≤◌, Bool, Err, List, Ok, ap, append-nil, append_assoc, arith, bytes_eq, codes, cond, drop, false, length, refl, subst, suc, sym, true, zero, ℕ, None, Option, Some}
use Rattle.std.proofs.lemmas.Bool.Decides.{nat_tests}
use Rattle.std.proofs.lemmas.List.Elements.{All-cons, All-nil}
use Rattle.std.proofs.lemmas.List.Splits.{join_with_byte-slice_split}
use Rattle.std.specs.List.{flat_map, join_with_byte}
use Rattle.std.specs.Prelude.{⊤, All, max}
use Rattle.bound_cert.specs.declared.reading_lines.Due.TheVariants as due
use Rattle.dual_bound.specs.declared.trees.Tree.TheVariants as tree
use Rattle.proof_lines.specs.declared.line.Line.TheVariants as says
use Rattle.proof_lines.specs.declared.line.Version.TheVariants as version

-- no node is too deep below what stands above it
abbrev Within : Above → List Node → Type 0
Within above [] = ⊤
Within above (n ∷ nodes) = (length above ≤ MAX_DEPTH) × Within (after_node n above) nodes

record NodesWere (v : Version) (t : Tables) (nodes : List Node) (above : Above) (left : Left) (read : List Node × Left) : Type 0 where
  new : List Node
  list : read.0 ≡ nodes ++ new
  text : left ≡ texts t (flat_map (node_lines t) new) ++ read.1
  each : All (IsNodeInOrder t) new
  tell : All (IsNodeIn v) new
  deep : Within above new

nodes_were : (v : Version) (t : Tables) (most : ℕ) (nodes : List Node) (above : Above) (left : Left) (read : List Node × Left) → nodes_from (names v t) most nodes above left ≡ Ok read → NodesWere v t nodes above left read
unfolding nodes_from
nodes_were v t zero nodes above left read e = absurd (cc e)
nodes_were v t (suc most) nodes above left read e =
    let next = goes (node_said (names v t) (length above) left) _ read e in
    let n = next.value.0 in
    let was = node_was v t (length above) left next.value next.is in
    either_way (length (after_node n above) == 0) _ _ read next.on
    (λ is e.
    subst (λ r. NodesWere v t nodes above left r) (ok_same (nodes ++ n ∷ [], next.value.1) read e)
    (record {
      new = n ∷ [];
      list = refl;
      text = was.text ∙ ap (λ lines. texts t lines ++ next.value.1) (sym (append-nil (node_lines t n)));
      each = All-cons (IsNodeInOrder t) n [] was.order (All-nil (IsNodeInOrder t));
      tell = All-cons (IsNodeIn v) n [] was.tells (All-nil (IsNodeIn v));
      deep = (was.deep, tt);
    }))
    (λ is e.
    let more = nodes_were v t most (nodes ++ n ∷ []) (after_node n above) next.value.1 read e in
    record {
      new = n ∷ more.new;
      list = more.list ∙ append_assoc nodes (n ∷ []) more.new;
      text = was.text ∙ ap (λ rest. texts t (node_lines t n) ++ rest) more.text ∙ sym (texts_append t (node_lines t n) (flat_map (node_lines t) more.new) read.1);
      each = All-cons (IsNodeInOrder t) n more.new was.order more.each;
      tell = All-cons (IsNodeIn v) n more.new was.tells more.tell;
      deep = (was.deep, more.deep);
    })

-- how deep a tree is whose nodes aren't too deep

both_depths : (above most a b : ℕ) → suc above + a ≤ most → suc above + b ≤ most → above + suc (max a b) ≤ most
both_depths above most a b p q = grind (arith, nat_tests, p, q)

record Deep (above : Above) (whole : Tree) (more : List Node) : Type 0 where
  depth : length above + depth_of whole ≤ MAX_DEPTH
  behind : Within (after_tree above) more

leaf_depth : (above : ℕ) → above ≤ MAX_DEPTH → above + 0 ≤ MAX_DEPTH
leaf_depth above le = omega (arith, le)

depth_is : (whole : Tree) (above : Above) (more : List Node) → Within above (nodes_of whole ++ more) → Deep above whole more
depth_is (tree.Trim' leg choice p with_pair q without) above more within =
    let others = subst (λ nodes. Within (false ∷ above) nodes) (append_assoc (nodes_of with_pair) (nodes_of without) more) within.1 in
    let first = depth_is with_pair (false ∷ above) (nodes_of without ++ more) others in
    let second = depth_is without (true ∷ above) more first.behind in
    record { depth = both_depths (length above) MAX_DEPTH (depth_of with_pair) (depth_of without) first.depth second.depth; behind = second.behind }
depth_is (tree.Split' leg choice prices mixed p with_pair q without) above more within =
    let others = subst (λ nodes. Within (false ∷ above) nodes) (append_assoc (nodes_of with_pair) (nodes_of without) more) within.1 in
    let first = depth_is with_pair (false ∷ above) (nodes_of without ++ more) others in
    let second = depth_is without (true ∷ above) more first.behind in
    record { depth = both_depths (length above) MAX_DEPTH (depth_of with_pair) (depth_of without) first.depth second.depth; behind = second.behind }
depth_is other above more within = record { depth = leaf_depth (length above) within.0; behind = within.1 }

-- the head, the plan and the end

-- the version that was read is one of the tables
version_found : (windows : Bool) (line : List ℕ) (v : Version) → version_of windows line ≡ Some v → has_shifts v ≡ windows
version_found true line v e = by_three (bytes_eq line (codes "fleet proof 3")) e
  where
    by_three : (b : Bool) → cond b (Some version.Three) None ≡ Some v → has_shifts v ≡ true
    by_three true e = let same : version.Three ≡ v = cc e in ap has_shifts (sym same)
    by_three false e = absurd (cc e)
version_found false line v e = by_two (bytes_eq line (codes "fleet proof 1")) (bytes_eq line (codes "fleet proof 2")) e
  where
    by_two : (a b : Bool) → cond a (Some version.One) (cond b (Some version.Two) None) ≡ Some v → has_shifts v ≡ false
    by_two true b e = let same : version.One ≡ v = cc e in ap has_shifts (sym same)
    by_two false true e = let same : version.Two ≡ v = cc e in ap has_shifts (sym same)
    by_two false false e = absurd (cc e)

version_fits : (windows : Bool) (left : Left) (v : Version) → head_is windows left ≡ Ok v → has_shifts v ≡ windows
unfolding head_is
version_fits windows [] v e = absurd (cc e)
version_fits windows (line ∷ []) v e = absurd (cc e)
version_fits windows (line ∷ next ∷ rest) v e = by_version (version_of windows line) refl e
  where
    by_version : (o : Option Version) → version_of windows line ≡ o → headed o (line ∷ next ∷ rest) ≡ Ok v → has_shifts v ≡ windows
    by_version None is e = absurd (cc e)
    by_version (Some w) is e = ap has_shifts (sym (ok_same w v e)) ∙ version_found windows line w is

head_line : (t : Tables) (windows : Bool) (line : List ℕ) (v : Version) → version_of windows line ≡ Some v → line ≡ line_bytes t (says.Head v)
head_line t true line v e = by_three (bytes_eq line (codes "fleet proof 3")) refl e
  where
    by_three : (b : Bool) → bytes_eq line (codes "fleet proof 3") ≡ b → cond b (Some version.Three) None ≡ Some v → line ≡ line_bytes t (says.Head v)
    by_three true is e = let same : version.Three ≡ v = cc e in subst (λ v. line ≡ line_bytes t (says.Head v)) same (same_bytes line (codes "fleet proof 3") is)
    by_three false is e = absurd (cc e)
head_line t false line v e = by_one (bytes_eq line (codes "fleet proof 1")) refl e
  where
    by_two : (b : Bool) → bytes_eq line (codes "fleet proof 2") ≡ b → cond b (Some version.Two) None ≡ Some v → line ≡ line_bytes t (says.Head v)
    by_two true is e = let same : version.Two ≡ v = cc e in subst (λ v. line ≡ line_bytes t (says.Head v)) same (same_bytes line (codes "fleet proof 2") is)
    by_two false is e = absurd (cc e)

    by_one : (b : Bool) → bytes_eq line (codes "fleet proof 1") ≡ b → cond b (Some version.One) (cond (bytes_eq line (codes "fleet proof 2")) (Some version.Two) None) ≡ Some v → line ≡ line_bytes t (says.Head v)
    by_one true is e = let same : version.One ≡ v = cc e in subst (λ v. line ≡ line_bytes t (says.Head v)) same (same_bytes line (codes "fleet proof 1") is)
    by_one false is e = by_two (bytes_eq line (codes "fleet proof 2")) refl e

head_was : (t : Tables) (windows : Bool) (left : Left) (v : Version) → head_is windows left ≡ Ok v → left ≡ line_bytes t (says.Head v) ∷ drop 1 left
unfolding head_is
head_was t windows [] v e = absurd (cc e)
head_was t windows (line ∷ []) v e = absurd (cc e)
head_was t windows (line ∷ next ∷ rest) v e = by_version (version_of windows line) refl e
  where
    by_version : (o : Option Version) → version_of windows line ≡ o → headed o (line ∷ next ∷ rest) ≡ Ok v → line ∷ next ∷ rest ≡ line_bytes t (says.Head v) ∷ next ∷ rest
    by_version None is e = absurd (cc e)
    by_version (Some w) is e = ap (λ l. l ∷ next ∷ rest) (head_line t windows line w is ∙ ap (λ x. line_bytes t (says.Head x)) (ok_same w v e))

plan_is : (line : Line) (left : Left) (planned : Bool) → plan_in_line line left ≡ Ok planned → line ≡ says.Plan planned
plan_is (says.Plan b) left planned e = ap (λ b. says.Plan b) (ok_same b planned e)
plan_is other left planned e = absurd (cc e)

plan_was : (v : Version) (t : Tables) (left : Left) (planned : Bool) → plan_at (names v t) left ≡ Ok planned → LineIs v t left (says.Plan planned)
unfolding said_at
plan_was v t left planned e =
    let line = goes (line_due (names v t) due.Plan left) _ planned e in
    subst (LineIs v t left) (plan_is line.value left planned line.on) (line_was v t due.Plan left line.value line.is)

nothing_was : (left : Left) (x : ⊤) → nothing left ≡ Ok x → 0 < length left → left ≡ [] ∷ []
unfolding nothing
nothing_was [] x e some = absurd (omega (arith, some))
nothing_was ([] ∷ []) x e some = refl
nothing_was ((byte ∷ bytes) ∷ []) x e some = absurd (by_test (is_word (byte ∷ bytes)) _ e (grind (arith, nat_tests)))
  where
    by_test : (b : Bool) (s : Reading ⊤) → cond b (Err (record { left = 1; kind = BAD_LINE })) s ≡ Ok x → b ≡ true → ⊥
    by_test true s e is = cc e
    by_test false s e is = cc is
nothing_was (line ∷ next ∷ rest) x e some = absurd (cc e)

end_is : (line : Line) → may_stand due.End (form_of line) ≡ true → line ≡ says.End
end_is says.End e = refl
end_is (says.Plan true) e = absurd (cc e)
end_is (says.Plan false) e = absurd (cc e)
end_is other e = absurd (cc e)

end_was : (v : Version) (t : Tables) (left : Left) (x : ⊤) → end_at (names v t) left ≡ Ok x → left ≡ last t
unfolding end_at
end_was v t left x e =
    let line = goes (line_due (names v t) due.End left) _ x e in
    let was = line_was v t due.End left line.value line.is in
    let first = subst (LineIs v t left) (end_is line.value (line_may v t due.End left line.value line.is)) was in
    first.is ∙ ap (λ rest. line_bytes t says.End ∷ rest) (nothing_was (drop 1 left) x line.on first.some)

below_none : (n : ℕ) → 0 + n ≤ MAX_DEPTH → n ≤ MAX_DEPTH
below_none n le = omega (arith, le)

-- a text is its lines, joined

join_more : (first : List ℕ) (others : Left) → 0 < length others → join_with_byte line_feed (first ∷ others) ≡ first ++ line_feed ∷ join_with_byte line_feed others
join_more first [] some = absurd (omega (arith, some))
join_more first (other ∷ others) some = refl

join_lines : (t : Tables) (lines : List Line) → join_with_byte line_feed (texts t lines ++ [] ∷ []) ≡ text_of_lines t lines
join_lines t [] = refl
join_lines t (line ∷ lines) =
    join_more (line_bytes t line) (texts t lines ++ [] ∷ []) (some_last lines) ∙ ap (λ rest. line_bytes t line ++ line_feed ∷ rest) (join_lines t lines)
    ∙ sym (append_assoc (line_bytes t line) (line_feed ∷ []) (text_of_lines t lines))
  where
    some_last : (lines : List Line) → 0 < length (texts t lines ++ [] ∷ [])
    some_last [] = omega arith
    some_last (line ∷ lines) = omega arith

pub text_of_reading : (t : Tables) (bytes : List ℕ) (planned : Bool) (whole : Tree) → proof_at t (left_of bytes) ≡ Ok (planned, nodes_of whole) → IsTextOf t bytes planned whole
unfolding proof_at rest_at tree_at text_in
text_of_reading t bytes planned whole e =
    let left = left_of bytes in
    let headed = goes (head_is t.windows left) _ (planned, nodes_of whole) e in
    let v = headed.value in
    let answer = goes (plan_at (names v t) (drop 1 left)) _ (planned, nodes_of whole) headed.on in
    let third : Left = drop 1 (drop 1 left) in
    let read = goes (tree_at (names v t) third) _ (planned, nodes_of whole) answer.on in
    let all = goes (nodes_from (names v t) (length third) [] [] third) _ read.value read.is in
    let ended = goes (end_at (names v t) all.value.1) _ read.value all.on in
    let same : (answer.value, read.value) ≡ (planned, nodes_of whole) = ok_same (answer.value, read.value) (planned, nodes_of whole) read.on in
    let were = nodes_were v t (length third) [] [] third all.value all.is in
    let nodes_are : were.new ≡ nodes_of whole = sym were.list ∙ ok_same all.value.0 read.value ended.on ∙ ap (λ p. p.1) same in
    let head_line_is = head_was t t.windows left v headed.is in
    let plan_line_is = plan_was v t (drop 1 left) answer.value answer.is in
    let deep = depth_is whole [] [] (subst (λ nodes. Within [] nodes) (nodes_are ∙ sym (append-nil (nodes_of whole))) were.deep) in
    let tree_text : third ≡ texts t (tree_lines t whole) ++ last t =
    were.text ∙ ap (λ nodes. texts t (flat_map (node_lines t) nodes) ++ all.value.1) nodes_are
    ∙ ap (λ rest. texts t (tree_lines t whole) ++ rest) (end_was v t all.value.1 ended.value ended.is) in
    let lines : left ≡ texts t (lines_in_version v t planned whole) ++ [] ∷ [] =
    head_line_is
    ∙ ap (λ rest. line_bytes t (says.Head v) ∷ rest)
    (plan_line_is.is ∙ ap (λ p. line_bytes t (says.Plan p) ∷ third) (ap (λ p. p.0) same)
    ∙ ap (λ rest. line_bytes t (says.Plan planned) ∷ rest) (tree_text ∙ sym (texts_append t (tree_lines t whole) (says.End ∷ []) ([] ∷ [])))) in
    record {
      version = v;
      shifts = version_fits t.windows left v headed.is;
      tells = subst (λ nodes. All (IsNodeIn v) nodes) nodes_are were.tell;
      is = sym (join_with_byte-slice_split line_feed bytes) ∙ ap (join_with_byte line_feed) lines ∙ join_lines t (lines_in_version v t planned whole);
      order = subst (λ nodes. All (IsNodeInOrder t) nodes) nodes_are were.each;
      shallow = below_none (depth_of whole) deep.depth;
    }
