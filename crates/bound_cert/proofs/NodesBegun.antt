-- Nodes of which a first part was read go on to those of a whole tree.
use Rattle.bound_cert.proofs.Completing.{mixed_goes, one_mixed, prices_go}
use Rattle.bound_cert.proofs.Endings.{Completes, EndsBy, MayAt, Stays, alike_after, ends_lift, ends_map, ends_read, ends_then, not_there, some_more, value_of}
use Rattle.bound_cert.proofs.LineTwins.{alike_self, head_twin}
use Rattle.bound_cert.proofs.ReadOn.{bound}
use Rattle.proof_lines.proofs.Choosing.{chosen, refused}
use Rattle.bound_cert.proofs.Shrinking.{Shrinks, mixed_shrinks, node_takes, nodes_shrink, shrinks_if}
use Rattle.bound_cert.proofs.TextNodes.{node_was}
use Rattle.bound_cert.proofs.WrittenLines.{names, texts}
use Rattle.bound_cert.proofs.WrittenNodes.{behind_line, node_read}
use Rattle.bound_cert.proofs.WrittenPrices.{IsBehind}
use Rattle.bound_cert.specs.FirstFault.{is_inner_line}
use Rattle.bound_cert.specs.Lines.{◌>>=◌, Left, Reading}
use Rattle.bound_cert.specs.Nodes.{Above, after_node, after_tree, is_inner, nodes_from}
use Rattle.bound_cert.specs.ProofText.{mixed_lines, price_lines, node_lines}
use Rattle.bound_cert.specs.Reading.{body_at, head_at, mixed_node, mixed_said, node_said, priced_node, prices_said}
use Rattle.bound_cert.specs.declared.nodes.Head.{Head}
use Rattle.dual_bound.specs.WrittenOrder.{IsNodeInOrder}
use Rattle.dual_bound.specs.declared.nodes.Node.{Node}
use Rattle.dual_bound.specs.declared.trees.TheConstants.{MAX_DEPTH}
use Rattle.fleet_model.specs.declared.tables.Tables.{Tables}
use Rattle.proof_lines.specs.declared.line.Version.{Version}
use Rattle.proof_lines.proofs.LineWords.{of_words}
use Rattle.proof_lines.proofs.Spaces.{words_back}
use Rattle.proof_lines.specs.LineText.{IsNamed, line_bytes, line_words}
use Rattle.proof_lines.specs.Words.{stands}
use Rattle.proof_lines.specs.declared.line.Line.{Line}
use Rattle.std.proofs.Common.{[], ◌++◌, ◌+◌, ◌<◌, ◌==◌, ◌||◌, ◌∙◌, ◌∷◌, ◌≡◌, ◌≤◌, ◌⊎◌, Bool, Err, List, Ok, ap, append_assoc, arith, codes, cond, count_by, false, if◌then◌else◌, inl, inr, length, length-append, refl, subst, suc, sym, true, zero, ℕ}
use Rattle.std.proofs.lemmas.Bool.Decides.{nat_tests}
use Rattle.std.proofs.lemmas.List.Sums.{sum_by-append, sum_by-cons}
use Rattle.std.specs.Prelude.{⊤}
use Rattle.sums.proofs.Naturals.{first_same}
use Rattle.bound_cert.specs.declared.nodes.Head.TheVariants as head
use Rattle.dual_bound.specs.declared.nodes.Node.TheVariants as node
use Rattle.proof_lines.specs.declared.line.Line.TheVariants as says
use Rattle.sums.proofs.Tests.{at_most_one}

-- how many trims and splits a node is
abbrev inner_of : Node → ℕ
inner_of n = if is_inner n then 1 else 0

module _ (v : Version) (t : Tables) where
  -- ---- what closes a proof: a sole leaf for each child that is missing
  record Closes (after : Above) (nodes : List Node) : Type 0 where
    more : Left
    value : List Node
    reads : (z : Left) (k : ℕ) → IsBehind z → length (more ++ z) ≤ k → cond (length after == 0) (Ok (nodes, more ++ z)) (nodes_from (names v t) k nodes after (more ++ z)) ≡ Ok (value, z)
    behind : (z : Left) → IsBehind z → IsBehind (more ++ z)

  -- behind a sole leaf
  sole_then : (s : Above) (nodes : List Node) (more z : Left) (value : List Node) (k : ℕ) → length s ≤ MAX_DEPTH → IsBehind (more ++ z) → length (line_bytes t says.Sole ∷ (more ++ z)) ≤ k
      → ((k : ℕ) → length (more ++ z) ≤ k → cond (length (after_tree s) == 0) (Ok (nodes ++ node.Sole ∷ [], more ++ z)) (nodes_from (names v t) k (nodes ++ node.Sole ∷ []) (after_tree s) (more ++ z)) ≡ Ok (value, z))
      → nodes_from (names v t) k nodes s (line_bytes t says.Sole ∷ (more ++ z)) ≡ Ok (value, z)
  unfolding nodes_from
  sole_then s nodes more z value zero few behind fuel on = absurd (omega (arith, fuel))
  sole_then s nodes more z value (suc k) few behind fuel on =
      bound (node_said (names v t) (length s) (line_bytes t says.Sole ∷ (more ++ z))) (node.Sole, more ++ z) _ (node_read v t (length s) node.Sole (more ++ z) tt tt few behind) ∙ on k (omega (arith, fuel))

  sole_behind : (rest : Left) → IsBehind (line_bytes t says.Sole ∷ rest)
  sole_behind rest = behind_line v t says.Sole rest tt refl refl refl refl

  not_empty : (b : Bool) (above : Above) → (length (b ∷ above) == 0) ≡ false
  not_empty b above = grind (arith, nat_tests)

  sole_closes : (first : Bool) (above : Above) (nodes : List Node) → length (first ∷ above) ≤ MAX_DEPTH → Closes (after_tree (first ∷ above)) (nodes ++ node.Sole ∷ []) → Closes (first ∷ above) nodes
  sole_closes first above nodes few inner = record {
    more = line_bytes t says.Sole ∷ inner.more;
    value = inner.value;
    reads = λ z k ends fuel.
        refused (length (first ∷ above) == 0) _ _ (not_empty first above)
        ∙ sole_then (first ∷ above) nodes inner.more z inner.value k few (inner.behind z ends) fuel (λ k fuel. inner.reads z k ends fuel);
    behind = λ z ends. sole_behind (inner.more ++ z);
  }

  closes : (above : Above) (nodes : List Node) → length above ≤ MAX_DEPTH → Closes (after_tree above) nodes
  closes [] nodes few = record { more = []; value = nodes; reads = λ z k ends fuel. refl; behind = λ z ends. ends }
  closes (true ∷ above) nodes few = closes above nodes (omega (arith, few))
  closes (false ∷ above) nodes few = sole_closes true above nodes few (closes above (nodes ++ node.Sole ∷ []) (omega (arith, few)))

  -- behind any node
  node_closes : (n : Node) (above : Above) (nodes : List Node) → length above + inner_of n ≤ MAX_DEPTH → Closes (after_node n above) nodes
  node_closes n above nodes few = by_kind (is_inner n) few
    where
      by_kind : (b : Bool) → length above + (if b then 1 else 0) ≤ MAX_DEPTH → Closes (if b then false ∷ above else after_tree above) nodes
      by_kind true few = sole_closes false above nodes (omega (arith, few)) (closes (false ∷ above) (nodes ++ node.Sole ∷ []) (omega (arith, few)))
      by_kind false few = closes above nodes (omega (arith, few))

  -- ---- how deep it goes on
  after_tree_less : (above : Above) → length (after_tree above) ≤ length above
  after_tree_less [] = omega arith
  after_tree_less (true ∷ above) = omega (arith, after_tree_less above)
  after_tree_less (false ∷ above) = omega arith

  after_node_less : (n : Node) (above : Above) → length (after_node n above) ≤ length above + inner_of n
  after_node_less n above = by_kind (is_inner n)
    where
      by_kind : (b : Bool) → length (if b then false ∷ above else after_tree above) ≤ length above + (if b then 1 else 0)
      by_kind true = omega arith
      by_kind false = omega (arith, after_tree_less above)

  count_is : (x : List ℕ) (p : Left) → count_by is_inner_line (x ∷ p) ≡ (if is_inner_line x then 1 else 0) + count_by is_inner_line p
  count_is x p = sum_by-cons (λ x. if is_inner_line x then 1 else 0) x p

  count_append : (xs ys : Left) → count_by is_inner_line (xs ++ ys) ≡ count_by is_inner_line xs + count_by is_inner_line ys
  count_append xs ys = sum_by-append (λ x. if is_inner_line x then 1 else 0) xs ys

  pub count_cons : (x : List ℕ) (p : Left) → count_by is_inner_line p ≤ count_by is_inner_line (x ∷ p)
  count_cons x p = omega (arith, count_is x p)

  count_inner : (x : List ℕ) (p : Left) → is_inner_line x ≡ true → count_by is_inner_line (x ∷ p) ≡ suc (count_by is_inner_line p)
  count_inner x p is =
      let one = count_is x p ∙ ap (λ b. (if b then 1 else 0) + count_by is_inner_line p) is in
      omega (arith, one)

  inner_line : (line : Line) → IsNamed t line → (stands (line_words t line) 0 (codes "trim") || stands (line_words t line) 0 (codes "split")) ≡ true → is_inner_line (line_bytes t line) ≡ true
  inner_line line is e = ap (λ words. stands words 0 (codes "trim") || stands words 0 (codes "split")) (words_back (line_words t line) (of_words t line is)) ∙ e

  -- a node that is no leaf has a first line that counts
  inner_first : (above : ℕ) (x : List ℕ) (a : Left) (read : Node × Left) → node_said (names v t) above (x ∷ a) ≡ Ok read → 0 < inner_of read.0 → is_inner_line x ≡ true
  inner_first above x a read e = by_node read.0 (node_was v t above (x ∷ a) read e).order (node_was v t above (x ∷ a) read e).text
    where
      by_node : (n : Node) → IsNodeInOrder t n → x ∷ a ≡ texts t (node_lines t n) ++ read.1 → 0 < inner_of n → is_inner_line x ≡ true
      by_node (node.Trim leg choice) order text some =
          ap (λ y. is_inner_line y) (first_same x (line_bytes t (says.Trim leg choice)) _ _ text) ∙ inner_line (says.Trim leg choice) order refl
      by_node (node.Split leg choice prices mixed) order text some =
          ap (λ y. is_inner_line y) (first_same x (line_bytes t (says.Split leg choice)) _ _ text) ∙ inner_line (says.Split leg choice) order.0 refl
      by_node other order text some = absurd (omega (arith, some))

  inner_counts : (above : ℕ) (x : List ℕ) (p a : Left) (read : Node × Left) → node_said (names v t) above (x ∷ a) ≡ Ok read → inner_of read.0 + count_by is_inner_line p ≤ count_by is_inner_line (x ∷ p)
  inner_counts above x p a read e = by_size (inner_of read.0) refl
    where
      by_size : (k : ℕ) → inner_of read.0 ≡ k → inner_of read.0 + count_by is_inner_line p ≤ count_by is_inner_line (x ∷ p)
      by_size zero none = omega (arith, none, count_cons x p)
      by_size (suc k) some = omega (arith, at_most_one (is_inner read.0), count_inner x p (inner_first above x a read e (omega (arith, some))))

  lines_count : (n : Node) → IsNodeInOrder t n → inner_of n ≤ count_by is_inner_line (texts t (node_lines t n))
  lines_count (node.Trim leg choice) order = omega (arith, count_inner (line_bytes t (says.Trim leg choice)) [] (inner_line (says.Trim leg choice) order refl))
  lines_count (node.Split leg choice prices mixed) order =
      omega (arith, count_inner (line_bytes t (says.Split leg choice)) (texts t (price_lines t prices ++ mixed_lines mixed)) (inner_line (says.Split leg choice) order.0 refl))
  lines_count other order = omega arith

  node_counts : (above : ℕ) (n : Node) (p rest end : Left) → node_said (names v t) above (p ++ end) ≡ Ok (n, rest ++ end) → inner_of n + count_by is_inner_line rest ≤ count_by is_inner_line p
  node_counts above n p rest end e =
      let was = node_was v t above (p ++ end) (n, rest ++ end) e in
      omega (
        arith,
        lines_count n was.order,
        ap (count_by is_inner_line) was.text,
        count_append p end,
        count_append (texts t (node_lines t n)) (rest ++ end),
        count_append rest end,
      )

  -- ---- one node
  module _ (line : List ℕ) (after : Left) where
    abbrev end : Left
    end = line ∷ after

    body_goes : (h : Head) (p : Left) → EndsBy IsBehind (λ m. ⊤) end (body_at (names v t) h) p (body_at (names v t) h (p ++ end))
    unfolding body_at
    body_goes (head.Alone said) p = inl (record { rest = p; left_is = refl; stays = λ m some may. refl })
    body_goes (head.Priced said) p =
        ends_map IsBehind (λ m. ⊤) end (prices_said (names v t)) (λ prices. priced_node said prices) (body_at (names v t) (head.Priced said)) p p (prices_said (names v t) (p ++ end)) (λ m may. may) (λ m some. refl) (prices_go v t line after p)
    body_goes (head.Mixed said) p =
        ends_then IsBehind (λ m. ⊤) IsBehind IsBehind end (prices_said (names v t)) (λ prices. mixed_said (names v t)) (λ prices mixed. mixed_node said prices mixed) (body_at (names v t) (head.Mixed said)) p p (λ m behind. behind) (λ m behind. behind) (λ m some. refl)
        (λ prices. one_mixed v t line after) (λ prices. mixed_shrinks v t) (λ prices. mixed_goes v t line after) (prices_said (names v t) (p ++ end)) (prices_go v t line after p)

    node_goes : (above : ℕ) (x : List ℕ) (p : Left) → EndsBy IsBehind (λ m. ⊤) end (node_said (names v t) above) (x ∷ p) (node_said (names v t) above (x ∷ (p ++ end)))
    unfolding node_said
    node_goes above x p =
        ends_read _ _ end _ (x ∷ p) (head_at (names v t) above (x ∷ (p ++ end))) _
        (λ e failed there. not_there x p end (head_at (names v t) above (x ∷ (p ++ end))) e (head_twin v t (x ∷ (p ++ end)) (x ∷ (p ++ end)) (alike_self (x ∷ (p ++ end))) above) failed there)
        (λ h read. ends_lift _ _ end (node_said (names v t) above) (x ∷ p) (body_at (names v t) h) p _ (λ m may. tt)
        (λ m some. bound (head_at (names v t) above (x ∷ (p ++ m))) h _
        (value_of (x ∷ (p ++ end)) (x ∷ (p ++ m)) (head_at (names v t) above (x ∷ (p ++ end))) (head_at (names v t) above (x ∷ (p ++ m))) h (head_twin v t (x ∷ (p ++ end)) (x ∷ (p ++ m)) (alike_after x line p after m some) above) read))
        (body_goes h p))

    -- ---- all nodes
    pub record StaysNodes (nodes : List Node) (above : Above) (p : Left) (read : List Node × Left) : Type 0 where
      pub rest : Left
      pub left_is : read.1 ≡ rest ++ end
      pub stays : (m : Left) (k : ℕ) → 0 < length m → MayAt IsBehind rest m → length (p ++ m) ≤ k → nodes_from (names v t) k nodes above (p ++ m) ≡ Ok (read.0, rest ++ m)

    pub record CompletesNodes (nodes : List Node) (above : Above) (p : Left) : Type 0 where
      pub more : Left
      pub value : List Node
      pub reads : (z : Left) (k : ℕ) → IsBehind z → length (p ++ (more ++ z)) ≤ k → nodes_from (names v t) k nodes above (p ++ (more ++ z)) ≡ Ok (value, z)
      pub need : (z : Left) → IsBehind z → MayAt IsBehind p (more ++ z)

    abbrev pub EndsNodes : List Node → Above → Left → Reading (List Node × Left) → Type 0
    EndsNodes nodes above p (Ok read) = StaysNodes nodes above p read ⊎ (length read.1 < length end)
    EndsNodes nodes above p (Err e) = e.left ≡ length end → CompletesNodes nodes above p

    -- what goes on behind a node
    onward : ℕ → List Node → Above → Node × Left → Reading (List Node × Left)
    onward most nodes above read = cond (length (after_node read.0 above) == 0) (Ok (nodes ++ read.0 ∷ [], read.1)) (nodes_from (names v t) most (nodes ++ read.0 ∷ []) (after_node read.0 above) read.1)

    nodes_over : (nodes : List Node) (above : Above) (p : Left) (n : ℕ) (r : Reading (List Node × Left)) → Shrinks n r → n < length end → EndsNodes nodes above p r
    nodes_over nodes above p n (Ok read) is short = inr (omega (arith, is, short))
    nodes_over nodes above p n (Err e) is short = λ there. absurd (omega (arith, is, short, there))

    onward_shrinks : (most : ℕ) (nodes : List Node) (above : Above) (read : Node × Left) → Shrinks (length read.1) (onward most nodes above read)
    unfolding onward
    onward_shrinks most nodes above read =
        shrinks_if (length read.1) (length (after_node read.0 above) == 0) _ _ (omega arith) (nodes_shrink v t most (nodes ++ read.0 ∷ []) (after_node read.0 above) read.1)

    opened : (most : ℕ) (nodes : List Node) (above : Above) (read : Node × Left) (b : Bool) → (length (after_node read.0 above) == 0) ≡ b
        → onward most nodes above read ≡ cond b (Ok (nodes ++ read.0 ∷ [], read.1)) (nodes_from (names v t) most (nodes ++ read.0 ∷ []) (after_node read.0 above) read.1)
    unfolding onward
    opened most nodes above read b test = ap (λ b. cond b (Ok (nodes ++ read.0 ∷ [], read.1)) (nodes_from (names v t) most (nodes ++ read.0 ∷ []) (after_node read.0 above) read.1)) test

    -- one node, where enough may come
    one_node : (k : ℕ) (nodes : List Node) (above : Above) (left : Left) (n : Node) (rest : Left) (value : List Node) (z : Left) → node_said (names v t) (length above) left ≡ Ok (n, rest) → length left ≤ k
        → ((k : ℕ) → length rest ≤ k → cond (length (after_node n above) == 0) (Ok (nodes ++ n ∷ [], rest)) (nodes_from (names v t) k (nodes ++ n ∷ []) (after_node n above) rest) ≡ Ok (value, z))
        → nodes_from (names v t) k nodes above left ≡ Ok (value, z)
    unfolding nodes_from
    one_node zero nodes above left n rest value z read fuel on = absurd (omega (arith, fuel, node_takes v t (length above) left (n, rest) read))
    one_node (suc k) nodes above left n rest value z read fuel on = bound (node_said (names v t) (length above) left) (n, rest) _ read ∙ on k (omega (arith, fuel, node_takes v t (length above) left (n, rest) read))

    -- the node in which it stopped goes on to a whole one
    stopped_node : (nodes : List Node) (above : Above) (x : List ℕ) (p : Left) → length above + count_by is_inner_line (x ∷ p) ≤ MAX_DEPTH → Completes (λ m. ⊤) (node_said (names v t) (length above)) (x ∷ p) → CompletesNodes nodes above (x ∷ p)
    stopped_node nodes above x p few done =
        let whole = done.reads (line_bytes t says.Sole ∷ []) (sole_behind []) in
        let counted = inner_counts (length above) x p (p ++ (done.more ++ line_bytes t says.Sole ∷ [])) (done.value, line_bytes t says.Sole ∷ []) whole in
        let closed = node_closes done.value above (nodes ++ done.value ∷ []) (omega (arith, few, counted)) in
        record {
          more = done.more ++ closed.more;
          value = closed.value;
          reads = λ z k ends fuel. by_fuel nodes above x p done closed z k ends fuel;
          need = λ z ends. tt;
        }
      where
        by_fuel : (nodes : List Node) (above : Above) (x : List ℕ) (p : Left) (done : Completes (λ m. ⊤) (node_said (names v t) (length above)) (x ∷ p)) (closed : Closes (after_node done.value above) (nodes ++ done.value ∷ [])) (z : Left) (k : ℕ)
            → IsBehind z → length (x ∷ (p ++ ((done.more ++ closed.more) ++ z))) ≤ k → nodes_from (names v t) k nodes above (x ∷ (p ++ ((done.more ++ closed.more) ++ z))) ≡ Ok (closed.value, z)
        by_fuel nodes above x p done closed z k ends fuel =
            let lines : (done.more ++ closed.more) ++ z ≡ done.more ++ (closed.more ++ z) = append_assoc done.more closed.more z in
            ap (λ m. nodes_from (names v t) k nodes above (x ∷ (p ++ m))) lines
            ∙ one_node k nodes above (x ∷ (p ++ (done.more ++ (closed.more ++ z)))) done.value (closed.more ++ z) closed.value z (done.reads (closed.more ++ z) (closed.behind z ends))
            (subst (λ m. length (x ∷ (p ++ m)) ≤ k) lines fuel) (λ k fuel. closed.reads z k ends fuel)

    -- nothing of a node stands there: it may be a sole leaf
    at_a_node : (nodes : List Node) (above : Above) → length above ≤ MAX_DEPTH → CompletesNodes nodes above []
    at_a_node nodes above few =
        let done = closes above (nodes ++ node.Sole ∷ []) few in
        record {
          more = line_bytes t says.Sole ∷ done.more;
          value = done.value;
          reads = λ z k ends fuel. sole_then above nodes done.more z done.value k few (done.behind z ends) fuel (λ k fuel. done.reads z k ends fuel);
          need = λ z ends. sole_behind (done.more ++ z);
        }

    -- a whole node, and those behind it
    next_node : (nodes : List Node) (above : Above) (x : List ℕ) (p : Left) (read : Node × Left) (is : Stays IsBehind end (node_said (names v t) (length above)) (x ∷ p) read) → (length (after_node read.0 above) == 0) ≡ false
        → (r : Reading (List Node × Left)) → Shrinks (length (is.rest ++ end)) r → EndsNodes (nodes ++ read.0 ∷ []) (after_node read.0 above) is.rest r → EndsNodes nodes above (x ∷ p) r
    next_node nodes above x p read is some (Ok whole) less (inl done) = inl (record {
      rest = done.rest;
      left_is = done.left_is;
      stays = λ m k present may fuel.
          one_node k nodes above (x ∷ (p ++ m)) read.0 (is.rest ++ m) whole.0 (done.rest ++ m)
          (is.stays m present (still_may is.rest done.rest m whole.1 done.left_is less may)) fuel
          (λ k fuel. refused (length (after_node read.0 above) == 0) _ _ some ∙ done.stays m k present may fuel);
    })
      where
        still_may : (rest left m whole : Left) → whole ≡ left ++ end → length whole ≤ length (rest ++ end) → MayAt IsBehind left m → MayAt IsBehind rest m
        still_may [] [] m whole is less may = may
        still_may [] (y ∷ left) m whole is less may = absurd (omega (arith, ap length is, less, length-append left end))
        still_may (y ∷ rest) left m whole is less may = tt
    next_node nodes above x p read is some (Ok whole) less (inr short) = inr short
    next_node nodes above x p read is some (Err e) less done = λ there.
        let more = done there in
        record {
          more = more.more;
          value = more.value;
          reads = λ z k ends fuel.
              one_node k nodes above (x ∷ (p ++ (more.more ++ z))) read.0 (is.rest ++ (more.more ++ z)) more.value z (is.stays (more.more ++ z) (some_more more.more z ends.some) (more.need z ends)) fuel
              (λ k fuel. refused (length (after_node read.0 above) == 0) _ _ some ∙ more.reads z k ends fuel);
          need = λ z ends. tt;
        }

    -- a tree that is whole
    last_node : (nodes : List Node) (above : Above) (x : List ℕ) (p : Left) (read : Node × Left) (is : Stays IsBehind end (node_said (names v t) (length above)) (x ∷ p) read) → (length (after_node read.0 above) == 0) ≡ true
        → StaysNodes nodes above (x ∷ p) (nodes ++ read.0 ∷ [], read.1)
    last_node nodes above x p read is none = record {
      rest = is.rest;
      left_is = is.left_is;
      stays = λ m k present may fuel.
          one_node k nodes above (x ∷ (p ++ m)) read.0 (is.rest ++ m) (nodes ++ read.0 ∷ []) (is.rest ++ m) (is.stays m present may) fuel (λ k fuel. chosen (length (after_node read.0 above) == 0) _ _ none);
    }

    behind_node : (most : ℕ) (nodes : List Node) (above : Above) (x : List ℕ) (p : Left) → length above + count_by is_inner_line (x ∷ p) ≤ MAX_DEPTH
        → (r : Reading (Node × Left)) → node_said (names v t) (length above) (x ∷ (p ++ end)) ≡ r → EndsBy IsBehind (λ m. ⊤) end (node_said (names v t) (length above)) (x ∷ p) r
        → ((n : Node) (rest : Left) → length rest < length (x ∷ p) → length (after_node n above) + count_by is_inner_line rest ≤ MAX_DEPTH
        → EndsNodes (nodes ++ n ∷ []) (after_node n above) rest (nodes_from (names v t) most (nodes ++ n ∷ []) (after_node n above) (rest ++ end)))
        → EndsNodes nodes above (x ∷ p) (r >>= onward most nodes above)
    behind_node most nodes above x p few (Err d) is ends on = λ there. stopped_node nodes above x p few (ends there)
    behind_node most nodes above x p few (Ok read) is (inr short) on = nodes_over nodes above (x ∷ p) (length read.1) (onward most nodes above read) (onward_shrinks most nodes above read) short
    behind_node most nodes above x p few (Ok read) is (inl stays) on = by_test (length (after_node read.0 above) == 0) refl
      where
        unfolded : (b : Bool) → (length (after_node read.0 above) == 0) ≡ b → onward most nodes above read ≡ cond b (Ok (nodes ++ read.0 ∷ [], read.1)) (nodes_from (names v t) most (nodes ++ read.0 ∷ []) (after_node read.0 above) read.1)
        unfolded b test = opened most nodes above read b test

        by_test : (b : Bool) → (length (after_node read.0 above) == 0) ≡ b → EndsNodes nodes above (x ∷ p) (onward most nodes above read)
        by_test true none = subst (λ r. EndsNodes nodes above (x ∷ p) r) (sym (unfolded true none)) (inl (last_node nodes above x p read stays none))
        by_test false some =
            let taken = node_takes v t (length above) (x ∷ (p ++ end)) read is in
            let shorter : length stays.rest < length (x ∷ p) = omega (arith, taken, ap length stays.left_is, length-append stays.rest end, length-append p end) in
            let counted = node_counts (length above) read.0 (x ∷ p) stays.rest end (is ∙ ap (λ a. Ok (read.0, a)) stays.left_is) in
            subst (λ r. EndsNodes nodes above (x ∷ p) r) (sym (unfolded false some))
            (subst (λ a. EndsNodes nodes above (x ∷ p) (nodes_from (names v t) most (nodes ++ read.0 ∷ []) (after_node read.0 above) a)) (sym stays.left_is)
            (next_node nodes above x p read stays some _ (nodes_shrink v t most (nodes ++ read.0 ∷ []) (after_node read.0 above) (stays.rest ++ end)) (on read.0 stays.rest shorter (omega (arith, few, counted, after_node_less read.0 above)))))

    pub nodes_go : (most : ℕ) (nodes : List Node) (above : Above) (p : Left) → length (p ++ end) ≤ most → length above + count_by is_inner_line p ≤ MAX_DEPTH → EndsNodes nodes above p (nodes_from (names v t) most nodes above (p ++ end))
    unfolding nodes_from onward
    nodes_go zero nodes above p fuel few = absurd (omega (arith, fuel, length-append p end))
    nodes_go (suc most) nodes above [] fuel few = at_end (node_said (names v t) (length above) end) refl
      where
        at_end : (r : Reading (Node × Left)) → node_said (names v t) (length above) end ≡ r → EndsNodes nodes above [] (r >>= onward most nodes above)
        at_end (Ok read) is = nodes_over nodes above [] (length read.1) (onward most nodes above read) (onward_shrinks most nodes above read) (node_takes v t (length above) end read is)
        at_end (Err e) is = λ there. at_a_node nodes above (omega (arith, few))
    nodes_go (suc most) nodes above (x ∷ p) fuel few =
        behind_node most nodes above x p few (node_said (names v t) (length above) (x ∷ (p ++ end))) refl (node_goes (length above) x p)
        (λ n rest shorter enough. nodes_go most (nodes ++ n ∷ []) (after_node n above) rest (omega (arith, fuel, shorter, length-append p end, length-append rest end)) enough)
