-- The lines before a first fault begin a proof.
use Rattle.bound_cert.proofs.Endings.{MayAt, alike_after, not_there, some_more, value_of}
use Rattle.bound_cert.proofs.LineTwins.{alike_self, line_twin, plan_twin}
use Rattle.bound_cert.proofs.NodesBegun.{EndsNodes, count_cons, nodes_go}
use Rattle.bound_cert.proofs.ReadBack.{err_same}
use Rattle.bound_cert.proofs.ReadOn.{bound}
use Rattle.bound_cert.proofs.Shrinking.{Stops, end_stops, headed_twin, proof_stops, stops_then}
use Rattle.bound_cert.proofs.WrittenLines.{names}
use Rattle.bound_cert.proofs.WrittenPrices.{IsBehind}
use Rattle.bound_cert.proofs.WrittenTrees.{end_read, head_read, last, last_is, plan_read, whole_read, written_shifts}
use Rattle.bound_cert.specs.FirstFault.{LinesBeforeBeginProof, is_inner_line}
use Rattle.bound_cert.specs.Lines.{◌>>=◌, Left, Reading, Stopped, line_due}
use Rattle.bound_cert.specs.Nodes.{end_at, head_is, nodes_from, nothing, plan_at, proof_at, rest_at, tree_at}
use Rattle.bound_cert.specs.ProofText.{IsNodeIn, written_version}
use Rattle.dual_bound.specs.WrittenOrder.{IsNodeInOrder}
use Rattle.dual_bound.specs.declared.nodes.Node.{Node}
use Rattle.dual_bound.specs.declared.trees.TheConstants.{MAX_DEPTH}
use Rattle.fleet_model.specs.declared.tables.Tables.{Tables}
use Rattle.proof_lines.specs.Known.{names_in}
use Rattle.proof_lines.specs.LineText.{line_bytes}
use Rattle.proof_lines.specs.declared.line.Line.{Line}
use Rattle.proof_lines.specs.declared.line.Version.{Version}
use Rattle.std.proofs.Common.{[], ◌++◌, ◌<◌, ◌∙◌, ◌∷◌, ◌≡◌, ◌≤◌, Bool, Err, List, Ok, ap, arith, count_by, false, inl, inr, length, length-append, refl, subst, sym, ℕ}
use Rattle.std.proofs.lemmas.List.Elements.{All-cons, All-nil}
use Rattle.bound_cert.specs.declared.reading_lines.Due.TheVariants as due
use Rattle.dual_bound.specs.declared.nodes.Node.TheVariants as node
use Rattle.dual_bound.specs.declared.trees.Tree.TheVariants as tree
use Rattle.proof_lines.specs.declared.line.Line.TheVariants as says

-- lines go on to such that read
record Begun {A : Type 0} (f : Left → Reading A) (p : Left) : Type 0 where
  more : Left
  value : A
  reads : f (p ++ more) ≡ Ok value
  some : 0 < length more

module _ (v : Version) (t : Tables) (line : List ℕ) (after : Left) where
  abbrev end : Left
  end = line ∷ after

  err_then : {A B : Type 0} (r : Reading A) (f : A → B) (e : Stopped) → (r >>= λ x. Ok (f x)) ≡ Err e → r ≡ Err e
  err_then (Ok x) f e failed = absurd (cc failed)
  err_then (Err d) f e failed = let one : d ≡ e = cc failed in ap Err one

  record EndBegun (rest : Left) : Type 0 where
    more : Left
    reads : end_at (names v t) (rest ++ more) ≡ Ok tt
    some : 0 < length more
    may : MayAt IsBehind rest more

  end_begun : (rest : Left) (e : Stopped) → end_at (names v t) (rest ++ end) ≡ Err e → e.left ≡ length end → EndBegun rest
  unfolding end_at nothing
  end_begun [] e failed there = record { more = (last t); reads = end_read v t; some = omega arith; may = last_is t }
  end_begun (x ∷ p) e failed there = by_line p (line_due (names v t) due.End (x ∷ (p ++ end))) refl failed
    where
      by_line : (p : Left) (r : Reading Line) → line_due (names v t) due.End (x ∷ (p ++ end)) ≡ r → (r >>= λ it. nothing (p ++ end)) ≡ Err e → EndBegun (x ∷ p)
      by_line p (Err d) is failed = not_there x p end (line_due (names v t) due.End (x ∷ (p ++ end))) d (line_twin (names v t) due.End (x ∷ (p ++ end)) (x ∷ (p ++ end)) (alike_self (x ∷ (p ++ end)))) is (ap (λ s. s.left) (err_same d e failed) ∙ there)
      by_line [] (Ok it) is failed = record {
        more = [] ∷ [];
        reads = bound (line_due (names v t) due.End (x ∷ [] ∷ [])) it _
            (value_of (x ∷ end) (x ∷ [] ∷ []) (line_due (names v t) due.End (x ∷ end)) (line_due (names v t) due.End (x ∷ [] ∷ [])) it (line_twin (names v t) due.End (x ∷ end) (x ∷ [] ∷ []) (alike_after x line [] after ([] ∷ []) (omega arith))) is);
        some = omega arith;
        may = tt;
      }
      by_line (y ∷ []) (Ok it) is failed =
          let one : record { left = length (y ∷ end); kind = _ } ≡ e = err_same _ e failed in
          absurd (omega (arith, ap (λ s. s.left) one, there))
      by_line (y ∷ z ∷ p) (Ok it) is failed =
          let one : record { left = length (y ∷ z ∷ (p ++ end)); kind = _ } ≡ e = err_same _ e failed in
          absurd (omega (arith, ap (λ s. s.left) one, there, length-append p end))

  tree_begun : (p : Left) → count_by is_inner_line p ≤ MAX_DEPTH → (e : Stopped) → tree_at (names v t) (p ++ end) ≡ Err e → e.left ≡ length end → Begun (tree_at (names v t)) p
  unfolding tree_at
  tree_begun p few e failed there = by_nodes (nodes_from (names v t) (length (p ++ end)) [] [] (p ++ end)) (nodes_go v t line after (length (p ++ end)) [] [] p (omega arith) (omega (arith, few))) failed
    where
      by_nodes : (r : Reading (List Node × Left)) → EndsNodes v t line after [] [] p r → (r >>= λ read. end_at (names v t) read.1 >>= λ ended. Ok read.0) ≡ Err e → Begun (tree_at (names v t)) p
      by_nodes (Err d) ends failed =
          let done = ends (ap (λ s. s.left) (err_same d e failed) ∙ there) in
          record {
            more = done.more ++ (last t);
            value = done.value;
            reads = bound (nodes_from (names v t) (length (p ++ (done.more ++ (last t)))) [] [] (p ++ (done.more ++ (last t)))) (done.value, (last t)) _ (done.reads (last t) (length (p ++ (done.more ++ (last t)))) (last_is t) (omega arith))
                ∙ bound (end_at (names v t) (last t)) tt _ (end_read v t);
            some = some_more done.more (last t) (omega arith);
          }
      by_nodes (Ok read) (inr short) failed =
          let small : e.left ≤ length read.1 = subst (Stops (length read.1)) failed (stops_then (length read.1) (end_at (names v t) read.1) (λ ended. read.0) (end_stops v t read.1)) in
          absurd (omega (arith, small, short, there))
      by_nodes (Ok read) (inl stays) failed =
          let last_one = end_begun stays.rest e (ap (end_at (names v t)) (sym stays.left_is) ∙ err_then (end_at (names v t) read.1) (λ ended. read.0) e failed) there in
          record {
            more = last_one.more;
            value = read.0;
            reads = bound (nodes_from (names v t) (length (p ++ last_one.more)) [] [] (p ++ last_one.more)) (read.0, stays.rest ++ last_one.more) _
                (stays.stays last_one.more (length (p ++ last_one.more)) last_one.some last_one.may (omega arith))
                ∙ bound (end_at (names v t) (stays.rest ++ last_one.more)) tt _ last_one.reads;
            some = last_one.some;
          }

  sole_tree : tree_at (names v t) (line_bytes t says.Sole ∷ (last t)) ≡ Ok (node.Sole ∷ [])
  sole_tree = whole_read v t tree.Sole (All-cons (IsNodeIn v) node.Sole [] tt (All-nil (IsNodeIn v))) (All-cons (IsNodeInOrder t) node.Sole [] tt (All-nil (IsNodeInOrder t))) (omega arith)

  sole_rest : rest_at (names v t) (line_bytes t (says.Plan false) ∷ line_bytes t says.Sole ∷ (last t)) ≡ Ok (false, node.Sole ∷ [])
  unfolding rest_at
  sole_rest = bound (plan_at (names v t) (line_bytes t (says.Plan false) ∷ line_bytes t says.Sole ∷ (last t))) false _ (plan_read v t false (line_bytes t says.Sole ∷ (last t)) (omega arith)) ∙ bound (tree_at (names v t) (line_bytes t says.Sole ∷ (last t))) (node.Sole ∷ []) _ sole_tree

  abbrev with_plan : Left → Bool → Reading (Bool × List Node)
  with_plan rest planned = tree_at (names v t) rest >>= λ nodes. Ok (planned, nodes)

  rest_begun : (p : Left) → count_by is_inner_line p ≤ MAX_DEPTH → (e : Stopped) → rest_at (names v t) (p ++ end) ≡ Err e → e.left ≡ length end → Begun (rest_at (names v t)) p
  unfolding rest_at
  rest_begun [] few e failed there = record {
    more = line_bytes t (says.Plan false) ∷ line_bytes t says.Sole ∷ (last t);
    value = (false, node.Sole ∷ []);
    reads = sole_rest;
    some = omega arith;
  }
  rest_begun (x ∷ p) few e failed there = by_plan (plan_at (names v t) (x ∷ (p ++ end))) refl failed
    where
      by_plan : (r : Reading Bool) → plan_at (names v t) (x ∷ (p ++ end)) ≡ r → (r >>= with_plan (p ++ end)) ≡ Err e → Begun (rest_at (names v t)) (x ∷ p)
      by_plan (Err d) is failed = not_there x p end (plan_at (names v t) (x ∷ (p ++ end))) d (plan_twin v t (x ∷ (p ++ end)) (x ∷ (p ++ end)) (alike_self (x ∷ (p ++ end)))) is (ap (λ s. s.left) (err_same d e failed) ∙ there)
      by_plan (Ok planned) is failed =
          let done = tree_begun p (omega (arith, few, count_cons v t x p)) e (err_then (tree_at (names v t) (p ++ end)) (λ nodes. (planned, nodes)) e failed) there in
          record {
            more = done.more;
            value = (planned, done.value);
            reads = bound (plan_at (names v t) (x ∷ (p ++ done.more))) planned _
                (value_of (x ∷ (p ++ end)) (x ∷ (p ++ done.more)) (plan_at (names v t) (x ∷ (p ++ end))) (plan_at (names v t) (x ∷ (p ++ done.more))) planned (plan_twin v t (x ∷ (p ++ end)) (x ∷ (p ++ done.more)) (alike_after x line p after done.more done.some)) is)
                ∙ bound (tree_at (names v t) (p ++ done.more)) done.value _ done.reads;
            some = done.some;
          }

module _ (t : Tables) (line : List ℕ) (after : Left) where
  -- all of a text, which may begin as one of the version that is written
  all_begun : (p : Left) → count_by is_inner_line p ≤ MAX_DEPTH → (e : Stopped) → proof_at t (p ++ line ∷ after) ≡ Err e → e.left ≡ length (line ∷ after) → Begun (proof_at t) p
  unfolding proof_at
  all_begun [] few e failed there = record {
    more = line_bytes t (says.Head (written_version t.windows)) ∷ line_bytes t (says.Plan false) ∷ line_bytes t says.Sole ∷ (last t);
    value = (false, node.Sole ∷ []);
    reads = bound (head_is t.windows (line_bytes t (says.Head (written_version t.windows)) ∷ line_bytes t (says.Plan false) ∷ line_bytes t says.Sole ∷ (last t))) (written_version t.windows) _ (head_read (written_version t.windows) t t.windows (line_bytes t (says.Plan false)) (line_bytes t says.Sole ∷ (last t)) (written_shifts t.windows))
        ∙ sole_rest (written_version t.windows) t line after;
    some = omega arith;
  }
  all_begun (x ∷ p) few e failed there = by_head (head_is t.windows (x ∷ (p ++ line ∷ after))) refl failed
    where
      by_head : (r : Reading Version) → head_is t.windows (x ∷ (p ++ line ∷ after)) ≡ r → (r >>= λ version. rest_at (names_in version t) (p ++ line ∷ after)) ≡ Err e → Begun (proof_at t) (x ∷ p)
      by_head (Err d) is failed = not_there x p (line ∷ after) (head_is t.windows (x ∷ (p ++ line ∷ after))) d (headed_twin t.windows (x ∷ (p ++ line ∷ after)) (x ∷ (p ++ line ∷ after)) (alike_self (x ∷ (p ++ line ∷ after)))) is (ap (λ s. s.left) (err_same d e failed) ∙ there)
      by_head (Ok v) is failed =
          let done = rest_begun v t line after p (omega (arith, few, count_cons v t x p)) e failed there in
          record {
            more = done.more;
            value = done.value;
            reads = bound (head_is t.windows (x ∷ (p ++ done.more))) v _
                (value_of (x ∷ (p ++ line ∷ after)) (x ∷ (p ++ done.more)) (head_is t.windows (x ∷ (p ++ line ∷ after))) (head_is t.windows (x ∷ (p ++ done.more))) v (headed_twin t.windows (x ∷ (p ++ line ∷ after)) (x ∷ (p ++ done.more)) (alike_after x line p after done.more done.some)) is)
                ∙ done.reads;
            some = done.some;
          }

pub lines_before_begin_proof : LinesBeforeBeginProof
lines_before_begin_proof t before after line fault here few is =
    let within : is.left ≤ length (before ++ line ∷ after) = subst (Stops (length (before ++ line ∷ after))) is.stops (proof_stops t (before ++ line ∷ after)) in
    let there : is.left ≡ length (line ∷ after) = omega (arith, within, is.line, here, length-append before (line ∷ after)) in
    let done = all_begun t line after before few (record { left = is.left; kind = fault.kind }) is.stops there in
    record { more = done.more; planned = done.value.0; nodes = done.value.1; reads = done.reads }
