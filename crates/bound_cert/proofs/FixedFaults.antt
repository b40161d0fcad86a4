-- The first fault of a text rests on the lines up to its own, and behind a step of 0 at minute 0 on the next one.
use Rattle.bound_cert.proofs.LineTwins.{Alike, Twin, alike_first, charge_twin, head_twin, line_twin, mixed_scale_twin, plan_twin, rent_twin, scale_twin, step_twin, weight_twin}
use Rattle.bound_cert.proofs.Shrinking.{Shrinks, Stops, body_shrinks, charges_shrink, end_stops, headed_twin, mixed_shrinks, node_takes, nodes_shrink, nothing_stops, proof_stops, rents_shrink, rest_stops, shrinks_bind, shrinks_if, steps_shrink, stops_then, tree_stops, weights_shrink}
use Rattle.bound_cert.proofs.WrittenLines.{names}
use Rattle.bound_cert.specs.FirstFault.{FirstFaultIsFixed, is_zero_step}
use Rattle.bound_cert.specs.Lines.{◌>>=◌, Left, Reading, fits, line_due, stopped}
use Rattle.bound_cert.specs.Nodes.{Above, after_node, end_at, head_is, nodes_from, nothing, plan_at, proof_at, rest_at, tree_at}
use Rattle.bound_cert.specs.Reading.{Series, body_at, charge_series, charges_from, entries_from, entry_said, first_words, head_at, mixed_said, mixed_scale_at, node_said, prices_said, rent_series, rents_from, scale_at, step_series, steps_from, weight_series, weights_from}
use Rattle.bound_cert.specs.declared.nodes.Head.{Head}
use Rattle.dual_bound.specs.declared.mixed.Weight.{Weight}
use Rattle.dual_bound.specs.declared.nodes.Node.{Node}
use Rattle.dual_bound.specs.declared.prices.Charge.{Charge}
use Rattle.dual_bound.specs.declared.prices.PriceStep.{PriceStep}
use Rattle.fleet_model.specs.declared.tables.Tables.{Tables}
use Rattle.proof_lines.specs.Forms.{form_in}
use Rattle.proof_lines.specs.Known.{names_in}
use Rattle.proof_lines.specs.Words.{words_of}
use Rattle.proof_lines.specs.declared.line.Version.{Version}
use Rattle.std.proofs.Common.{[], ◌++◌, ◌<◌, ◌==◌, ◌∙◌, ◌∷◌, ◌≡◌, ◌≤◌, ◌⊎◌, Bool, Err, List, None, Ok, Option, ap, arith, cond, drop, false, inl, inr, length, length-append, refl, subst, suc, sym, true, zero, ℕ, ℤ}
use Rattle.std.specs.Prelude.{⊤}
use Rattle.bound_cert.specs.declared.nodes.Head.TheVariants as head
use Rattle.bound_cert.specs.declared.reading_lines.Due.TheVariants as due

-- what is read before the line is read of both; what stops at it stops both, for one reason; else the line is passed
record Ahead {A : Type 0} (end other_end : Left) (read : A × Left) (other : Reading (A × Left)) : Type 0 where
  before : Left
  left_is : read.1 ≡ before ++ end
  other_is : other ≡ Ok (read.0, before ++ other_end)

abbrev Follows : {A : Type 0} → Left → Left → Reading (A × Left) → Reading (A × Left) → Type 0
Follows end other_end (Ok read) other = Ahead end other_end read other ⊎ (length read.1 < length end)
Follows end other_end (Err e) other = e.left ≡ length end → other ≡ stopped other_end e.kind

-- the same where nothing is left to be told
abbrev Ends : {A : Type 0} → Left → Left → Reading A → Reading A → Type 0
Ends end other_end (Ok read) other = ⊤
Ends end other_end (Err e) other = e.left ≡ length end → other ≡ stopped other_end e.kind

at_end : (p end other_end : Left) → length (p ++ end) ≡ length end → length (p ++ other_end) ≡ length other_end
at_end p end other_end e = omega (arith, e, length-append p end, length-append p other_end)

module _ (end other_end : Left) where
  follows_line : {A B : Type 0} (p : Left) (r s : Reading A) (f g : A → Reading (B × Left)) → Twin (p ++ end) (p ++ other_end) r s → ((x : A) → Follows end other_end (f x) (g x)) → Follows end other_end (r >>= f) (s >>= g)
  follows_line p (Ok x) s f g twin on = subst (λ s. Follows end other_end (f x) (s >>= g)) (sym twin) (on x)
  follows_line p (Err e) s f g twin on = λ there.
      ap (λ s. s >>= g) twin.1 ∙ ap (λ n. Err (record { left = n; kind = e.kind })) (at_end p end other_end (sym twin.0 ∙ there))

  ends_line : {A B : Type 0} (p : Left) (r s : Reading A) (f g : A → Reading B) → Twin (p ++ end) (p ++ other_end) r s → ((x : A) → Ends end other_end (f x) (g x)) → Ends end other_end (r >>= f) (s >>= g)
  ends_line p (Ok x) s f g twin on = subst (λ s. Ends end other_end (f x) (s >>= g)) (sym twin) (on x)
  ends_line p (Err e) s f g twin on = λ there.
      ap (λ s. s >>= g) twin.1 ∙ ap (λ n. Err (record { left = n; kind = e.kind })) (at_end p end other_end (sym twin.0 ∙ there))

  passed : {A : Type 0} (n : ℕ) (r s : Reading (A × Left)) → Shrinks n r → n < length end → Follows end other_end r s
  passed n (Ok read) s is short = inr (omega (arith, is, short))
  passed n (Err e) s is short = λ there. absurd (omega (arith, is, short, there))

  follows_bind : {A B : Type 0} (r s : Reading (A × Left)) (f : A × Left → Reading (B × Left)) → Follows end other_end r s
      → ((x : A) (p : Left) → Follows end other_end (f (x, p ++ end)) (f (x, p ++ other_end))) → ((x : A) (a : Left) → Shrinks (length a) (f (x, a))) → Follows end other_end (r >>= f) (s >>= f)
  follows_bind (Ok read) s f (inl ahead) on shrinks =
      subst (λ s. Follows end other_end (f read) (s >>= f)) (sym ahead.other_is)
      (subst (λ a. Follows end other_end (f (read.0, a)) (f (read.0, ahead.before ++ other_end))) (sym ahead.left_is) (on read.0 ahead.before))
  follows_bind (Ok read) s f (inr short) on shrinks = passed (length read.1) (f read) (s >>= f) (shrinks read.0 read.1) short
  follows_bind (Err e) s f follows on shrinks = λ there. ap (λ s. s >>= f) (follows there)

  follows_if : {A : Type 0} (c : Bool) (x y x' y' : Reading (A × Left)) → Follows end other_end x x' → Follows end other_end y y' → Follows end other_end (cond c x y) (cond c x' y')
  follows_if true x y x' y' first second = first
  follows_if false x y x' y' first second = second

  same_end : {A : Type 0} (x : A) (p : Left) → Follows end other_end (Ok (x, p ++ end)) (Ok (x, p ++ other_end))
  same_end x p = inl (record { before = p; left_is = refl; other_is = refl })

module _ (end other_end : Left) where
  ends_then : {A B : Type 0} (r s : Reading A) (f : A → B) → Ends end other_end r s → Ends end other_end (r >>= λ x. Ok (f x)) (s >>= λ x. Ok (f x))
  ends_then (Ok x) s f ends = tt
  ends_then (Err e) s f ends = λ there. ap (λ s. s >>= λ x. Ok (f x)) (ends there)

  over : {A : Type 0} (n : ℕ) (r s : Reading A) → Stops n r → n < length end → Ends end other_end r s
  over n (Ok x) s is short = tt
  over n (Err e) s is short = λ there. absurd (omega (arith, is, short, there))

  ends_bind : {A B : Type 0} (r s : Reading (A × Left)) (f : A × Left → Reading B) → Follows end other_end r s
      → ((x : A) (p : Left) → Ends end other_end (f (x, p ++ end)) (f (x, p ++ other_end))) → ((x : A) (a : Left) → Stops (length a) (f (x, a))) → Ends end other_end (r >>= f) (s >>= f)
  ends_bind (Ok read) s f (inl ahead) on stops =
      subst (λ s. Ends end other_end (f read) (s >>= f)) (sym ahead.other_is)
      (subst (λ a. Ends end other_end (f (read.0, a)) (f (read.0, ahead.before ++ other_end))) (sym ahead.left_is) (on read.0 ahead.before))
  ends_bind (Ok read) s f (inr short) on stops = over (length read.1) (f read) (s >>= f) (stops read.0 read.1) short
  ends_bind (Err e) s f follows on stops = λ there. ap (λ s. s >>= f) (follows there)

alike_before : (line next other : List ℕ) (rest others p : Left) → Alike (p ++ line ∷ next ∷ rest) (p ++ line ∷ other ∷ others)
alike_before line next other rest others [] = alike_first line next other rest others
alike_before line next other rest others (x ∷ []) = alike_first x line line (next ∷ rest) (other ∷ others)
alike_before line next other rest others (x ∷ y ∷ p) = alike_first x y y (p ++ line ∷ next ∷ rest) (p ++ line ∷ other ∷ others)

module _ (v : Version) (t : Tables) (line next other : List ℕ) (rest others : Left) (look : is_zero_step (words_of line) ≡ true → next ≡ other) where
  abbrev end : Left
  end = line ∷ next ∷ rest

  abbrev other_end : Left
  other_end = line ∷ other ∷ others

  alike : (p : Left) → Alike (p ++ end) (p ++ other_end)
  alike p = alike_before line next other rest others p

  looks : (p : Left) → is_zero_step (first_words (p ++ end)) ≡ true → first_words (drop 1 (p ++ end)) ≡ first_words (drop 1 (p ++ other_end))
  looks [] is = ap words_of (look is)
  looks (x ∷ []) is = refl
  looks (x ∷ y ∷ p) is = refl

  -- behind the first line, where what goes on there is known
  follows_behind : {A : Type 0} (h : Left → Reading (A × Left)) (p : Left) → ((q : Left) → Follows end other_end (h (q ++ end)) (h (q ++ other_end))) → ((a : Left) → Shrinks (length a) (h a))
      → Follows end other_end (h (drop 1 (p ++ end))) (h (drop 1 (p ++ other_end)))
  follows_behind h [] on shrinks = passed end other_end (length (next ∷ rest)) (h (next ∷ rest)) (h (other ∷ others)) (shrinks (next ∷ rest)) (omega arith)
  follows_behind h (x ∷ p) on shrinks = on p

  entries_follow : {S A B : Type 0} (s : Series S A B) → ((so_far : S) (p : Left) → Twin (p ++ end) (p ++ other_end) (entry_said s so_far (p ++ end)) (entry_said s so_far (p ++ other_end)))
      → ((so_far : S) (a : Left) → Shrinks (length a) (entries_from s so_far a)) → (so_far : S) (p : Left) → Follows end other_end (entries_from s so_far (p ++ end)) (entries_from s so_far (p ++ other_end))
  unfolding entries_from
  entries_follow s twin shrinks so_far [] =
      follows_if end other_end (fits s.kind (form_in s.names.version (words_of line))) _ _ _ _
      (follows_line end other_end [] (entry_said s so_far end) (entry_said s so_far other_end) _ _ (twin so_far [])
      (λ entry. passed end other_end (length (next ∷ rest)) _ _ (shrinks (s.grow so_far entry) (next ∷ rest)) (omega arith)))
      (same_end end other_end _ [])
  entries_follow s twin shrinks so_far (x ∷ p) =
      follows_if end other_end (fits s.kind (form_in s.names.version (words_of x))) _ _ _ _
      (follows_line end other_end (x ∷ p) (entry_said s so_far (x ∷ (p ++ end))) (entry_said s so_far (x ∷ (p ++ other_end))) _ _ (twin so_far (x ∷ p))
      (λ entry. entries_follow s twin shrinks (s.grow so_far entry) p))
      (same_end end other_end _ (x ∷ p))

  rents_follow : (rents : List ℤ) (p : Left) → Follows end other_end (rents_from (names v t) rents (p ++ end)) (rents_from (names v t) rents (p ++ other_end))
  rents_follow = entries_follow (rent_series (names v t)) (λ rents p. rent_twin v t (p ++ end) (p ++ other_end) (alike p) (length rents)) (rents_shrink v t)

  charges_follow : (charges : List Charge) (before : Option Charge) (p : Left) → Follows end other_end (charges_from (names v t) charges before (p ++ end)) (charges_from (names v t) charges before (p ++ other_end))
  charges_follow charges before =
      entries_follow (charge_series (names v t)) (λ so_far p. charge_twin v t (p ++ end) (p ++ other_end) (alike p) so_far.1) (λ so_far. charges_shrink v t so_far.0 so_far.1) (charges, before)

  steps_follow : (steps : List PriceStep) (before : Option PriceStep) (p : Left) → Follows end other_end (steps_from (names v t) steps before (p ++ end)) (steps_from (names v t) steps before (p ++ other_end))
  steps_follow steps before =
      entries_follow (step_series (names v t)) (λ so_far p. step_twin v t (p ++ end) (p ++ other_end) (alike p) so_far.1 (looks p)) (λ so_far. steps_shrink v t so_far.0 so_far.1) (steps, before)

  weights_follow : (weights : List Weight) (before : Option Weight) (p : Left) → Follows end other_end (weights_from (names v t) weights before (p ++ end)) (weights_from (names v t) weights before (p ++ other_end))
  weights_follow weights before =
      entries_follow (weight_series (names v t)) (λ so_far p. weight_twin v t (p ++ end) (p ++ other_end) (alike p) so_far.1) (λ so_far. weights_shrink v t so_far.0 so_far.1) (weights, before)

  prices_follow : (p : Left) → Follows end other_end (prices_said (names v t) (p ++ end)) (prices_said (names v t) (p ++ other_end))
  unfolding prices_said
  prices_follow p =
      follows_line end other_end p (scale_at (names v t) (p ++ end)) (scale_at (names v t) (p ++ other_end)) _ _ (scale_twin v t (p ++ end) (p ++ other_end) (alike p)) (λ scale.
      follows_bind end other_end (rents_from (names v t) [] (drop 1 (p ++ end))) (rents_from (names v t) [] (drop 1 (p ++ other_end))) _ (follows_behind (rents_from (names v t) []) p (rents_follow []) (rents_shrink v t []))
      (λ rents q. follows_bind end other_end (charges_from (names v t) [] None (q ++ end)) (charges_from (names v t) [] None (q ++ other_end)) _ (charges_follow [] None q)
      (λ charges o. follows_bind end other_end (steps_from (names v t) [] None (o ++ end)) (steps_from (names v t) [] None (o ++ other_end)) _ (steps_follow [] None o) (λ steps. same_end end other_end _) (λ steps a. omega arith))
      (λ charges a. shrinks_bind (length a) (steps_from (names v t) [] None a) _ (steps_shrink v t [] None a) (λ steps b. omega arith)))
      (λ rents a. shrinks_bind (length a) (charges_from (names v t) [] None a) _ (charges_shrink v t [] None a) (λ charges b.
      shrinks_bind (length b) (steps_from (names v t) [] None b) _ (steps_shrink v t [] None b) (λ steps c. omega arith))))

  mixed_follows : (p : Left) → Follows end other_end (mixed_said (names v t) (p ++ end)) (mixed_said (names v t) (p ++ other_end))
  unfolding mixed_said
  mixed_follows p =
      follows_line end other_end p (mixed_scale_at (names v t) (p ++ end)) (mixed_scale_at (names v t) (p ++ other_end)) _ _ (mixed_scale_twin v t (p ++ end) (p ++ other_end) (alike p)) (λ scale.
      follows_bind end other_end (weights_from (names v t) [] None (drop 1 (p ++ end))) (weights_from (names v t) [] None (drop 1 (p ++ other_end))) _ (follows_behind (weights_from (names v t) [] None) p (weights_follow [] None) (weights_shrink v t [] None))
      (λ weights. same_end end other_end _) (λ weights a. omega arith))

  body_follows : (h : Head) (p : Left) → Follows end other_end (body_at (names v t) h (p ++ end)) (body_at (names v t) h (p ++ other_end))
  unfolding body_at
  body_follows (head.Alone h) p = same_end end other_end _ p
  body_follows (head.Priced h) p = follows_bind end other_end (prices_said (names v t) (p ++ end)) (prices_said (names v t) (p ++ other_end)) _ (prices_follow p) (λ prices. same_end end other_end _) (λ prices a. omega arith)
  body_follows (head.Mixed h) p =
      follows_bind end other_end (prices_said (names v t) (p ++ end)) (prices_said (names v t) (p ++ other_end)) _ (prices_follow p)
      (λ prices q. follows_bind end other_end (mixed_said (names v t) (q ++ end)) (mixed_said (names v t) (q ++ other_end)) _ (mixed_follows q) (λ mixed. same_end end other_end _) (λ mixed a. omega arith))
      (λ prices a. shrinks_bind (length a) (mixed_said (names v t) a) _ (mixed_shrinks v t a) (λ mixed b. omega arith))

  node_follows : (above : ℕ) (p : Left) → Follows end other_end (node_said (names v t) above (p ++ end)) (node_said (names v t) above (p ++ other_end))
  unfolding node_said
  node_follows above p =
      follows_line end other_end p (head_at (names v t) above (p ++ end)) (head_at (names v t) above (p ++ other_end)) _ _ (head_twin v t (p ++ end) (p ++ other_end) (alike p) above) (λ h.
      follows_behind (body_at (names v t) h) p (body_follows h) (body_shrinks v t h))

  node_then : (m k : ℕ) (nodes : List Node) (above : Above) (p : Left)
      → ((n : Node) (q : Left) → length q < length p → Follows end other_end (nodes_from (names v t) m (nodes ++ n ∷ []) (after_node n above) (q ++ end)) (nodes_from (names v t) k (nodes ++ n ∷ []) (after_node n above) (q ++ other_end)))
      → (r s : Reading (Node × Left)) → node_said (names v t) (length above) (p ++ end) ≡ r → Follows end other_end r s
      → Follows end other_end
      (r >>= λ read. cond (length (after_node read.0 above) == 0) (Ok (nodes ++ read.0 ∷ [], read.1)) (nodes_from (names v t) m (nodes ++ read.0 ∷ []) (after_node read.0 above) read.1))
      (s >>= λ read. cond (length (after_node read.0 above) == 0) (Ok (nodes ++ read.0 ∷ [], read.1)) (nodes_from (names v t) k (nodes ++ read.0 ∷ []) (after_node read.0 above) read.1))
  node_then m k nodes above p on (Ok read) s e (inl ahead) =
      let taken = node_takes v t (length above) (p ++ end) read e in
      let shorter : length ahead.before < length p = omega (arith, taken, ap length ahead.left_is, length-append ahead.before end, length-append p end) in
      subst (λ s. Follows end other_end (f m read) (s >>= f k)) (sym ahead.other_is)
      (subst (λ a. Follows end other_end (f m (read.0, a)) (f k (read.0, ahead.before ++ other_end))) (sym ahead.left_is)
      (follows_if end other_end (length (after_node read.0 above) == 0) _ _ _ _ (same_end end other_end _ ahead.before) (on read.0 ahead.before shorter)))
    where
      f : ℕ → Node × Left → Reading (List Node × Left)
      f n read = cond (length (after_node read.0 above) == 0) (Ok (nodes ++ read.0 ∷ [], read.1)) (nodes_from (names v t) n (nodes ++ read.0 ∷ []) (after_node read.0 above) read.1)
  node_then m k nodes above p on (Ok read) s e (inr short) =
      passed end other_end (length read.1) _ _
      (shrinks_if (length read.1) (length (after_node read.0 above) == 0) _ _ (omega arith) (nodes_shrink v t m (nodes ++ read.0 ∷ []) (after_node read.0 above) read.1)) short
  node_then m k nodes above p on (Err e) s same follows = λ there.
      ap (λ s. s >>= λ read. cond (length (after_node read.0 above) == 0) (Ok (nodes ++ read.0 ∷ [], read.1)) (nodes_from (names v t) k (nodes ++ read.0 ∷ []) (after_node read.0 above) read.1)) (follows there)

  nodes_follow : (m k : ℕ) (nodes : List Node) (above : Above) (p : Left) → length (p ++ end) ≤ m → length (p ++ other_end) ≤ k
      → Follows end other_end (nodes_from (names v t) m nodes above (p ++ end)) (nodes_from (names v t) k nodes above (p ++ other_end))
  unfolding nodes_from
  nodes_follow zero k nodes above p few other_few = absurd (omega (arith, few, length-append p end))
  nodes_follow (suc m) zero nodes above p few other_few = absurd (omega (arith, other_few, length-append p other_end))
  nodes_follow (suc m) (suc k) nodes above p few other_few =
      node_then m k nodes above p
      (λ n q shorter.
      nodes_follow m k (nodes ++ n ∷ []) (after_node n above) q (omega (arith, few, shorter, length-append p end, length-append q end)) (omega (arith, other_few, shorter, length-append p other_end, length-append q other_end)))
      (node_said (names v t) (length above) (p ++ end)) (node_said (names v t) (length above) (p ++ other_end)) refl (node_follows (length above) p)

  -- ---- the end of a text, and all of it
  nothing_ends : (p : Left) → Ends end other_end (nothing (p ++ end)) (nothing (p ++ other_end))
  unfolding nothing
  nothing_ends [] = λ there. refl
  nothing_ends (x ∷ []) = λ there. absurd (omega (arith, there))
  nothing_ends (x ∷ y ∷ p) = λ there. absurd (omega (arith, there, length-append p end))

  end_ends : (p : Left) → Ends end other_end (end_at (names v t) (p ++ end)) (end_at (names v t) (p ++ other_end))
  unfolding end_at
  end_ends p = ends_line end other_end p (line_due (names v t) due.End (p ++ end)) (line_due (names v t) due.End (p ++ other_end)) _ _ (line_twin (names v t) due.End (p ++ end) (p ++ other_end) (alike p)) (λ words. behind p)
    where
      behind : (p : Left) → Ends end other_end (nothing (drop 1 (p ++ end))) (nothing (drop 1 (p ++ other_end)))
      behind [] = over end other_end (length (next ∷ rest)) (nothing (next ∷ rest)) (nothing (other ∷ others)) (nothing_stops (next ∷ rest)) (omega arith)
      behind (x ∷ p) = nothing_ends p

  tree_ends : (p : Left) → Ends end other_end (tree_at (names v t) (p ++ end)) (tree_at (names v t) (p ++ other_end))
  unfolding tree_at
  tree_ends p =
      ends_bind end other_end (nodes_from (names v t) (length (p ++ end)) [] [] (p ++ end)) (nodes_from (names v t) (length (p ++ other_end)) [] [] (p ++ other_end)) _
      (nodes_follow (length (p ++ end)) (length (p ++ other_end)) [] [] p (omega arith) (omega arith))
      (λ nodes q. ends_then end other_end (end_at (names v t) (q ++ end)) (end_at (names v t) (q ++ other_end)) (λ ended. nodes) (end_ends q))
      (λ nodes a. stops_then (length a) (end_at (names v t) a) (λ ended. nodes) (end_stops v t a))

  rest_ends : (p : Left) → Ends end other_end (rest_at (names v t) (p ++ end)) (rest_at (names v t) (p ++ other_end))
  unfolding rest_at
  rest_ends p = ends_line end other_end p (plan_at (names v t) (p ++ end)) (plan_at (names v t) (p ++ other_end)) _ _ (plan_twin v t (p ++ end) (p ++ other_end) (alike p)) (λ planned. behind planned p)
    where
      behind : (planned : Bool) (p : Left) → Ends {A = Bool × List Node} end other_end (tree_at (names v t) (drop 1 (p ++ end)) >>= λ nodes. Ok (planned, nodes)) (tree_at (names v t) (drop 1 (p ++ other_end)) >>= λ nodes. Ok (planned, nodes))
      behind planned [] =
          over end other_end (length (next ∷ rest)) _ _ (stops_then (length (next ∷ rest)) (tree_at (names v t) (next ∷ rest)) (λ nodes. (planned, nodes)) (tree_stops v t (next ∷ rest))) (omega arith)
      behind planned (x ∷ p) = ends_then end other_end (tree_at (names v t) (p ++ end)) (tree_at (names v t) (p ++ other_end)) (λ nodes. (planned, nodes)) (tree_ends p)

module _ (t : Tables) (line next other : List ℕ) (rest others : Left) (look : is_zero_step (words_of line) ≡ true → next ≡ other) where
  all_ends : (p : Left) → Ends (line ∷ next ∷ rest) (line ∷ other ∷ others) (proof_at t (p ++ line ∷ next ∷ rest)) (proof_at t (p ++ line ∷ other ∷ others))
  unfolding proof_at
  all_ends p =
      let end : Left = line ∷ next ∷ rest in
      let other_end : Left = line ∷ other ∷ others in
      ends_line end other_end p (head_is t.windows (p ++ end)) (head_is t.windows (p ++ other_end)) _ _ (headed_twin t.windows (p ++ end) (p ++ other_end) (alike_before line next other rest others p)) (λ version. behind version p)
    where
      behind : (version : Version) (p : Left) → Ends (line ∷ next ∷ rest) (line ∷ other ∷ others) (rest_at (names_in version t) (drop 1 (p ++ line ∷ next ∷ rest))) (rest_at (names_in version t) (drop 1 (p ++ line ∷ other ∷ others)))
      behind version [] = over (line ∷ next ∷ rest) (line ∷ other ∷ others) (length (next ∷ rest)) _ _ (rest_stops version t (next ∷ rest)) (omega arith)
      behind version (x ∷ p) = rest_ends version t line next other rest others look p

pub first_fault_is_fixed : FirstFaultIsFixed
first_fault_is_fixed t before line next other rest others fault look here is =
    let end : Left = line ∷ next ∷ rest in
    let other_end : Left = line ∷ other ∷ others in
    let within : is.left ≤ length (before ++ end) = subst (Stops (length (before ++ end))) is.stops (proof_stops t (before ++ end)) in
    let left_is : is.left ≡ length end = omega (arith, within, is.line, here, length-append before end) in
    let ends : is.left ≡ length end → proof_at t (before ++ other_end) ≡ stopped other_end fault.kind =
    subst (λ r. Ends end other_end r (proof_at t (before ++ other_end))) is.stops (all_ends t line next other rest others look before) in
    record { left = length other_end; stops = ends left_is; line = omega (arith, here, length-append before other_end) }
