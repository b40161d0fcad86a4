-- What reading leaves, and where it stops, is no more than there was.
use Rattle.bound_cert.proofs.LineTwins.{Alike, Twin, alike_self, charge_twin, head_twin, line_twin, mixed_scale_twin, plan_twin, rent_twin, scale_twin, step_twin, weight_twin}
use Rattle.bound_cert.proofs.ReadBack.{goes}
use Rattle.bound_cert.proofs.WrittenLines.{names}
use Rattle.bound_cert.specs.Lines.{◌>>=◌, Left, Reading, fits, line_due, stopped}
use Rattle.bound_cert.specs.Nodes.{Above, after_node, end_at, head_is, headed, nodes_from, nothing, plan_at, proof_at, rest_at, tree_at, version_of}
use Rattle.bound_cert.specs.Reading.{Series, body_at, charge_series, charges_from, entries_from, entry_said, head_at, mixed_said, mixed_scale_at, node_said, prices_said, rent_series, rents_from, scale_at, step_series, steps_from, weight_series, weights_from}
use Rattle.bound_cert.specs.declared.faults.TheConstants.{BAD_LINE}
use Rattle.bound_cert.specs.declared.nodes.Head.{Head}
use Rattle.dual_bound.specs.declared.mixed.Weight.{Weight}
use Rattle.dual_bound.specs.declared.nodes.Node.{Node}
use Rattle.dual_bound.specs.declared.prices.Charge.{Charge}
use Rattle.dual_bound.specs.declared.prices.PriceStep.{PriceStep}
use Rattle.fleet_model.specs.declared.tables.Tables.{Tables}
use Rattle.proof_lines.specs.Forms.{form_in}
use Rattle.proof_lines.specs.Words.{is_word, words_of}
use Rattle.proof_lines.specs.declared.line.Version.{Version}
use Rattle.std.proofs.Common.{[], ◌++◌, ◌<◌, ◌==◌, ◌∷◌, ◌≡◌, ◌≤◌, Bool, Err, List, None, Ok, Option, arith, cond, drop, false, length, refl, subst, suc, sym, true, zero, ℕ, ℤ, Some}
use Rattle.std.specs.Prelude.{⊤}
use Rattle.bound_cert.specs.declared.nodes.Head.TheVariants as head
use Rattle.bound_cert.specs.declared.reading_lines.Due.TheVariants as due

-- what reading leaves, or where it stops, is no more than there was
abbrev pub Shrinks : {A : Type 0} → ℕ → Reading (A × Left) → Type 0
Shrinks n (Ok read) = length read.1 ≤ n
Shrinks n (Err e) = e.left ≤ n

pub shrinks_less : {A : Type 0} (m n : ℕ) (r : Reading (A × Left)) → m ≤ n → Shrinks m r → Shrinks n r
shrinks_less m n (Ok read) le is = omega (arith, le, is)
shrinks_less m n (Err e) le is = omega (arith, le, is)

pub shrinks_bind : {A B : Type 0} (n : ℕ) (r : Reading (A × Left)) (f : A × Left → Reading (B × Left)) → Shrinks n r → ((x : A) (a : Left) → Shrinks (length a) (f (x, a))) → Shrinks n (r >>= f)
shrinks_bind n (Ok read) f is on = shrinks_less (length read.1) n (f read) is (on read.0 read.1)
shrinks_bind n (Err e) f is on = is

pub shrinks_line : {A B : Type 0} (a : Left) (r : Reading A) (f : A → Reading (B × Left)) → Twin a a r r → ((x : A) → Shrinks (length a) (f x)) → Shrinks (length a) (r >>= f)
shrinks_line a (Ok x) f twin on = on x
shrinks_line a (Err e) f twin on = omega (arith, twin.0)

pub shrinks_if : {A : Type 0} (n : ℕ) (c : Bool) (x y : Reading (A × Left)) → Shrinks n x → Shrinks n y → Shrinks n (cond c x y)
shrinks_if n true x y first second = first
shrinks_if n false x y first second = second

pub behind_first : (a : Left) → length (drop 1 a) ≤ length a
behind_first [] = omega arith
behind_first (line ∷ a) = omega arith

pub shrinks_behind : {A : Type 0} (a : Left) (r : Reading (A × Left)) → Shrinks (length (drop 1 a)) r → Shrinks (length a) r
shrinks_behind a r is = shrinks_less (length (drop 1 a)) (length a) r (behind_first a) is

pub entries_shrink : {S A B : Type 0} (s : Series S A B) → ((so_far : S) (a : Left) → Twin a a (entry_said s so_far a) (entry_said s so_far a)) → (so_far : S) (a : Left) → Shrinks (length a) (entries_from s so_far a)
unfolding entries_from
entries_shrink s twin so_far [] = omega arith
entries_shrink s twin so_far (line ∷ a) =
    shrinks_if (length (line ∷ a)) (fits s.kind (form_in s.names.version (words_of line))) _ _
    (shrinks_line (line ∷ a) (entry_said s so_far (line ∷ a)) _ (twin so_far (line ∷ a)) (λ entry. shrinks_behind (line ∷ a) _ (entries_shrink s twin (s.grow so_far entry) a)))
    (omega arith)

module _ (v : Version) (t : Tables) where
  pub rents_shrink : (rents : List ℤ) (a : Left) → Shrinks (length a) (rents_from (names v t) rents a)
  rents_shrink = entries_shrink (rent_series (names v t)) (λ rents a. rent_twin v t a a (alike_self a) (length rents))

  pub charges_shrink : (charges : List Charge) (before : Option Charge) (a : Left) → Shrinks (length a) (charges_from (names v t) charges before a)
  charges_shrink charges before = entries_shrink (charge_series (names v t)) (λ so_far a. charge_twin v t a a (alike_self a) so_far.1) (charges, before)

  pub steps_shrink : (steps : List PriceStep) (before : Option PriceStep) (a : Left) → Shrinks (length a) (steps_from (names v t) steps before a)
  steps_shrink steps before = entries_shrink (step_series (names v t)) (λ so_far a. step_twin v t a a (alike_self a) so_far.1 (λ zero. refl)) (steps, before)

  pub weights_shrink : (weights : List Weight) (before : Option Weight) (a : Left) → Shrinks (length a) (weights_from (names v t) weights before a)
  weights_shrink weights before = entries_shrink (weight_series (names v t)) (λ so_far a. weight_twin v t a a (alike_self a) so_far.1) (weights, before)

  pub prices_shrink : (a : Left) → Shrinks (length a) (prices_said (names v t) a)
  unfolding prices_said
  prices_shrink a =
      shrinks_line a (scale_at (names v t) a) _ (scale_twin v t a a (alike_self a)) (λ scale. shrinks_behind a _
      (shrinks_bind (length (drop 1 a)) (rents_from (names v t) [] (drop 1 a)) _ (rents_shrink [] (drop 1 a)) (λ rents b.
      shrinks_bind (length b) (charges_from (names v t) [] None b) _ (charges_shrink [] None b) (λ charges c.
      shrinks_bind (length c) (steps_from (names v t) [] None c) _ (steps_shrink [] None c) (λ steps d. omega arith)))))

  pub mixed_shrinks : (a : Left) → Shrinks (length a) (mixed_said (names v t) a)
  unfolding mixed_said
  mixed_shrinks a =
      shrinks_line a (mixed_scale_at (names v t) a) _ (mixed_scale_twin v t a a (alike_self a)) (λ scale. shrinks_behind a _
      (shrinks_bind (length (drop 1 a)) (weights_from (names v t) [] None (drop 1 a)) _ (weights_shrink [] None (drop 1 a)) (λ weights b. omega arith)))

  pub body_shrinks : (h : Head) (a : Left) → Shrinks (length a) (body_at (names v t) h a)
  unfolding body_at
  body_shrinks (head.Alone h) a = omega arith
  body_shrinks (head.Priced h) a = shrinks_bind (length a) (prices_said (names v t) a) _ (prices_shrink a) (λ prices b. omega arith)
  body_shrinks (head.Mixed h) a =
      shrinks_bind (length a) (prices_said (names v t) a) _ (prices_shrink a) (λ prices b. shrinks_bind (length b) (mixed_said (names v t) b) _ (mixed_shrinks b) (λ mixed c. omega arith))

  pub node_shrinks : (above : ℕ) (a : Left) → Shrinks (length a) (node_said (names v t) above a)
  unfolding node_said
  node_shrinks above a = shrinks_line a (head_at (names v t) above a) _ (head_twin v t a a (alike_self a) above) (λ h. shrinks_behind a _ (body_shrinks h (drop 1 a)))

  -- a node takes a line at least
  pub node_takes : (above : ℕ) (a : Left) (read : Node × Left) → node_said (names v t) above a ≡ Ok read → length read.1 < length a
  unfolding node_said head_at line_due
  node_takes above [] read e = absurd (cc e)
  node_takes above (x ∷ a) read e =
      let h = goes (head_at (names v t) above (x ∷ a)) _ read e in
      let less : length read.1 ≤ length a = subst (Shrinks (length a)) h.on (body_shrinks h.value a) in
      omega (arith, less)

  pub nodes_shrink : (most : ℕ) (nodes : List Node) (above : Above) (a : Left) → Shrinks (length a) (nodes_from (names v t) most nodes above a)
  unfolding nodes_from
  nodes_shrink zero nodes above a = omega arith
  nodes_shrink (suc most) nodes above a =
      shrinks_bind (length a) (node_said (names v t) (length above) a) _ (node_shrinks (length above) a) (λ n b.
      shrinks_if (length b) (length (after_node n above) == 0) _ _ (omega arith) (nodes_shrink most (nodes ++ n ∷ []) (after_node n above) b))

-- where reading stops is no more than there was
abbrev pub Stops : {A : Type 0} → ℕ → Reading A → Type 0
Stops n (Ok x) = ⊤
Stops n (Err e) = e.left ≤ n

pub stops_then : {A B : Type 0} (n : ℕ) (r : Reading A) (f : A → B) → Stops n r → Stops n (r >>= λ x. Ok (f x))
stops_then n (Ok x) f is = tt
stops_then n (Err e) f is = is

pub stops_less : {A : Type 0} (m n : ℕ) (r : Reading A) → m ≤ n → Stops m r → Stops n r
stops_less m n (Ok x) le is = tt
stops_less m n (Err e) le is = omega (arith, le, is)

pub stops_bind : {A B : Type 0} (n : ℕ) (r : Reading (A × Left)) (f : A × Left → Reading B) → Shrinks n r → ((x : A) (a : Left) → Stops (length a) (f (x, a))) → Stops n (r >>= f)
stops_bind n (Ok read) f is on = stops_less (length read.1) n (f read) is (on read.0 read.1)
stops_bind n (Err e) f is on = is

pub stops_line : {A B : Type 0} (a : Left) (r : Reading A) (f : A → Reading B) → Twin a a r r → ((x : A) → Stops (length (drop 1 a)) (f x)) → Stops (length a) (r >>= f)
stops_line a (Ok x) f twin on = stops_less (length (drop 1 a)) (length a) (f x) (behind_first a) (on x)
stops_line a (Err e) f twin on = omega (arith, twin.0)

pub nothing_stops : (a : Left) → Stops (length a) (nothing a)
unfolding nothing
nothing_stops [] = tt
nothing_stops (line ∷ []) = by_word (is_word line)
  where
    by_word : (c : Bool) → Stops {A = ⊤} 1 (cond c (stopped (line ∷ []) BAD_LINE) (Ok tt))
    by_word true = omega arith
    by_word false = tt
nothing_stops (line ∷ next ∷ rest) = omega arith

pub end_stops : (v : Version) (t : Tables) (a : Left) → Stops (length a) (end_at (names v t) a)
unfolding end_at
end_stops v t a = stops_line a (line_due (names v t) due.End a) _ (line_twin (names v t) due.End a a (alike_self a)) (λ words. nothing_stops (drop 1 a))

pub headed_twin : (windows : Bool) (a b : Left) → Alike a b → Twin a b (head_is windows a) (head_is windows b)
unfolding head_is
headed_twin windows [] b same = subst (λ b. Twin [] b (head_is windows []) (head_is windows b)) (sym same) (refl, refl)
headed_twin windows (line ∷ []) b same = subst (λ b. Twin (line ∷ []) b (head_is windows (line ∷ [])) (head_is windows b)) (sym same) (refl, refl)
headed_twin windows (line ∷ second ∷ rest) b same =
    subst (λ b. Twin (line ∷ second ∷ rest) b (head_is windows (line ∷ second ∷ rest)) (head_is windows b)) (sym same.is)
    (by_version (version_of windows line))
  where
    by_version : (o : Option Version) → Twin (line ∷ second ∷ rest) (line ∷ same.second ∷ same.rest) (headed o (line ∷ second ∷ rest)) (headed o (line ∷ same.second ∷ same.rest))
    by_version None = (refl, refl)
    by_version (Some version) = refl

module _ (v : Version) (t : Tables) where
  pub tree_stops : (a : Left) → Stops (length a) (tree_at (names v t) a)
  unfolding tree_at
  tree_stops a =
      stops_bind (length a) (nodes_from (names v t) (length a) [] [] a) _ (nodes_shrink v t (length a) [] [] a) (λ nodes b. stops_then (length b) (end_at (names v t) b) (λ ended. nodes) (end_stops v t b))

  pub rest_stops : (a : Left) → Stops (length a) (rest_at (names v t) a)
  unfolding rest_at
  rest_stops a = stops_line a (plan_at (names v t) a) _ (plan_twin v t a a (alike_self a)) (λ planned. stops_then (length (drop 1 a)) (tree_at (names v t) (drop 1 a)) (λ nodes. (planned, nodes)) (tree_stops (drop 1 a)))

pub proof_stops : (t : Tables) (a : Left) → Stops (length a) (proof_at t a)
unfolding proof_at
proof_stops t a = stops_line a (head_is t.windows a) _ (headed_twin t.windows a a (alike_self a)) (λ version. rest_stops version t (drop 1 a))
