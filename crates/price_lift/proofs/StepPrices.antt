-- What prices say that are written as steps of nodes.
use Rattle.std.proofs.Common.{◌≡◌, ◌≢◌, ℕ, zero, suc, ◌+◌, ◌-◌, ◌<◌, ◌≤◌, Bool, true, false, cond, not, ◌==◌, ◌&&◌, nat_le, if◌then◌else◌, [], ◌∷◌, length, get_or, ℤ, pos, unsigned_abs, refl, sym, ◌∙◌, ap, subst, inl, inr, arith}
use Rattle.std.specs.Ordering.{int_eq}
use Rattle.std.proofs.lemmas.Bool.{cases_lt}
use Rattle.std.proofs.lemmas.Bool.Decides.{Decides-int_eq, nat_tests}
use Rattle.sums.proofs.Naturals.{above_zero_tested, as_a_sum, plus_0, zero_number}
use Rattle.sums.proofs.Sizes.{zero_size}
use Rattle.sums.proofs.Tests.{by_test, first_fails, first_true, not_false, second_true}
use Rattle.fleet_model.specs.declared.tables.Tables.{Tables}
use Rattle.fleet_model.specs.Schedule.{fleets_in, stations_in}
use Rattle.lp_rows.specs.declared.kinds.Node.{Node}
use Rattle.lp_rows.specs.Layout.{Starts, all_nodes, concat_below, node_of_number, node_of_place}
use Rattle.lp_rows.specs.Points.{node_count}
use Rattle.lp_rows.proofs.Counted.{nodes_are}
use Rattle.dual_bound.specs.Prices.{price_after}
use Rattle.dual_bound.proofs.PriceLists.{price_after-append}
use Rattle.dual_bound.proofs.StepOrder.{has_come, has_not_come}
use Rattle.price_lift.specs.Steps.{all_steps, are_zero, is_node_step, node_step, step_at_node, steps_at}
use Rattle.lp_rows.proofs.LinePlaces.{before, node_number, node_there, node_within}
use Rattle.price_lift.proofs.Minutes.{IsAtPlace, Rise, later}

-- ---- the price after steps
-- .. of the nodes below a number
abbrev pub price_below : Tables → Starts → (ℕ → ℤ) → ℕ → ℕ → ℕ → ℕ → ℤ
price_below t starts value f s m n = price_after (pos 0) (concat_below (steps_at t starts value) n) f s m

none_below : (t : Tables) (starts : Starts) (value : ℕ → ℤ) (f s m : ℕ) → price_below t starts value f s m 0 ≡ pos 0
unfolding price_after
none_below t starts value f s m = refl

one_more : (t : Tables) (starts : Starts) (value : ℕ → ℤ) (f s m n : ℕ)
    → price_below t starts value f s m (suc n) ≡ price_after (price_below t starts value f s m n) (steps_at t starts value n) f s m
one_more t starts value f s m n = price_after-append (pos 0) (concat_below (steps_at t starts value) n) (steps_at t starts value n) f s m

-- the step of another fleet or station says nothing
elsewhere : (starts : Starts) (value : ℕ → ℤ) (k : ℕ) (n : Node) (v : ℤ) (f s m : ℕ) → ((n.fleet == f) && (n.station == s)) ≡ false → price_after v (step_at_node starts value k n) f s m ≡ v
unfolding price_after
elsewhere starts value k n v f s m other = by_step (is_node_step (length (starts n.fleet n.station)) value k n)
  where
    by_step : (b : Bool) → price_after v (if b then node_step (starts n.fleet n.station) (value k) n ∷ [] else []) f s m ≡ v
    by_step true = first_fails ((n.fleet == f) && (n.station == s)) (nat_le (get_or (starts n.fleet n.station) n.place 0) m) (value k) v other
    by_step false = refl

-- where there is no step, the price stays
stays : (starts : Starts) (value : ℕ → ℤ) (k : ℕ) (n : Node) (v : ℤ) (f s m : ℕ) → is_node_step (length (starts n.fleet n.station)) value k n ≡ false → price_after v (step_at_node starts value k n) f s m ≡ v
unfolding price_after
stays starts value k n v f s m none = ap (λ b. price_after v (if b then node_step (starts n.fleet n.station) (value k) n ∷ [] else []) f s m) none

-- a step of a node that has begun gives its value, and one that has not stays aside
has_begun : (starts : Starts) (value : ℕ → ℤ) (k place : ℕ) (v : ℤ) (f s m : ℕ) → is_node_step (length (starts f s)) value k (node_of_place f s place) ≡ true → get_or (starts f s) place 0 ≤ m → price_after v (step_at_node starts value k (node_of_place f s place)) f s m ≡ value k
unfolding price_after
has_begun starts value k place v f s m step begun =
    ap (λ b. price_after v (if b then node_step (starts f s) (value k) (node_of_place f s place) ∷ [] else []) f s m) step
    ∙ ap (λ b. cond b (value k) v) (has_come f s (get_or (starts f s) place 0) m begun)

not_begun : (starts : Starts) (value : ℕ → ℤ) (k place : ℕ) (v : ℤ) (f s m : ℕ) → m < get_or (starts f s) place 0 → price_after v (step_at_node starts value k (node_of_place f s place)) f s m ≡ v
unfolding price_after
not_begun starts value k place v f s m later = by_step (is_node_step (length (starts f s)) value k (node_of_place f s place))
  where
    by_step : (b : Bool) → price_after v (if b then node_step (starts f s) (value k) (node_of_place f s place) ∷ [] else []) f s m ≡ v
    by_step true = ap (λ b. cond b (value k) v) (has_not_come f s (get_or (starts f s) place 0) m later)
    by_step false = refl

-- ---- where there is a step

pub all_zero : (value : ℕ → ℤ) (from n : ℕ) → are_zero value from n ≡ true → (k : ℕ) → k < n → value (from + k) ≡ pos 0
unfolding are_zero
all_zero value from zero all k below = absurd (omega arith)
all_zero value from (suc n) all k below = elim (cases_lt k n) [
  | inl before ↦ all_zero value from n (first_true (are_zero value from n) (unsigned_abs (value (from + n)) == 0) all) k before
  | inr last ↦
      let same : k ≡ n = omega arith in
      subst (λ j. value (from + j) ≡ pos 0) (sym same) (zero_size (value (from + n)) (zero_number (unsigned_abs (value (from + n))) (second_true (are_zero value from n) (unsigned_abs (value (from + n)) == 0) all)))
]

-- a first node without a step has the value 0, and a later one that of the node before
pub no_first_step : (nodes : ℕ) (value : ℕ → ℤ) (k : ℕ) (n : Node) → n.place ≡ 0 → 0 < nodes → is_node_step nodes value k n ≡ false → value k ≡ pos 0
unfolding is_node_step
no_first_step nodes value k n first some none =
    let all : are_zero value k nodes ≡ true = not_false (are_zero value k nodes) (sym (ap (λ p. cond (p == 0) (not (are_zero value k nodes)) (not (int_eq (value k) (value (k - 1))))) first) ∙ none) in
    ap value (omega arith) ∙ all_zero value k nodes all 0 some

pub no_later_step : (nodes : ℕ) (value : ℕ → ℤ) (k : ℕ) (n : Node) → 0 < n.place → is_node_step nodes value k n ≡ false → value k ≡ value (k - 1)
unfolding is_node_step
no_later_step nodes value k n later none =
    (Decides-int_eq (value k) (value (k - 1))).0 (not_false (int_eq (value k) (value (k - 1))) (sym (above_zero_tested n.place (not (are_zero value k nodes)) (not (int_eq (value k) (value (k - 1)))) later) ∙ none))

-- ---- the price at a minute
module _ (t : Tables) (starts : Starts) (value : ℕ → ℤ) (f s m : ℕ) (known : f < fleets_in t) (within : s < stations_in t) where
  abbrev at : ℕ → ℤ
  at n = price_below t starts value f s m n

  first : ℕ
  first = before t starts f s

  -- nodes of another fleet or station
  passes_by : (n : ℕ) → n < node_count t starts → ((k : ℕ) → k < length (starts f s) → n ≢ before t starts f s + k) → at (suc n) ≡ at n
  passes_by n below other =
      let number = node_number t starts n below in
      let node : node_of_number t starts n ≡ node_of_place number.fleet number.station number.place =
      ap (λ j. get_or (all_nodes t starts) j (node_of_place 0 0 0)) number.is ∙ node_there t starts number.fleet number.station number.place (node_of_place 0 0 0) number.known number.within number.below in
      one_more t starts value f s m n
      ∙ ap (λ n'. price_after (at n) (step_at_node starts value n n') f s m) node
      ∙ elsewhere starts value n (node_of_place number.fleet number.station number.place) (at n) f s m (by_test ((number.fleet == f) && (number.station == s))
      (λ e.
      let fleet : number.fleet ≡ f = grind (arith, nat_tests) in
      let station : number.station ≡ s = grind (arith, nat_tests) in
      absurd (other number.place (subst (λ r. number.place < length (starts f r)) station (subst (λ g. number.place < length (starts g number.station)) fleet number.below))
      (number.is ∙ ap (λ g. before t starts g number.station + number.place) fleet ∙ ap (λ r. before t starts f r + number.place) station)))
      (λ e. e))

  -- before all of them, and where there is none
  nowhere_below : length (starts f s) ≡ 0 → (n : ℕ) → n ≤ node_count t starts → at n ≡ pos 0
  nowhere_below none zero below = none_below t starts value f s m
  nowhere_below none (suc n) below = passes_by n (omega arith) (λ k less. absurd (omega (arith, none, less))) ∙ nowhere_below none n (omega arith)

  pub nowhere : length (starts f s) ≡ 0 → price_after (pos 0) (all_steps t starts value) f s m ≡ pos 0
  nowhere none = ap at (nodes_are t starts) ∙ nowhere_below none (node_count t starts) (omega arith)

  up_to_first : 0 < length (starts f s) → (n : ℕ) → n ≤ before t starts f s → at n ≡ pos 0
  up_to_first some zero below = none_below t starts value f s m
  up_to_first some (suc n) below =
      passes_by n (omega (arith, node_within t starts f s 0 known within some)) (λ k less e. omega (arith, e)) ∙ up_to_first some n (omega arith)

  at_node : (j : ℕ) → j < length (starts f s) → at (suc (before t starts f s + j)) ≡ price_after (at (before t starts f s + j)) (step_at_node starts value (before t starts f s + j) (node_of_place f s j)) f s m
  at_node j below =
      one_more t starts value f s m (before t starts f s + j)
      ∙ ap (λ n. price_after (at (before t starts f s + j)) (step_at_node starts value (before t starts f s + j) n) f s m) (node_there t starts f s j (node_of_place 0 0 0) known within below)

  module _ (p : ℕ) (rise : Rise (starts f s)) (place : IsAtPlace (starts f s) m p) where
    begun : (j : ℕ) → j ≤ p → get_or (starts f s) j 0 ≤ m
    begun j order = elim (cases_lt j p) [
      | inl less ↦ omega (arith, later (starts f s) rise j p less place.within, place.begun)
      | inr same ↦ let e : j ≡ p = omega arith in subst (λ i. get_or (starts f s) i 0 ≤ m) (sym e) place.begun
    ]

    -- up to its node, each node's value
    up_to : (j : ℕ) → j ≤ p → at (suc (before t starts f s + j)) ≡ value (before t starts f s + j)
    up_to zero order = at_node 0 (omega (arith, place.within)) ∙ by_test (is_node_step (length (starts f s)) value (before t starts f s + 0) (node_of_place f s 0))
        (λ e. has_begun starts value (before t starts f s + 0) 0 (at (before t starts f s + 0)) f s m e (begun 0 order))
        (λ e. stays starts value (before t starts f s + 0) (node_of_place f s 0) (at (before t starts f s + 0)) f s m e
        ∙ up_to_first (omega (arith, place.within)) (before t starts f s + 0) (omega arith)
        ∙ sym (no_first_step (length (starts f s)) value (before t starts f s + 0) (node_of_place f s 0) refl (omega (arith, place.within)) e))
    up_to (suc j) order = at_node (suc j) (omega (arith, place.within)) ∙ by_test (is_node_step (length (starts f s)) value (before t starts f s + suc j) (node_of_place f s (suc j)))
        (λ e. has_begun starts value (before t starts f s + suc j) (suc j) (at (before t starts f s + suc j)) f s m e (begun (suc j) order))
        (λ e. stays starts value (before t starts f s + suc j) (node_of_place f s (suc j)) (at (before t starts f s + suc j)) f s m e
        ∙ ap at (next j) ∙ up_to j (omega arith)
        ∙ ap value (back j)
        ∙ sym (no_later_step (length (starts f s)) value (before t starts f s + suc j) (node_of_place f s (suc j)) (omega arith) e))
      where
        next : (j : ℕ) → before t starts f s + suc j ≡ suc (before t starts f s + j)
        next j = omega arith

        back : (j : ℕ) → before t starts f s + j ≡ before t starts f s + suc j - 1
        back j = omega arith

    -- and then that one's
    since : (d : ℕ) → p + d < length (starts f s) → at (suc (before t starts f s + (p + d))) ≡ value (before t starts f s + p)
    since zero below = ap (λ j. at (suc (before t starts f s + j))) (plus_0 p) ∙ up_to p (omega arith)
    since (suc d) below =
        at_node (p + suc d) below
        ∙ not_begun starts value (before t starts f s + (p + suc d)) (p + suc d) (at (before t starts f s + (p + suc d))) f s m (place.last (p + suc d) (omega arith) below)
        ∙ ap at (next p d) ∙ since d (omega arith)
      where
        next : (p d : ℕ) → before t starts f s + (p + suc d) ≡ suc (before t starts f s + (p + d))
        next p d = omega arith

    behind : (d : ℕ) → before t starts f s + length (starts f s) + d ≤ node_count t starts → at (before t starts f s + length (starts f s) + d) ≡ value (before t starts f s + p)
    behind zero below = ap at (last p (length (starts f s)) place.within) ∙ since (length (starts f s) - 1 - p) (omega (arith, place.within))
      where
        last : (p len : ℕ) → p < len → before t starts f s + len + 0 ≡ suc (before t starts f s + (p + (len - 1 - p)))
        last p len less = omega arith
    behind (suc d) below =
        ap at (next d) ∙ passes_by (before t starts f s + length (starts f s) + d) (omega (arith, below)) (λ k less e. omega (arith, e, less)) ∙ behind d (omega (arith, below))
      where
        next : (d : ℕ) → before t starts f s + length (starts f s) + suc d ≡ suc (before t starts f s + length (starts f s) + d)
        next d = omega arith

    -- the price at a minute is the value of its node
    pub through_node : price_after (pos 0) (all_steps t starts value) f s m ≡ value (before t starts f s + p)
    through_node =
        let enough = node_within t starts f s (length (starts f s) - 1) known within (omega (arith, place.within)) in
        ap at (nodes_are t starts ∙ as_a_sum (node_count t starts) (before t starts f s + length (starts f s)) (omega (arith, enough, place.within)))
        ∙ behind (node_count t starts - (before t starts f s + length (starts f s))) (omega (arith, enough, place.within))
