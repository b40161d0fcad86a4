-- Steps by the order of nodes are in written order.
use Rattle.std.proofs.Common.{◌≡◌, ◌≢◌, ℕ, zero, suc, ◌+◌, ◌-◌, ◌<◌, ◌≤◌, Bool, true, false, cond, not, ◌==◌, ◌&&◌, if◌then◌else◌, List, [], ◌∷◌, length, get_or, All, Option, Some, None, ℤ, pos, unsigned_abs, refl, sym, ◌∙◌, ap, subst, ◌⊎◌, inl, inr, arith}
use Rattle.std.specs.Ordering.{int_eq}
use mathlib.Core.Bool.{false≢true}
use Rattle.std.proofs.lemmas.Bool.{cases_lt, cases_order, eq-eqb}
use Rattle.std.proofs.lemmas.Bool.Decides.{Decides-int_eq}
use Rattle.sums.specs.Below.{sum_below}
use Rattle.sums.proofs.Naturals.{above_zero_tested, plus_0, zero_number}
use Rattle.sums.proofs.Sizes.{size_of_zero}
use Rattle.sums.proofs.Tests.{both_true, first_true, not_false, not_true, second_true, by_test}
use Rattle.fleet_model.specs.declared.tables.Tables.{Tables}
use Rattle.fleet_model.specs.Schedule.{fleets_in, last_of, stations_in}
use Rattle.lp_rows.specs.declared.kinds.Node.{Node}
use Rattle.lp_rows.specs.Layout.{Starts, all_nodes, concat_below, node_of_number, node_of_place}
use Rattle.lp_rows.specs.Points.{node_count}
use Rattle.lp_rows.proofs.Counted.{nodes_are}
use Rattle.lp_rows.proofs.Totals.{all_concat}
use Rattle.dual_bound.specs.Order.{same_place, step_follows}
use Rattle.dual_bound.specs.WrittenOrder.{AreStepsInOrder, IsFigure, IsStepInOrder, NoLoneZero, StepsFollow, goes_on, is_lone_zero}
use Rattle.dual_bound.specs.declared.prices.PriceStep.{PriceStep}
use Rattle.dual_bound.proofs.StepOrder.{PlaceBefore, follows_other, follows_same, same_place_by}
use Rattle.price_lift.specs.Steps.{all_steps, are_zero, is_node_step, node_step, steps_at}
use Rattle.lp_rows.proofs.LinePlaces.{before, node_is, node_number, node_there, node_within, nodes_in}
use Rattle.lp_rows.proofs.ListPlaces.{within_sum}
use Rattle.price_lift.proofs.Minutes.{Rise, later}
use Rattle.price_lift.proofs.Orders.{Follow, MayFollow, follow_all, from_first, list_from}
use Rattle.price_lift.proofs.StepPrices.{all_zero, no_later_step}

-- ---- where there is a step

-- some value is another than 0
some_value : (value : ℕ → ℤ) (from n : ℕ) → are_zero value from n ≡ false → (q : ℕ) × (q < n) × (value (from + q) ≢ pos 0)
unfolding are_zero
some_value value from zero none = absurd (false≢true (sym none))
some_value value from (suc n) none = by_test (are_zero value from n)
    (λ e. (n, omega arith, λ zero. absurd (false≢true (sym none ∙ both_true (are_zero value from n) (unsigned_abs (value (from + n)) == 0) e (eq-eqb (unsigned_abs (value (from + n))) 0 (size_of_zero (value (from + n)) zero))))))
    (λ e. let at = some_value value from n e in (at.0, omega (arith, at.1), at.2))

first_step : (nodes : ℕ) (value : ℕ → ℤ) (k : ℕ) (n : Node) → n.place ≡ 0 → is_node_step nodes value k n ≡ true → are_zero value k nodes ≡ false
unfolding is_node_step
first_step nodes value k n first here =
    not_true (are_zero value k nodes) (sym (ap (λ p. cond (p == 0) (not (are_zero value k nodes)) (not (int_eq (value k) (value (k - 1))))) first) ∙ here)

no_first : (nodes : ℕ) (value : ℕ → ℤ) (k : ℕ) (n : Node) → n.place ≡ 0 → is_node_step nodes value k n ≡ false → are_zero value k nodes ≡ true
unfolding is_node_step
no_first nodes value k n first none =
    not_false (are_zero value k nodes) (sym (ap (λ p. cond (p == 0) (not (are_zero value k nodes)) (not (int_eq (value k) (value (k - 1))))) first) ∙ none)

later_step : (nodes : ℕ) (value : ℕ → ℤ) (k : ℕ) (n : Node) → 0 < n.place → is_node_step nodes value k n ≡ true → value k ≢ value (k - 1)
unfolding is_node_step
later_step nodes value k n later here same =
    false≢true (sym (not_true (int_eq (value k) (value (k - 1))) (sym (above_zero_tested n.place (not (are_zero value k nodes)) (not (int_eq (value k) (value (k - 1)))) later) ∙ here)) ∙ (Decides-int_eq (value k) (value (k - 1))).1 same)

-- ---- steps one behind another

of_follow : (before : Option PriceStep) (steps : List PriceStep) → Follow step_follows before steps → StepsFollow before steps
of_follow before [] all = tt
of_follow before (x ∷ xs) all = (all.0, of_follow (Some x) xs all.1)

lone_false : (a c g : Bool) → ((a && c) ≡ true → g ≡ true) → (a && c && not g) ≡ false
lone_false true true true h = refl
lone_false true true false h = sym (h refl)
lone_false true false g h = refl
lone_false false c g h = refl

-- ---- the steps of nodes
module _ (t : Tables) (starts : Starts) (value : ℕ → ℤ) (rise : (f s : ℕ) → f < fleets_in t → s < stations_in t → 0 < length (starts f s) → Rise (starts f s)) where
  abbrev there : ℕ → Bool
  there k = let n = node_of_number t starts k in is_node_step (length (starts n.fleet n.station)) value k n

  abbrev entry : ℕ → PriceStep
  entry k = let n = node_of_number t starts k in node_step (starts n.fleet n.station) (value k) n

  abbrev entry_at : ℕ → ℕ → ℕ → PriceStep
  entry_at f s p = node_step (starts f s) (value (before t starts f s + p)) (node_of_place f s p)

  there_is : (f s p : ℕ) → f < fleets_in t → s < stations_in t → p < length (starts f s) → there (before t starts f s + p) ≡ is_node_step (length (starts f s)) value (before t starts f s + p) (node_of_place f s p)
  there_is f s p known within below = ap (λ n. is_node_step (length (starts n.fleet n.station)) value (before t starts f s + p) n) (node_there t starts f s p (node_of_place 0 0 0) known within below)

  entry_is : (f s p : ℕ) → f < fleets_in t → s < stations_in t → p < length (starts f s) → entry (before t starts f s + p) ≡ entry_at f s p
  entry_is f s p known within below = ap (λ n. node_step (starts n.fleet n.station) (value (before t starts f s + p)) n) (node_there t starts f s p (node_of_place 0 0 0) known within below)

  -- of two numbers the lesser is that of an earlier node
  place_order : (f s p g r q : ℕ) → s < stations_in t → r < stations_in t → p < length (starts f s) → q < length (starts g r) → before t starts f s + p < before t starts g r + q
      → PlaceBefore f s g r ⊎ ((f ≡ g) × (s ≡ r))
  place_order f s p g r q within in_too below less order = elim (cases_order f g) [
    | inl same ↦ elim (cases_order s r) [
      | inl alike ↦ inr (same, alike)
      | inr (inl first) ↦ inl (inr (same, first))
      | inr (inr last) ↦
          let behind = within_sum (λ u. length (starts f u)) s r q last (subst (λ h. q < length (starts h r)) (sym same) less) in
          absurd (omega (arith, behind, subst (λ h. before t starts f s + p < before t starts h r + q) (sym same) order))
    ]
    | inr (inl first) ↦ inl (inl first)
    | inr (inr last) ↦
        let inner = within_sum (λ u. length (starts g u)) (stations_in t) r q in_too less in
        let behind = within_sum (nodes_in t starts) f g (sum_below (λ u. length (starts g u)) r + q) last inner in
        absurd (omega (arith, behind, order))
  ]

  -- ---- at one fleet and station
  module _ (f s : ℕ) (known : f < fleets_in t) (within : s < stations_in t) where
    -- values stay where there is no step
    constant : (p d : ℕ) → p + d < length (starts f s) → ((i : ℕ) → p < i → i ≤ p + d → there (before t starts f s + i) ≡ false) → value (before t starts f s + (p + d)) ≡ value (before t starts f s + p)
    constant p zero below none = ap (λ n. value (before t starts f s + n)) (plus_0 p)
    constant p (suc d) below none =
        no_later_step (length (starts f s)) value (before t starts f s + (p + suc d)) (node_of_place f s (p + suc d)) (omega arith)
        (sym (there_is f s (p + suc d) known within below) ∙ none (p + suc d) (omega arith) (omega arith))
        ∙ ap value (back p d) ∙ constant p d (omega (arith, below)) (λ i above order. none i above (omega arith))
      where
        back : (p d : ℕ) → before t starts f s + (p + suc d) - 1 ≡ before t starts f s + (p + d)
        back p d = omega arith

    -- a step without one before it is at the first node
    begins : (p : ℕ) → p < length (starts f s) → there (before t starts f s + p) ≡ true → ((i : ℕ) → i < p → there (before t starts f s + i) ≡ false) → p ≡ 0
    begins zero below here none = refl
    begins (suc p) below here none =
        let zeros = all_zero value (before t starts f s + 0) (length (starts f s)) (no_first (length (starts f s)) value (before t starts f s + 0) (node_of_place f s 0) refl (sym (there_is f s 0 known within (omega arith)) ∙ none 0 (omega arith))) in
        let at = λ (i : ℕ). λ (less : i < length (starts f s)). ap (λ n. value n) (first i) ∙ zeros i less in
        absurd (later_step (length (starts f s)) value (before t starts f s + suc p) (node_of_place f s (suc p)) (omega arith) (sym (there_is f s (suc p) known within below) ∙ here)
        (at (suc p) below ∙ sym (ap value (back p) ∙ at p (omega arith))))
      where
        first : (i : ℕ) → before t starts f s + i ≡ before t starts f s + 0 + i
        first i = omega arith

        back : (p : ℕ) → before t starts f s + suc p - 1 ≡ before t starts f s + p
        back p = omega arith

    first_minute : (p : ℕ) → p ≡ 0 → p < length (starts f s) → (entry_at f s p).minute ≡ 0
    first_minute p is below = ap (λ i. get_or (starts f s) i 0) is ∙ (rise f s known within (omega arith)).first

    -- one step behind another there
    next_there : (p q : ℕ) → p < q → q < length (starts f s) → there (before t starts f s + q) ≡ true → ((i : ℕ) → p < i → i < q → there (before t starts f s + i) ≡ false)
        → step_follows (Some (entry_at f s p)) (entry_at f s q) ≡ true
    next_there p q order below here none =
        follows_same (entry_at f s p) (entry_at f s q) refl refl (later (starts f s) (rise f s known within (omega arith)) p q order below) (λ same.
        later_step (length (starts f s)) value (before t starts f s + q) (node_of_place f s q) (omega arith) (sym (there_is f s q known within below) ∙ here)
        (sym same ∙ sym (constant p (q - 1 - p) (omega arith) (λ i above less. none i above (omega arith))) ∙ ap value (back p q order)))
      where
        back : (p q : ℕ) → p < q → before t starts f s + (p + (q - 1 - p)) ≡ before t starts f s + q - 1
        back p q order = omega arith

    -- a step of value 0 at the first node is not the one step there
    goes_to : (x : PriceStep) (q : ℕ) → x.fleet ≡ f → x.station ≡ s → q < length (starts f s) → value (before t starts f s + q) ≢ pos 0
        → (i d : ℕ) → i < q → value (before t starts f s + i) ≡ pos 0 → before t starts f s + q < before t starts f s + suc i + d → goes_on x (list_from there entry (before t starts f s + suc i) d) ≡ true
    goes_to x q fleet station less other i zero order zero_there enough = absurd (omega arith)
    goes_to x q fleet station less other i (suc d) order zero_there enough = by_test (there (before t starts f s + suc i))
        (λ e. ap (λ c. goes_on x (if c then entry (before t starts f s + suc i) ∷ list_from there entry (suc (before t starts f s + suc i)) d else list_from there entry (suc (before t starts f s + suc i)) d)) e
        ∙ ap (same_place x) (entry_is f s (suc i) known within (omega arith)) ∙ same_place_by x (entry_at f s (suc i)) fleet station)
        (λ e. ap (λ c. goes_on x (if c then entry (before t starts f s + suc i) ∷ list_from there entry (suc (before t starts f s + suc i)) d else list_from there entry (suc (before t starts f s + suc i)) d)) e
        ∙ ap (λ n. goes_on x (list_from there entry n d)) (next i)
        ∙ elim (cases_lt (suc i) q) [
          | inl before_it ↦ goes_to x q fleet station less other (suc i) d before_it (still e) (omega (arith, enough))
          | inr at_it ↦ let at : suc i ≡ q = omega arith in absurd (other (ap (λ n. value (before t starts f s + n)) (sym at) ∙ still e))
        ])
      where
        next : (i : ℕ) → suc (before t starts f s + suc i) ≡ before t starts f s + suc (suc i)
        next i = omega arith

        still : there (before t starts f s + suc i) ≡ false → value (before t starts f s + suc i) ≡ pos 0
        still e =
            no_later_step (length (starts f s)) value (before t starts f s + suc i) (node_of_place f s (suc i)) (omega arith) (sym (there_is f s (suc i) known within (omega arith)) ∙ e)
            ∙ ap value (back i) ∙ zero_there
          where
            back : (i : ℕ) → before t starts f s + suc i - 1 ≡ before t starts f s + i
            back i = omega arith

  -- ---- at all of them
  first_at : (f s p : ℕ) → f < fleets_in t → s < stations_in t → p < length (starts f s) → there (before t starts f s + p) ≡ true → ((i : ℕ) → i < before t starts f s + p → there i ≡ false)
      → step_follows None (entry (before t starts f s + p)) ≡ true
  first_at f s p known within below here none =
      ap (λ x. x.minute == 0) (entry_is f s p known within below)
      ∙ eq-eqb (entry_at f s p).minute 0 (first_minute f s known within p (begins f s known within p below here (λ i less. none (before t starts f s + i) (omega arith))) below)

  -- all nodes of an earlier place come before those of a later one
  all_before : (f s p g r : ℕ) → s < stations_in t → p < length (starts f s) → PlaceBefore f s g r → before t starts f s + p < before t starts g r
  all_before f s p g r within below (inl less) =
      let inner = within_sum (λ u. length (starts f u)) (stations_in t) s p within below in
      omega (arith, within_sum (nodes_in t starts) g f (sum_below (λ u. length (starts f u)) s + p) less inner)
  all_before f s p g r within below (inr same) =
      subst (λ h. before t starts f s + p < before t starts h r) same.0 (omega (arith, within_sum (λ u. length (starts f u)) r s p same.1 below))

  next_at : (f s p g r q : ℕ) → f < fleets_in t → s < stations_in t → g < fleets_in t → r < stations_in t → p < length (starts f s) → q < length (starts g r)
      → before t starts f s + p < before t starts g r + q → there (before t starts g r + q) ≡ true → ((i : ℕ) → before t starts f s + p < i → i < before t starts g r + q → there i ≡ false)
      → step_follows (Some (entry (before t starts f s + p))) (entry (before t starts g r + q)) ≡ true
  next_at f s p g r q known within other_known other_within below less order here none =
      ap (λ x. step_follows (Some x) (entry (before t starts g r + q))) (entry_is f s p known within below)
      ∙ ap (λ y. step_follows (Some (entry_at f s p)) y) (entry_is g r q other_known other_within less)
      ∙ elim (place_order f s p g r q within other_within below less order) [
        | inl earlier ↦
            let before_all = all_before f s p g r within below earlier in
            follows_other (entry_at f s p) (entry_at g r q) earlier
            (first_minute g r other_known other_within q (begins g r other_known other_within q less here (λ i there_before. none (before t starts g r + i) (omega (arith, before_all)) (omega (arith, there_before)))) less)
        | inr same ↦
            subst (λ u. IsNext g u) same.1 (subst (λ h. IsNext h s) same.0 at_place) less order here none
      ]
    where
      IsNext : ℕ → ℕ → Type 0
      IsNext h u = q < length (starts h u) → before t starts f s + p < before t starts h u + q → there (before t starts h u + q) ≡ true
          → ((i : ℕ) → before t starts f s + p < i → i < before t starts h u + q → there i ≡ false) → step_follows (Some (entry_at f s p)) (entry_at h u q) ≡ true

      at_place : IsNext f s
      at_place = λ less order here none.
          next_there f s known within p q (omega (arith, order)) less here (λ i above there_before. none (before t starts f s + i) (omega (arith, above)) (omega (arith, there_before)))

  may_follow : MayFollow there entry step_follows (node_count t starts)
  may_follow = record {
    first = λ k below here none.
        let n = node_number t starts k below in
        subst (λ j. there j ≡ true → ((i : ℕ) → i < j → there i ≡ false) → step_follows None (entry j) ≡ true) (sym n.is) (first_at n.fleet n.station n.place n.known n.within n.below) here none;
    next = λ j k order below before_there here none.
        let m = node_number t starts j (omega (arith, order, below)) in
        let n = node_number t starts k below in
        subst (λ i. i < k → there k ≡ true → ((h : ℕ) → i < h → h < k → there h ≡ false) → step_follows (Some (entry i)) (entry k) ≡ true) (sym m.is)
        (subst (λ i. before t starts m.fleet m.station + m.place < i → there i ≡ true → ((h : ℕ) → before t starts m.fleet m.station + m.place < h → h < i → there h ≡ false) → step_follows (Some (entry (before t starts m.fleet m.station + m.place))) (entry i) ≡ true) (sym n.is)
        (next_at m.fleet m.station m.place n.fleet n.station n.place m.known m.within n.known n.within m.below n.below))
        order here none;
  }

  -- no step of value 0 is the one step of its place
  lone_at : (f s p d : ℕ) → f < fleets_in t → s < stations_in t → p < length (starts f s) → there (before t starts f s + p) ≡ true → before t starts f s + p + suc d ≡ node_count t starts
      → (((entry (before t starts f s + p)).minute == 0) && int_eq (entry (before t starts f s + p)).value (pos 0)) ≡ true
      → goes_on (entry (before t starts f s + p)) (list_from there entry (suc (before t starts f s + p)) d) ≡ true
  lone_at f s zero d known within below here all zero_there =
      let zero_value = (Decides-int_eq (value (before t starts f s + 0)) (pos 0)).0 (second_true ((entry (before t starts f s + 0)).minute == 0) (int_eq (value (before t starts f s + 0)) (pos 0)) zero_there) in
      let some = some_value value (before t starts f s + 0) (length (starts f s)) (first_step (length (starts f s)) value (before t starts f s + 0) (node_of_place f s 0) refl (sym (there_is f s 0 known within below) ∙ here)) in
      let other : value (before t starts f s + some.0) ≢ pos 0 = λ e. some.2 (ap value (moved some.0) ∙ e) in
      let later_one : 0 < some.0 = elim (cases_lt 0 some.0) [ inl later ↦ later | inr none ↦ let at : some.0 ≡ 0 = omega arith in absurd (other (ap (λ i. value (before t starts f s + i)) at ∙ zero_value)) ] in
      ap (λ n. goes_on (entry (before t starts f s + 0)) (list_from there entry n d)) (next (before t starts f s))
      ∙ goes_to f s known within (entry (before t starts f s + 0)) some.0 (ap (λ x. x.fleet) (entry_is f s 0 known within below)) (ap (λ x. x.station) (entry_is f s 0 known within below)) some.1 other 0 d later_one zero_value
      (omega (arith, all, node_within t starts f s some.0 known within some.1))
    where
      moved : (i : ℕ) → before t starts f s + 0 + i ≡ before t starts f s + i
      moved i = omega arith

      next : (n : ℕ) → suc (n + 0) ≡ n + suc 0
      next n = omega arith
  lone_at f s (suc p) d known within below here all zero_there =
      let none = zero_number (get_or (starts f s) (suc p) 0) (sym (ap (λ x. x.minute == 0) (entry_is f s (suc p) known within below)) ∙ first_true ((entry (before t starts f s + suc p)).minute == 0) (int_eq (value (before t starts f s + suc p)) (pos 0)) zero_there) in
      absurd (omega (arith, none, later (starts f s) (rise f s known within (omega arith)) 0 (suc p) (omega arith) below))

  lone : (m d : ℕ) → m + suc d ≡ node_count t starts → there m ≡ true → is_lone_zero (entry m) (list_from there entry (suc m) d) ≡ false
  lone m d all here = lone_false ((entry m).minute == 0) (int_eq (entry m).value (pos 0)) (goes_on (entry m) (list_from there entry (suc m) d)) (λ zero_there.
      let n = node_number t starts m (omega arith) in
      subst (λ j. there j ≡ true → j + suc d ≡ node_count t starts → (((entry j).minute == 0) && int_eq (entry j).value (pos 0)) ≡ true → goes_on (entry j) (list_from there entry (suc j) d) ≡ true) (sym n.is)
      (lone_at n.fleet n.station n.place d n.known n.within n.below) here all zero_there)

  no_lone : (m d : ℕ) → m + d ≡ node_count t starts → NoLoneZero (list_from there entry m d)
  no_lone m zero all = tt
  no_lone m (suc d) all = by_test (there m)
      (λ e. subst (λ c. NoLoneZero (if c then entry m ∷ list_from there entry (suc m) d else list_from there entry (suc m) d)) (sym e) (lone m d all e, no_lone (suc m) d (omega arith)))
      (λ e. subst (λ c. NoLoneZero (if c then entry m ∷ list_from there entry (suc m) d else list_from there entry (suc m) d)) (sym e) (no_lone (suc m) d (omega arith)))

  all_one : {X : Type 0} (P : X → Type 0) (b : Bool) (x : X) → P x → All P (if b then x ∷ [] else [])
  all_one P true x holds = λ k d below. let first : 0 ≡ k = omega arith in subst (λ j. P (get_or (x ∷ []) j d)) first holds
  all_one P false x holds = λ k d below. absurd (omega arith)

  pub steps_in_order : ((f s p : ℕ) → f < fleets_in t → s < stations_in t → p < length (starts f s) → get_or (starts f s) p 0 ≤ last_of t) → ((k : ℕ) → IsFigure (value k)) → AreStepsInOrder t (all_steps t starts value)
  steps_in_order early figures = record {
    each = all_concat (IsStepInOrder t) (steps_at t starts value) (length (all_nodes t starts)) (λ k below.
        let n = node_is t starts k (omega (arith, below, nodes_are t starts)) in
        all_one (IsStepInOrder t) (there k) (entry k) (record { fleet = n.fleet; station = n.station; minute = early _ _ _ n.fleet n.station n.place; value = figures k }));
    follow = of_follow None (all_steps t starts value) (subst (λ n. Follow step_follows None (concat_below (steps_at t starts value) n)) (sym (nodes_are t starts)) (follow_all there entry step_follows (node_count t starts) may_follow));
    no_lone_zero = subst (λ n. NoLoneZero (concat_below (steps_at t starts value) n)) (sym (nodes_are t starts)) (subst NoLoneZero (sym (from_first there entry (node_count t starts))) (no_lone 0 (node_count t starts) (omega arith)));
  }
