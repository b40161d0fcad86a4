-- The legs that a rotation names are legs of the tables, and no more than there are.
use Rattle.std.proofs.Common.{◌≡◌, ◌≢◌, ℕ, zero, suc, ◌+◌, ◌-◌, ◌<◌, ◌≤◌, inl, inr, Bool, true, false, ◌==◌, if◌then◌else◌, All, List, [], ◌∷◌, ◌++◌, length, length-append, get_or, slice_index, refl, sym, ap, ◌∙◌, subst, arith}
use Rattle.std.specs.List.{filter, flat_map}
use Rattle.std.proofs.lemmas.Bool.{cases_lt, eq-eqb}
use Rattle.std.proofs.lemmas.List.{get_or-append-add, get_or_append_left, get_or_push}
use Rattle.sums.proofs.Counts.{count_below-one}
use Rattle.sums.proofs.Tests.{by_test}
use Rattle.fleet_model.specs.declared.parts.Connection.{Connection}
use Rattle.fleet_model.specs.declared.tables.Tables.{Tables}
use Rattle.fleet_model.specs.Schedule.{legs_in}
use Rattle.lines_of_flying.specs.ground_turns.Maps.{IsTour}
use Rattle.lines_of_flying.specs.Lines.{AreLegsOfTables}
use Rattle.sums.proofs.Terms.{few_apart}
use Rattle.lines_of_flying.specs.cycle_join.Joins.{IsApart}
use Rattle.euler_rotation.specs.Prefixes.{may_follow, numbered_entries, preorder, preorder_from}
use Rattle.euler_rotation.specs.Tours.{IsOrder, times_in}
use Rattle.euler_rotation.proofs.TourTurns.{own_leg, tour_order}
use Rattle.euler_rotation.specs.FleetRotations.{AreListed}

pub apart_listed : (t : Tables) (a : List ℕ) (f : ℕ) (pairs : List Connection) (legs : List ℕ) → IsApart t a f pairs legs → AreListed t legs
apart_listed t a f pairs legs is = record {
  known = record { each = λ k lt. (is.flies k lt).known };
  few = few_apart (slice_index legs) (length legs) (legs_in t) (λ k lt. (is.flies k lt).known) (λ j k before lt. differ (slice_index legs j) (slice_index legs k) (is.rise j k before lt));
}
  where
    differ : (m n : ℕ) → m < n → m ≢ n
    differ m n less same = absurd (omega (arith, less, same))

pub order_listed : (t : Tables) (a : List ℕ) (f : ℕ) (order : List ℕ) → IsOrder t a f order → AreListed t order
order_listed t a f order is = record {
  known = record { each = is.known };
  few = few_apart (slice_index order) (length order) (legs_in t) is.known differ;
}
  where
    once : (j k : ℕ) → j < length order → k < length order → slice_index order j ≡ slice_index order k → j ≡ k
    once j k first second same =
        let l = slice_index order k in
        let one : times_in order l ≡ 1 = is.once l (is.known k second) ∙ ap (λ b. if b then 1 else 0) (eq-eqb _ _ (own_leg t a f order is k second)) in
        count_below-one (λ i. slice_index order i == l) (length order) j k one first second (eq-eqb _ _ same) (eq-eqb _ _ refl)

    differ : (j k : ℕ) → j < k → k < length order → slice_index order j ≢ slice_index order k
    differ j k before lt same = let equal = once j k (omega (arith, before, lt)) lt same in absurd (omega (arith, before, equal))

pub tour_listed : (t : Tables) (a : List ℕ) (f : ℕ) (tour : List ℕ) → IsTour t a f tour → AreListed t tour
tour_listed t a f tour is = order_listed t a f tour (tour_order t a f tour is)

-- ---- prefixes
record IsShort (t : Tables) (most : ℕ) (legs : List ℕ) : Type 0 where
  pub known : AreLegsOfTables t legs
  pub short : length legs ≤ most

all_both : (P : List ℕ → Type 0) (xs ys : List (List ℕ)) → All P xs → All P ys → All P (xs ++ ys)
all_both P xs ys first second k d lt = elim (cases_lt k (length xs)) [
  | inl before ↦ subst P (sym (get_or_append_left xs ys d k before)) (first k d before)
  | inr after ↦
      let rest : ℕ = k - length xs in
      let is : length xs + rest ≡ k = omega (arith, after) in
      subst (λ n. P (get_or (xs ++ ys) n d)) is (subst P (sym (get_or-append-add xs ys rest d)) (second rest d (omega (arith, lt, after, length-append xs ys))))
]

all_front : (P : List ℕ → Type 0) (x : List ℕ) (xs : List (List ℕ)) → P x → All P xs → All P (x ∷ xs)
all_front P x xs first rest zero d lt = first
all_front P x xs first rest (suc k) d lt = rest k d (omega (arith, lt))

-- all that comes of the legs that pass
all_passed : (P : List ℕ → Type 0) (g : ℕ → List (List ℕ)) (test : ℕ → Bool) (n : ℕ) → ((l : ℕ) → l < n → All P (g l))
    → (xs : List ℕ) → ((k : ℕ) → k < length xs → slice_index xs k < n) → All P (flat_map g (filter test xs))
all_passed P g test n each [] known = λ k d lt. absurd (omega (arith, lt))
all_passed P g test n each (x ∷ xs) known =
    let rest = all_passed P g test n each xs (λ k lt. known (suc k) (omega (arith, lt))) in
    let step : (b : Bool) → test x ≡ b → All P (flat_map g (if b then x ∷ filter test xs else filter test xs)) → All P (flat_map g (filter test (x ∷ xs))) =
    (λ b e all. subst (λ (ls : List (List ℕ)). All P ls) (ap (λ c. flat_map g (if c then x ∷ filter test xs else filter test xs)) (sym e)) all) in
    by_test (test x)
    (λ e. step true e (all_both P (g x) (flat_map g (filter test xs)) (each x (known 0 (omega arith))) rest))
    (λ e. step false e rest)

module _ (t : Tables) (a : List ℕ) (f : ℕ) (pairs : List Connection) (days : ℕ) (order : List ℕ) (is : IsOrder t a f order) where
  longer : (front : List ℕ) (last : ℕ) → AreLegsOfTables t front → last < legs_in t → AreLegsOfTables t (front ++ last ∷ [])
  longer front last known lt = record { each = each }
    where
      each : (k : ℕ) → k < length (front ++ last ∷ []) → slice_index (front ++ last ∷ []) k < legs_in t
      each k within = elim (cases_lt k (length front)) [
        | inl before ↦ subst (λ l. l < legs_in t) (sym (get_or_append_left front (last ∷ []) 0 k before)) (known.each k before)
        | inr after ↦
            let here : length front ≡ k = omega (arith, within, after, length-append front (last ∷ [])) in
            subst (λ l. l < legs_in t) (sym (get_or_push front last 0 k here)) lt
      ]

  entries_short : (n : ℕ) (front : List ℕ) (last : ℕ) → length front + n ≤ length order → AreLegsOfTables t front → last < legs_in t
      → All (IsShort t (length order)) (preorder_from t a f pairs days order n front last)
  entries_short zero front last few known lt = λ k d within. absurd (omega (arith, within))
  entries_short (suc n) front last few known lt =
      let next = front ++ last ∷ [] in
      let size : length next ≡ length front + 1 = length-append front (last ∷ []) in
      all_front (IsShort t (length order)) next (flat_map (preorder_from t a f pairs days order n next) (filter (may_follow t a f pairs days front last) order))
      (record { known = longer front last known lt; short = omega (arith, few, size) })
      (all_passed (IsShort t (length order)) (preorder_from t a f pairs days order n next) (may_follow t a f pairs days front last) (legs_in t)
      (λ l within. entries_short n next l (omega (arith, few, size)) (longer front last known lt) within) order is.known)

  preorder_short : All (IsShort t (length order)) (preorder t a f pairs days order)
  unfolding preorder
  preorder_short = elim (cases_lt 0 (length order)) [
    | inl some ↦ entries_short (length order) [] (slice_index order 0) (omega arith) (record { each = λ k lt. absurd (omega (arith, lt)) }) (is.known 0 some)
    | inr none ↦ (let empty : length order ≡ 0 = omega (arith, none) in
        subst (λ n. All (IsShort t (length order)) (preorder_from t a f pairs days order n [] (slice_index order 0))) (sym empty) (λ k d lt. absurd (omega (arith, lt))))
  ]

  pub prefix_listed : (visits : ℕ) (prefix : List ℕ) → visits < length (preorder t a f pairs days order) → prefix ≡ numbered_entries (preorder t a f pairs days order) visits → AreListed t prefix
  prefix_listed zero prefix more last = subst (AreListed t) (sym last) (record { known = record { each = λ k lt. absurd (omega (arith, lt)) }; few = omega arith })
  prefix_listed (suc k) prefix more last =
      let entry = preorder_short k [] (omega (arith, more)) in
      let few = (order_listed t a f order is).few in
      subst (AreListed t) (sym last) (record { known = entry.known; few = omega (arith, entry.short, few) })
