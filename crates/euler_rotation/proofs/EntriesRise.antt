-- In which order the preorder lists its entries, and that none of them stands twice.
use Rattle.std.proofs.Common.{◌≡◌, ◌≢◌, ℕ, zero, suc, ◌+◌, ◌<◌, ◌⊎◌, Bool, true, ◌==◌, if◌then◌else◌, All, AllPairs, inl, inr, List, [], ◌∷◌, ◌++◌, length, slice_index, refl, sym, ◌∙◌, ap, subst, arith, append-nil, append_assoc, length-append}
use Rattle.std.specs.List.{filter, flat_map}
use Rattle.std.proofs.Math.Seq.{get_or-append_seam}
use Rattle.std.proofs.lemmas.Bool.{eq-eqb, eqb-true}
use Rattle.std.proofs.lemmas.List.Elements.{All-append, All-cons}
use Rattle.std.proofs.lemmas.List.Kept.{AllPairs-cons}
use Rattle.sums.proofs.Counts.{count_below-one}
use Rattle.sums.proofs.Tests.{by_test}
use Rattle.fleet_model.specs.declared.parts.Connection.{Connection}
use Rattle.fleet_model.specs.declared.tables.Tables.{Tables}
use Rattle.euler_rotation.specs.Prefixes.{has_leg, may_follow, preorder, preorder_from}
use Rattle.euler_rotation.specs.PrefixLaws.{EntriesRise, GoesOnBehind, NoEntryTwice, PartsEarlier}
use Rattle.euler_rotation.specs.Tours.{IsOrder, times_in}
use Rattle.euler_rotation.proofs.EntriesKept.{all_flat}
use Rattle.euler_rotation.proofs.Gaps.{some_place}
use Rattle.euler_rotation.proofs.TourTurns.{own_leg}

-- ---- lists

pairs_append : (R : List ℕ → List ℕ → Type 0) (xs ys : List (List ℕ)) → AllPairs R xs → AllPairs R ys → All (λ x. All (R x) ys) xs → AllPairs R (xs ++ ys)
pairs_append R [] ys first second apart = second
pairs_append R (x ∷ xs) ys first second apart =
    AllPairs-cons R x (xs ++ ys) (All-append (R x) xs ys (λ k d lt. first 0 (suc k) d (omega arith) (omega arith)) (apart 0 [] (omega arith)))
    (pairs_append R xs ys (λ i j d less lt. first (suc i) (suc j) d (omega arith) (omega arith)) second (λ k d lt. apart (suc k) d (omega arith)))

-- the list begins with these legs
abbrev IsBehind : List ℕ → List ℕ → Type 0
IsBehind legs entry = (rest : List ℕ) × (entry ≡ legs ++ rest)

-- it begins with them and one of some legs more
abbrev IsNext : List ℕ → List ℕ → List ℕ → Type 0
IsNext legs xs entry = (l : ℕ) × (has_leg xs l ≡ true) × IsBehind (legs ++ l ∷ []) entry

goes_on_behind : (legs xs entry : List ℕ) → IsNext legs xs entry → GoesOnBehind legs entry
goes_on_behind legs xs entry is = record { rest = is.0 ∷ is.2.0; some = omega arith; is = is.2.1 ∙ append_assoc legs (is.0 ∷ []) is.2.0 }

-- the legs of the order from a place on
abbrev AreFrom : List ℕ → ℕ → List ℕ → Type 0
AreFrom order n xs = (k j : ℕ) → k < length xs → j ≡ n + k → (j < length order) × (slice_index order j ≡ slice_index xs k)

abbrev ComesBefore : List ℕ → List ℕ → List ℕ → Type 0
ComesBefore order first second = GoesOnBehind first second ⊎ PartsEarlier order first second

parts_earlier : (order legs : List ℕ) (n x : ℕ) (xs first second : List ℕ) → AreFrom order n (x ∷ xs) → IsBehind (legs ++ x ∷ []) first → IsNext legs xs second
    → PartsEarlier order first second
parts_earlier order legs n x xs first second from behind is =
    let place = some_place (λ k. k == is.0) 0 xs is.1 in
    let here = from 0 n (omega arith) (omega arith) in
    let there = from (suc place.0) (n + suc place.0) (omega (arith, place.1)) refl in
    record {
      same = legs;
      earlier = n;
      later = n + suc place.0;
      less = omega arith;
      within = there.0;
      first_rest = behind.0;
      first_is = behind.1 ∙ append_assoc legs (x ∷ []) behind.0 ∙ ap (λ l. legs ++ l ∷ behind.0) (sym here.1);
      second_rest = is.2.0;
      second_is = is.2.1 ∙ append_assoc legs (is.0 ∷ []) is.2.0 ∙ ap (λ l. legs ++ l ∷ is.2.0) (sym (there.1 ∙ eqb-true _ _ place.2));
    }

module _ (order legs : List ℕ) (g : ℕ → List (List ℕ)) (test : ℕ → Bool) (behind : (l : ℕ) → All (IsBehind (legs ++ l ∷ [])) (g l)) where
  all_next : (xs : List ℕ) → All (IsNext legs xs) (flat_map g (filter test xs))
  all_next xs = all_flat (IsNext legs xs) g test xs (λ l own passes k d lt. (l, own, behind l k d lt))

  flat_rises : (n : ℕ) (xs : List ℕ) → AreFrom order n xs → ((l : ℕ) → AllPairs (ComesBefore order) (g l)) → AllPairs (ComesBefore order) (flat_map g (filter test xs))
  flat_rises n [] from each = λ i j d less lt. absurd (omega arith)
  flat_rises n (x ∷ xs) from each =
      let rest = flat_rises (suc n) xs (λ k j lt at. from (suc k) j (omega arith) (omega (arith, at))) each in
      by_test (test x)
      (λ e. subst (λ (ls : List (List ℕ)). AllPairs (ComesBefore order) ls) (sym (ap (λ b. flat_map g (if b then x ∷ filter test xs else filter test xs)) e))
      (pairs_append (ComesBefore order) (g x) (flat_map g (filter test xs)) (each x) rest
      (λ k d lt i c less. inr (parts_earlier order legs n x xs _ _ from (behind x k d lt) (all_next xs i c less)))))
      (λ e. subst (λ (ls : List (List ℕ)). AllPairs (ComesBefore order) ls) (sym (ap (λ b. flat_map g (if b then x ∷ filter test xs else filter test xs)) e)) rest)

-- ---- the entries

module _ (t : Tables) (a : List ℕ) (f : ℕ) (pairs : List Connection) (days : ℕ) (order : List ℕ) where
  each_behind : (n : ℕ) (front : List ℕ) (last : ℕ) → All (IsBehind (front ++ last ∷ [])) (preorder_from t a f pairs days order n front last)
  each_behind zero front last = λ k d lt. absurd (omega arith)
  each_behind (suc n) front last =
      All-cons (IsBehind (front ++ last ∷ [])) (front ++ last ∷ []) (flat_map (preorder_from t a f pairs days order n (front ++ last ∷ [])) (filter (may_follow t a f pairs days front last) order))
      ([], sym (append-nil (front ++ last ∷ [])))
      (all_flat (IsBehind (front ++ last ∷ [])) (preorder_from t a f pairs days order n (front ++ last ∷ [])) (may_follow t a f pairs days front last) order
      (λ l own passes k d lt. let further = each_behind n (front ++ last ∷ []) l k d lt in (l ∷ further.0, further.1 ∙ append_assoc (front ++ last ∷ []) (l ∷ []) further.0)))

  each_rises : (n : ℕ) (front : List ℕ) (last : ℕ) → AllPairs (ComesBefore order) (preorder_from t a f pairs days order n front last)
  each_rises zero front last = λ i j d less lt. absurd (omega arith)
  each_rises (suc n) front last =
      let g : ℕ → List (List ℕ) = preorder_from t a f pairs days order n (front ++ last ∷ []) in
      let test : ℕ → Bool = may_follow t a f pairs days front last in
      AllPairs-cons (ComesBefore order) (front ++ last ∷ []) (flat_map g (filter test order))
      (λ k d lt. inl (goes_on_behind (front ++ last ∷ []) order _ (all_next order (front ++ last ∷ []) g test (each_behind n (front ++ last ∷ [])) order k d lt)))
      (flat_rises order (front ++ last ∷ []) g test (each_behind n (front ++ last ∷ [])) 0 order from_first (each_rises n (front ++ last ∷ [])))
    where
      from_first : AreFrom order 0 order
      from_first k j lt at = let same : j ≡ k = omega (arith, at) in (omega (arith, lt, at), ap (slice_index order) same)

pub entries_rise : EntriesRise
unfolding preorder
entries_rise t a f pairs days order j k less lt = each_rises t a f pairs days order (length order) [] (slice_index order 0) j k [] less lt

-- ---- none twice
order_once : (t : Tables) (a : List ℕ) (f : ℕ) (order : List ℕ) → IsOrder t a f order → (j k : ℕ) → j < k → k < length order → slice_index order j ≡ slice_index order k → ⊥
order_once t a f order is j k less lt same =
    let l = slice_index order k in
    let one : times_in order l ≡ 1 = is.once l (is.known k lt) ∙ ap (λ b. if b then 1 else 0) (eq-eqb _ _ (own_leg t a f order is k lt)) in
    let equal : j ≡ k = count_below-one (λ i. slice_index order i == l) (length order) j k one (omega arith) lt (eq-eqb _ _ same) (eq-eqb _ _ refl) in
    omega (arith, equal, less)

differ : (t : Tables) (a : List ℕ) (f : ℕ) (order : List ℕ) → IsOrder t a f order → (first second : List ℕ) → ComesBefore order first second → first ≢ second
differ t a f order is first second (inl behind) same =
    absurd (omega (arith, behind.some, ap length (same ∙ behind.is), length-append first behind.rest))
differ t a f order is first second (inr parts) same =
    order_once t a f order is parts.earlier parts.later parts.less parts.within
    (sym (get_or-append_seam parts.same (slice_index order parts.earlier) parts.first_rest 0) ∙ ap (λ entry. slice_index entry (length parts.same)) (sym parts.first_is ∙ same ∙ parts.second_is)
    ∙ get_or-append_seam parts.same (slice_index order parts.later) parts.second_rest 0)

pub no_entry_twice : NoEntryTwice
no_entry_twice t a f pairs days order j k is less lt = differ t a f order is _ _ (entries_rise t a f pairs days order j k less lt)
