-- Where each leg has a pair, the first of its quickest fleets is one.
use Rattle.std.proofs.Common.{◌≡◌, ℕ, zero, suc, ◌+◌, ◌<◌, ◌==◌, true, false, Option, Some, None, IsSome, is_some, ℤ, List, [], ◌∷◌, ◌++◌, length, refl, sym, ◌∙◌, ap, subst, inl, inr, arith}
use Rattle.std.proofs.lemmas.Bool.{cases_lt}
use Rattle.std.proofs.lemmas.Bool.Decides.{nat_tests}
use Rattle.std.proofs.lemmas.List.{get_or_append_left, get_or_push, length_push}
use Rattle.sums.proofs.Tests.{both_true, never_passes, no_both, parts_true}
use Rattle.fleet_model.specs.declared.tables.Tables.{Tables}
use Rattle.fleet_model.specs.Counts.{choice_at}
use Rattle.fleet_model.specs.Kept.{all_pairs}
use Rattle.fleet_model.specs.Legal.{cost_of}
use Rattle.fleet_model.specs.Schedule.{fleets_in, legs_in}
use Rattle.fleet_model.specs.OwnTimes.{own_pair}
use Rattle.fleet_model.specs.Times.{busy_minutes}
use Rattle.node_aggregate.specs.island_cut.Islands.{flyers_of, have_pairs, is_quicker, is_quickest, quickest_of}
use Rattle.node_aggregate.specs.island_cut.Spare.{AreQuickest, HavePairs, IsBest, IsQuickest, NoneFlies}
use Rattle.node_aggregate.proofs.island_cut.Counted.{count_none, first_passes, none_counted}
use Rattle.node_aggregate.proofs.island_cut.NonePairs.{some_best}

-- whether no fleet may fly a leg, by how many may
none_flies : (t : Tables) (l : ℕ) → (flyers_of t l == 0) ≡ true → NoneFlies t l (fleets_in t)
none_flies t l e f known = never_some (cost_of t (own_pair t l f)) (none_counted (λ g. all_pairs t (own_pair t l g)) (fleets_in t) f e known)
  where
    never_some : (cost : Option ℤ) → is_some cost ≡ false → cost ≡ None
    never_some None e = refl
    never_some (Some c) e = cc

where_none_flies : (t : Tables) (l : ℕ) → NoneFlies t l (fleets_in t) → (flyers_of t l == 0) ≡ true
where_none_flies t l none = count_none (λ f. all_pairs t (own_pair t l f)) (fleets_in t) (λ f known. ap is_some (none f known))

pub pairs_tested : (t : Tables) → have_pairs t ≡ true → HavePairs t
pairs_tested t e = record { each = λ l below none. no_both (none_counted (λ k. flyers_of t k == 0) (legs_in t) l e below) (where_none_flies t l none) }

pub pairs_had : (t : Tables) → HavePairs t → have_pairs t ≡ true
pairs_had t pairs = count_none (λ k. flyers_of t k == 0) (legs_in t) (λ l below. never_passes (flyers_of t l == 0) (λ e. pairs.each l below (none_flies t l e)))

pub pairs_lacking : (t : Tables) (l : ℕ) → l < legs_in t → NoneFlies t l (fleets_in t) → have_pairs t ≡ false
pairs_lacking t l below none = never_passes (have_pairs t) (λ e. (pairs_tested t e).each l below none)

-- one fleet more
with_one_more : (t : Tables) (l n : ℕ) (best : Option ℕ) → IsBest t l n best → (cost : Option ℤ) → cost_of t (own_pair t l n) ≡ cost → (next : Option ℕ) × IsBest t l (suc n) next
with_one_more t l n None none None e = (
  None,
  λ f below. elim (cases_lt f n) [
    | inl before ↦ none f before
    | inr last ↦ let same : f ≡ n = omega arith in rw same e
  ],
)
with_one_more t l n None none (Some c) e = (
  Some n,
  record {
    known = omega arith;
    allowed = rw e refl;
    quickest = λ g below some. elim (cases_lt g n) [
      | inl before ↦ absurd (no_both (ap is_some (none g before)) some)
      | inr last ↦ let same : g ≡ n = omega arith in rw same (omega arith)
    ];
  },
)
with_one_more t l n (Some b) is None e = (
  Some b,
  record {
    known = omega (arith, is.known);
    allowed = is.allowed;
    quickest = λ g below some. elim (cases_lt g n) [
      | inl before ↦ is.quickest g before some
      | inr last ↦ let same : g ≡ n = omega arith in absurd (no_both (ap (λ j. is_some (cost_of t (own_pair t l j))) same ∙ ap is_some e) some)
    ];
  },
)
with_one_more t l n (Some b) is (Some c) e = elim (cases_lt (busy_minutes t (own_pair t l n)) (busy_minutes t (own_pair t l b))) [
  | inl quicker ↦ (
    Some n,
    record {
      known = omega arith;
      allowed = rw e refl;
      quickest = λ g below some. elim (cases_lt g n) [
        | inl before ↦ omega (arith, is.quickest g before some, quicker)
        | inr last ↦ let same : g ≡ n = omega arith in rw same (omega arith)
      ];
    },
  )
  | inr slower ↦ (
    Some b,
    record {
      known = omega (arith, is.known);
      allowed = is.allowed;
      quickest = λ g below some. elim (cases_lt g n) [
        | inl before ↦ is.quickest g before some
        | inr last ↦ let same : g ≡ n = omega arith in rw same slower
      ];
    },
  )
]

best_below : (t : Tables) (l n : ℕ) → (best : Option ℕ) × IsBest t l n best
best_below t l zero = (None, λ f below. absurd (omega arith))
best_below t l (suc n) = let front = best_below t l n in with_one_more t l n front.0 front.1 (cost_of t (own_pair t l n)) refl

-- a quickest fleet passes the test
quickest_passes : (t : Tables) (l f : ℕ) → IsQuickest t l (fleets_in t) f → is_quickest t l f ≡ true
quickest_passes t l f is = both_true _ _ is.allowed (count_none (is_quicker t l f) (fleets_in t) (λ g below. never_passes (is_quicker t l f g) (λ e.
    let parts = parts_true (all_pairs t (own_pair t l g)) _ e in
    let less : busy_minutes t (own_pair t l g) < busy_minutes t (own_pair t l f) = let test = parts.1 in grind (arith, nat_tests) in
    omega (arith, is.quickest g below parts.0, less))))

-- a fleet that passes is a quickest one
passes_quickest : (t : Tables) (l f : ℕ) → f < fleets_in t → is_quickest t l f ≡ true → IsQuickest t l (fleets_in t) f
passes_quickest t l f known e =
    let parts = parts_true (all_pairs t (own_pair t l f)) _ e in
    record {
      known = known;
      allowed = parts.0;
      quickest = λ g below some.
          let fails = none_counted (is_quicker t l f) (fleets_in t) g parts.1 below in
          elim (cases_lt (busy_minutes t (own_pair t l g)) (busy_minutes t (own_pair t l f))) [
            | inl less ↦ absurd (no_both fails (both_true _ _ some (grind (arith, nat_tests))))
            | inr more ↦ more
          ];
    }

some_quickest : (t : Tables) (l : ℕ) → HavePairs t → l < legs_in t → (best : Option ℕ) → IsBest t l (fleets_in t) best → IsSome best → (f : ℕ) × IsQuickest t l (fleets_in t) f
some_quickest t l pairs below (Some f) is some = (f, is)
some_quickest t l pairs below None is some = absurd (no_both refl some)

pub quickest_are : (t : Tables) → HavePairs t → AreQuickest t (quickest_of t)
unfolding quickest_of
quickest_are t pairs = record {
  each = λ l below.
      let best = best_below t l (fleets_in t) in
      let one = some_quickest t l pairs below best.0 best.1 (some_best t l best.0 pairs below best.1) in
      let first = first_passes (is_quickest t l) (fleets_in t) one.0 one.1.known (quickest_passes t l one.0 one.1) in
      passes_quickest t l (quickest_of t l) first.0 first.1;
}

-- one leg more
pub one_quickest_more : (t : Tables) (n : ℕ) (plan more : List ℕ) (q : ℕ) → more ≡ plan ++ q ∷ [] → length plan ≡ n → ((k : ℕ) → k < n → IsQuickest t k (fleets_in t) (choice_at plan k)) → IsQuickest t n (fleets_in t) q
    → (length more ≡ n + 1) × ((k : ℕ) → k < n + 1 → IsQuickest t k (fleets_in t) (choice_at more k))
one_quickest_more t n plan more q pushed long each here = (
  omega (arith, ap length pushed, length_push plan q, long),
  (λ k below. elim (cases_lt k n) [
    | inl before ↦ subst (IsQuickest t k (fleets_in t)) (sym (ap (λ a. choice_at a k) pushed ∙ get_or_append_left plan (q ∷ []) 0 k (omega (arith, long, before)))) (each k before)
    | inr last ↦
        let same : n ≡ k = omega (arith, last, below) in
        subst (λ l. IsQuickest t l (fleets_in t) (choice_at more l)) same (subst (IsQuickest t n (fleets_in t)) (sym (ap (λ a. choice_at a n) pushed ∙ get_or_push plan q 0 n long)) here)
  ]),
)
