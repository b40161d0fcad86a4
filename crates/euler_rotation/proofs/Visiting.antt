-- Prefixes visited one after another.
use Rattle.std.proofs.Common.{◌≡◌, ℕ, suc, ◌+◌, ◌-◌, ◌<◌, ◌≤◌, Bool, true, false, Option, Some, None, List, [], ◌∷◌, drop, length, length-append, slice_index, get_or, refl, sym, ◌∙◌, ap, subst, inl, inr, arith, add-one}
use Rattle.std.proofs.lemmas.Bool.{cases_lt}
use Rattle.std.proofs.lemmas.List.{drop_more, length-drop}
use Rattle.sums.proofs.Tests.{none_some, some_is, unlike}
use Rattle.sums.proofs.Naturals.{last_below}
use Rattle.euler_rotation.specs.declared.field.Field.{Field}
use Rattle.euler_rotation.specs.declared.path.Level.{Level}
use Rattle.euler_rotation.specs.declared.search.Found.{Found}
use Rattle.euler_rotation.specs.declared.search.Found.TheVariants as found
use Rattle.euler_rotation.specs.declared.walk.Walk.{Walk}
use Rattle.euler_rotation.specs.Answers.{AreVisited}
use Rattle.euler_rotation.specs.Prefixes.{numbered_entries, prefix_entry}
use Rattle.euler_rotation.specs.Searches.{EndNone, EndsHere, EndsOrGoesOn, EndsOrNot, GoesOnFrom, HasVisited, IsFound, is_kept_in}
use Rattle.euler_rotation.specs.Walks.{Advances, IsField, WalkStandsAt, legs_of_path, pending_in, preorder_in}
use Rattle.euler_rotation.proofs.Extending.{preorder_first}
use Rattle.euler_rotation.proofs.TourTurns.{own_leg, same_length, tour_order}

-- what stands from a place on
head_is : (xs : List (List ℕ)) (n : ℕ) (x : List ℕ) (ys : List (List ℕ)) → drop n xs ≡ x ∷ ys → (n < length xs) × (prefix_entry xs n ≡ x) × (drop (n + 1) xs ≡ ys)
head_is xs n x ys e =
    let low : n < length xs = within in
    let both : get_or xs n [] ∷ drop (n + 1) xs ≡ x ∷ ys = sym (drop_more xs n [] low) ∙ e in
    (low, heads _ _ _ _ both, tails _ _ _ _ both)
  where
    within : n < length xs
    within = above (length xs) n (length ys) (sym (length-drop n xs) ∙ ap length e)
      where
        above : (m n k : ℕ) → m - n ≡ suc k → n < m
        above m n k e = omega arith

    heads : (x y : List ℕ) (xs ys : List (List ℕ)) → x ∷ xs ≡ y ∷ ys → x ≡ y
    heads x y xs ys e = cc

    tails : (x y : List ℕ) (xs ys : List (List ℕ)) → x ∷ xs ≡ y ∷ ys → xs ≡ ys
    tails x y xs ys e = cc

-- what is said of what was found, of one form for all
unfoldable is_found : Field → ℕ → Found → Type 0
is_found field visits it = IsFound field visits it

module _ (field : Field) where
  module _ (n : ℕ) (walk : Walk) (visited : HasVisited field n walk) (ends : is_kept_in field (legs_of_path walk.path) → ⊥) where
    here : (n < length (preorder_in field)) × (prefix_entry (preorder_in field) n ≡ legs_of_path walk.path) × (drop (n + 1) (preorder_in field) ≡ pending_in field walk.path 0)
    here = head_is (preorder_in field) n (legs_of_path walk.path) (pending_in field walk.path 0) visited.rest

    pub one_none : EndNone field (n + 1)
    one_none = record {
      each = λ k lt kept. elim (cases_lt k n) [
        | inl low ↦ visited.none.each k low kept
        | inr high ↦ ends (subst (is_kept_in field) (ap (prefix_entry (preorder_in field)) (last_below k n lt high) ∙ here.1) kept)
      ];
    }

    pub visited_more : (next : Walk) → WalkStandsAt field (pending_in field walk.path 0) next → HasVisited field (n + 1) next
    visited_more next at = record { walk = at.walk; rest = here.2 ∙ at.first; none = one_none }

    pub visited_all : pending_in field walk.path 0 ≡ [] → EndNone field (length (preorder_in field))
    visited_all none = record { each = λ k lt kept. one_none.each k (omega (arith, lt, few (length (preorder_in field)) n (sym (length-drop (n + 1) (preorder_in field)) ∙ ap length (here.2 ∙ none)))) kept }
      where
        few : (m n : ℕ) → m - (n + 1) ≡ 0 → m ≤ n + 1
        few m n e = omega arith

    pub visited_enough : (visits : ℕ) (next : Walk) (prefix : List ℕ) → IsField field → visits ≡ n + 1 → prefix ≡ legs_of_path walk.path → WalkStandsAt field (pending_in field walk.path 0) next
        → AreVisited field.clean.now.asked.now.tables.now field.clean.now.asked.now.plan.now field.clean.now.asked.now.fleet field.clean.now.asked.now.pairs.now field.clean.now.asked.now.days visits field.order.now prefix
    visited_enough visits next prefix is_field is last at = record {
      each_leg = is_field.order;
      more = omega (arith, is, (head_is (preorder_in field) (n + 1) (legs_of_path next.path) (pending_in field next.path 0) (here.2 ∙ at.first)).0);
      none = λ k lt kept. one_none.each k (omega (arith, lt, is)) kept;
      last = last ∙ sym here.1 ∙ sym (ap (numbered_entries (preorder_in field)) (is ∙ add-one n));
    }

  -- none is visited
  pub visited_at_0 : (prefix : List ℕ) (visits : ℕ) → IsField field → 0 < length (preorder_in field) → visits ≡ 0 → prefix ≡ []
      → AreVisited field.clean.now.asked.now.tables.now field.clean.now.asked.now.plan.now field.clean.now.asked.now.fleet field.clean.now.asked.now.pairs.now field.clean.now.asked.now.days visits field.order.now prefix
  visited_at_0 prefix visits is_field some none empty = record {
    each_leg = is_field.order;
    more = omega arith;
    none = λ k lt kept. absurd (omega arith);
    last = empty ∙ sym (ap (numbered_entries (preorder_in field)) none);
  }

  -- a prefix that hasn't all legs ends no tour
  pub not_ended : (path : List Level) → IsField field → (length path ≡ length field.order.now → ⊥) → is_kept_in field (legs_of_path path) → ⊥
  not_ended path is_field short kept = short (sym (legs_long path) ∙ same_length field.clean.now.asked.now.tables.now field.clean.now.asked.now.plan.now field.clean.now.asked.now.fleet (legs_of_path path) field.order.now (tour_order field.clean.now.asked.now.tables.now field.clean.now.asked.now.plan.now field.clean.now.asked.now.fleet (legs_of_path path) kept.tour) is_field.order)
    where
      legs_long : (path : List Level) → length (legs_of_path path) ≡ length path
      legs_long [] = refl
      legs_long (x ∷ outer) = length-append (legs_of_path outer) (x.leg ∷ []) ∙ add-one (length (legs_of_path outer)) ∙ ap suc (legs_long outer)

  -- the first prefix is there
  pub some_prefix : IsField field → 0 < length (preorder_in field)
  some_prefix is_field = omega (
    arith,
    ap length (preorder_first field.clean.now.asked.now.tables.now field.clean.now.asked.now.plan.now field.clean.now.asked.now.fleet field.clean.now.asked.now.pairs.now
        field.clean.now.asked.now.days field.order.now (record { leg = slice_index field.order.now 0; next = 0; since = 0 }) is_field.some
        (own_leg field.clean.now.asked.now.tables.now field.clean.now.asked.now.plan.now field.clean.now.asked.now.fleet field.order.now is_field.order 0 is_field.some) refl),
  )

  -- what a test of a prefix and a step tell
  pub kept_here : (legs tour : List ℕ) (it : Option (List ℕ)) → EndsOrNot field legs it → it ≡ Some tour → is_kept_in field tour
  kept_here legs tour None ends is = absurd (none_some is)
  kept_here legs tour (Some other) ends is = subst (is_kept_in field) (some_is other tour is) ends

  pub not_here : (legs : List ℕ) (tour : Option (List ℕ)) → EndsOrNot field legs tour → tour ≡ None → is_kept_in field legs → ⊥
  not_here legs None ends none kept = ends kept
  not_here legs (Some tour) ends none kept = none_some (sym none)

  pub moved_on : (old new : Walk) (moved : Bool) → Advances field old new moved → moved ≡ true → WalkStandsAt field (pending_in field old.path 0) new
  moved_on old new true at e = at
  moved_on old new false at e = unlike (sym e)

  pub at_end : (old new : Walk) (moved : Bool) → Advances field old new moved → moved ≡ false → pending_in field old.path 0 ≡ []
  at_end old new true at e = unlike e
  at_end old new false at e = at

  -- what a visit tells
  pub gone_on : (old new : Walk) (it : Option Found) → EndsOrGoesOn field old new it → it ≡ None → GoesOnFrom field old new
  gone_on old new None goes none = goes
  gone_on old new (Some it) ends none = absurd (none_some (sym none))

  ended_here : (n : ℕ) (at : Walk) (visits : ℕ) → HasVisited field n at → (it : Found) → EndsHere field at it → is_found field visits it
  unfolding is_found
  ended_here n at visits visited (found.Tour legs) kept = kept
  ended_here n at visits visited found.Nothing end = visited_all n at visited end.none end.last
  ended_here n at visits visited (found.Spent prefix) end = absurd end

  pub found_here : (n : ℕ) (old new : Walk) (it : Option Found) (what : Found) (visits : ℕ) → HasVisited field n old → EndsOrGoesOn field old new it → it ≡ Some what → IsFound field visits what
  unfolding is_found
  found_here n old new None what visits visited goes is = absurd (none_some is)
  found_here n old new (Some it) what visits visited ends is = subst (is_found field visits) (some_is it what is) (ended_here n old visits visited it ends)
