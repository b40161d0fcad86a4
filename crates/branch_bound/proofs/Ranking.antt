-- The ranks of the subproblems that wait, after one was split.
use Rattle.std.proofs.Common.{◌≡◌, ◌≢◌, ℕ, zero, suc, ◌<◌, List, [], ◌∷◌, All, length, ℤ, inl, inr, refl, sym, ◌∙◌, ap, subst, arith}
use Rattle.std.specs.List.{Contains}
use Rattle.std.specs.BTreeSet.{insert_key}
use Rattle.std.specs.declared.cmp.Ordering.{Ordering}
use Rattle.std.specs.declared.cmp.Ordering.TheVariants.{Equal, Greater, Less}
use Rattle.std.specs.Ordering.{match_ordering}
use Rattle.std.proofs.lemmas.Bool.Decides.{nat_tests}
use Rattle.std.proofs.lemmas.Int.{ints}
use Rattle.std.proofs.lemmas.Map.Views.{All-insert_key}
use Rattle.fleet_model.specs.declared.parts.Pair.{Pair}
use Rattle.branch_bound.specs.History.{IsGrown, split_state}
use Rattle.node_bounding.specs.Made.{IsNextBefore}
use Rattle.branch_bound.specs.Ranks.{AreRanks, IsRankIn, IsWaitingAt, RankComesBefore, rank_cmp, ranks_with}
use Rattle.branch_bound.specs.Search.{at}
use Rattle.branch_bound.specs.declared.ranks.Rank.{Rank}
use Rattle.node_bounding.specs.declared.states.Fraction.{Fraction}
use Rattle.node_bounding.specs.declared.states.State.{State}
use Rattle.node_bounding.specs.declared.states.State.TheVariants as state
use Rattle.branch_bound.specs.declared.subproblems.Subproblem.{Subproblem}
use Rattle.branch_bound.proofs.Updates.{by_new}

-- ---- a list of ranks with one more
contains_first : (x : Rank) (ks : List Rank) → Contains (x ∷ ks) x
contains_first x ks = (0, omega arith, refl)

contains_after : (y x : Rank) (ks : List Rank) → Contains ks x → Contains (y ∷ ks) x
contains_after y x ks (k, below, is) = (suc k, omega (arith, below), is)

-- an entry of a list that isn't its first
not_first : (y x : Rank) (ks : List Rank) → Contains (y ∷ ks) x → y ≢ x → Contains ks x
not_first y x ks (zero, below, is) other = absurd (other is)
not_first y x ks (suc k, below, is) other = (k, omega (arith, below), is)

abbrev rank_of : ℤ → ℕ → Rank
rank_of worth number = record { worth = worth; number = number }

same_rank : (w v : ℤ) (n m : ℕ) → w ≡ v → n ≡ m → rank_of w n ≡ rank_of v m
same_rank w v n m p q = ap (λ x. rank_of x n) p ∙ ap (λ k. rank_of v k) q

equal_same : (a b : Rank) → rank_cmp a b ≡ Equal → a ≡ b
equal_same a b e =
    let worth : a.worth ≡ b.worth = grind (arith, ints, nat_tests, e) in
    let number : a.number ≡ b.number = grind (arith, ints, nat_tests, e) in
    same_rank a.worth b.worth a.number b.number worth number

by_order : {X : Type 0} (P : X → Type 0) (o : Ordering) (x y z : X) → (o ≡ Less → P x) → (o ≡ Equal → P y) → (o ≡ Greater → P z) → P (match_ordering o x y z)
by_order P Less x y z p q r = p refl
by_order P Equal x y z p q r = q refl
by_order P Greater x y z p q r = r refl

inserted : (ks : List Rank) (k : Rank) → Contains (insert_key rank_cmp ks k) k
inserted [] k = contains_first k []
inserted (x ∷ ks) k =
    by_order (λ l. Contains l k) (rank_cmp k x) (k ∷ x ∷ ks) (x ∷ ks) (x ∷ insert_key rank_cmp ks k)
    (λ e. contains_first k (x ∷ ks)) (λ e. subst (λ y. Contains (x ∷ ks) y) (sym (equal_same k x e)) (contains_first x ks)) (λ e. contains_after x k (insert_key rank_cmp ks k) (inserted ks k))

stays : (ks : List Rank) (k y : Rank) → Contains ks y → Contains (insert_key rank_cmp ks k) y
stays [] k y (n, below, is) = absurd (omega (arith, below))
stays (x ∷ ks) k y (zero, below, is) =
    subst (λ z. Contains (insert_key rank_cmp (x ∷ ks) k) z) is
    (by_order (λ l. Contains l x) (rank_cmp k x) (k ∷ x ∷ ks) (x ∷ ks) (x ∷ insert_key rank_cmp ks k) (λ e. contains_after k x (x ∷ ks) (contains_first x ks)) (λ e. contains_first x ks) (λ e. contains_first x (insert_key rank_cmp ks k)))
stays (x ∷ ks) k y (suc n, below, is) =
    let there : Contains ks y = (n, omega (arith, below), is) in
    by_order (λ l. Contains l y) (rank_cmp k x) (k ∷ x ∷ ks) (x ∷ ks) (x ∷ insert_key rank_cmp ks k)
    (λ e. contains_after k y (x ∷ ks) (contains_after x y ks there)) (λ e. contains_after x y ks there) (λ e. contains_after x y (insert_key rank_cmp ks k) (stays ks k y there))

-- what holds of all ranks, and of that of one more subproblem where it waits
pub all_with : (P : Rank → Type 0) (ks : List Rank) (n : ℕ) (made : State) → All P ks → ((worth : ℤ) → IsWaitingAt made worth → P (record { worth = worth; number = n })) → All P (ranks_with ks n made)
all_with P ks n (state.Waiting f) all more = All-insert_key rank_cmp _ P ks all (more f.worth refl)
all_with P ks n other all more = all

stays_with : (ks : List Rank) (n : ℕ) (made : State) (y : Rank) → Contains ks y → Contains (ranks_with ks n made) y
stays_with ks n (state.Waiting f) y there = stays ks _ y there
stays_with ks n other y there = there

pub inserted_with : (ks : List Rank) (n : ℕ) (made : State) (worth : ℤ) → IsWaitingAt made worth → Contains (ranks_with ks n made) (record { worth = worth; number = n })
inserted_with ks n (state.Waiting f) worth is = subst (λ w. Contains (ranks_with ks n (state.Waiting f)) (record { worth = w; number = n })) is (inserted ks (record { worth = f.worth; number = n }))
inserted_with ks n other worth is = absurd is

-- no rank comes before itself
pub not_before : (worth : ℤ) (n : ℕ) → ¬ (IsNextBefore worth n worth n)
not_before worth n (inl less) = absurd (omega (arith, ints, less))
not_before worth n (inr same) = absurd (omega (arith, same.1))

-- ---- after a split
module _ (all grown : List Subproblem) (rank : Rank) (rest ranks : List Rank) (f : Fraction) (pair : Pair) (yes no : State)
    (is : IsGrown all grown rank.number pair yes no) (state_is : (at all rank.number).state ≡ state.Waiting f) (worth_is : f.worth ≡ rank.worth)
    (before : AreRanks all (rank ∷ rest)) (later : All (RankComesBefore rank) rest) (ranks_is : ranks ≡ ranks_with (ranks_with rest (length all) yes) (suc (length all)) no) where
  -- the other ranks are of other subproblems, which wait as before
  stay : (other : Rank) → IsRankIn all other → RankComesBefore rank other → IsRankIn grown other
  stay other old behind = record {
    within = omega (arith, old.within, is.longer);
    waits = subst (λ s. IsWaitingAt s.state other.worth) (sym (is.same other.number old.within differs)) old.waits;
  }
    where
      differs : other.number ≢ rank.number
      differs same =
          let there : IsWaitingAt (state.Waiting f) other.worth = subst (λ s. IsWaitingAt s other.worth) (ap (λ n. (at all n).state) same ∙ state_is) old.waits in
          let worth : other.worth ≡ rank.worth = sym there ∙ worth_is in
          not_before rank.worth rank.number (subst (λ w. IsNextBefore rank.worth rank.number w rank.number) worth (subst (λ n. IsNextBefore rank.worth rank.number other.worth n) same behind.is))

  all_stay : (ks : List Rank) → All (IsRankIn all) ks → All (RankComesBefore rank) ks → All (IsRankIn grown) ks
  all_stay ks old behind k d below = stay _ (old k d below) (behind k d below)

  one_more : (n : ℕ) (made : State) → n < length grown → (at grown n).state ≡ made → (worth : ℤ) → IsWaitingAt made worth → IsRankIn grown (record { worth = worth; number = n })
  one_more n made within at_is worth waits = record { within = within; waits = subst (λ s. IsWaitingAt s worth) (sym at_is) waits }

  each : All (IsRankIn grown) ranks
  each =
      subst (λ ks. All (IsRankIn grown) ks) (sym ranks_is)
      (all_with (IsRankIn grown) (ranks_with rest (length all) yes) (suc (length all)) no
      (all_with (IsRankIn grown) rest (length all) yes (all_stay rest (λ k d below. before.each (suc k) d (omega (arith, below))) later) (one_more (length all) yes (omega (arith, is.longer)) (ap (λ s. s.state) is.with_pair)))
      (one_more (suc (length all)) no (omega (arith, is.longer)) (ap (λ s. s.state) is.without)))

  abbrev Has : ℕ → Type 0
  Has k = (worth : ℤ) → IsWaitingAt (at grown k).state worth → Contains ranks (record { worth = worth; number = k })

  has_old : (k : ℕ) → k < length all → k ≢ rank.number → Has k
  has_old k within other worth waits =
      let old = before.every k worth within (subst (λ s. IsWaitingAt s.state worth) (is.same k within other) waits) in
      let there : Contains rest (record { worth = worth; number = k }) = not_first rank _ rest old (λ same. other (sym (ap (λ r. r.number) same))) in
      subst (λ ks. Contains ks (record { worth = worth; number = k })) (sym ranks_is) (stays_with (ranks_with rest (length all) yes) (suc (length all)) no _ (stays_with rest (length all) yes _ there))

  has_here : Has rank.number
  has_here worth waits =
      let none : IsWaitingAt (state.Split f) worth = subst (λ s. IsWaitingAt s worth) (ap (λ s. s.state) is.split ∙ ap split_state state_is) waits in
      absurd none

  has_first : Has (length all)
  has_first worth waits =
      let there = inserted_with rest (length all) yes worth (subst (λ s. IsWaitingAt s.state worth) is.with_pair waits) in
      subst (λ ks. Contains ks (record { worth = worth; number = length all })) (sym ranks_is) (stays_with (ranks_with rest (length all) yes) (suc (length all)) no _ there)

  has_second : Has (suc (length all))
  has_second worth waits =
      subst (λ ks. Contains ks (record { worth = worth; number = suc (length all) })) (sym ranks_is) (inserted_with (ranks_with rest (length all) yes) (suc (length all)) no worth (subst (λ s. IsWaitingAt s.state worth) is.without waits))

  pub ranks_grown : AreRanks grown ranks
  ranks_grown = record {
    each = each;
    every = λ k worth within. by_new Has rank.number (length all) has_here has_old has_first has_second k (subst (λ m. k < m) is.longer within) worth;
  }
