-- The list of subproblems after one of them was split: which stands where.
use Rattle.std.proofs.Common.{◌≡◌, ℕ, suc, ◌<◌, Bool, true, false, List, [], ◌∷◌, ◌++◌, All, length, set, get_or, Option, Some, None, Result, Ok, Err, OnOk, IfSome, length-append, length-set, get_or-set_same, get_or-set_other, sym, ◌∙◌, ap, subst, arith}
use Rattle.std.specs.Prelude.{IsSome}
use Rattle.std.specs.declared.cmp.Ordering.TheVariants.{Less}
use Rattle.std.proofs.lemmas.Bool.Decides.{nat_tests}
use Rattle.std.proofs.lemmas.Int.{ints}
use Rattle.std.proofs.lemmas.List.Elements.{All-weaker}
use Rattle.std.proofs.lemmas.List.{get_or_append_left, get_or_push, get_or_read}
use Rattle.fleet_model.specs.declared.parts.Pair.{Pair}
use Rattle.branch_bound.specs.History.{IsGrown, IsPut, IsSplitSearch, split_state}
use Rattle.branch_bound.specs.Ranks.{RankComesBefore, rank_cmp, ranks_with}
use Rattle.branch_bound.specs.Search.{at, no_subproblem, step_into}
use Rattle.branch_bound.specs.declared.ranks.Rank.{Rank}
use Rattle.branch_bound.specs.declared.search.Search.{Search}
use Rattle.branch_bound.specs.declared.subproblems.Origin.{Origin}
use Rattle.node_bounding.specs.declared.states.State.{State}
use Rattle.branch_bound.specs.declared.subproblems.Subproblem.{Subproblem}

abbrev of : ℕ → Pair → Bool → Option Origin
of number pair taken = Some (record { parent = number; step = step_into pair taken })

-- a list in which one entry is replaced, with two more behind it
module _ (xs : List Subproblem) (number : ℕ) (pair : Pair) (here one two : Subproblem) (within : number < length xs) where
  abbrev longer : List Subproblem
  longer = (set xs number here ++ one ∷ []) ++ two ∷ []

  count : length longer ≡ suc (suc (length xs))
  count = omega (arith, length-append (set xs number here ++ one ∷ []) (two ∷ []), length-append (set xs number here) (one ∷ []), length-set {A = Subproblem} xs number here)

  before : (k : ℕ) → k < length xs → at longer k ≡ at (set xs number here) k
  before k less =
      get_or_append_left (set xs number here ++ one ∷ []) (two ∷ []) no_subproblem k (omega (arith, length-append (set xs number here) (one ∷ []), length-set {A = Subproblem} xs number here))
      ∙ get_or_append_left (set xs number here) (one ∷ []) no_subproblem k (omega (arith, length-set {A = Subproblem} xs number here))

  pub grown : (yes no : State) → here ≡ record { origin = (at xs number).origin; state = split_state (at xs number).state } → one ≡ record { origin = of number pair true; state = yes } → two ≡ record { origin = of number pair false; state = no }
      → IsGrown xs longer number pair yes no
  grown first second here_is one_is two_is = record {
    longer = count;
    split = before number within ∙ get_or-set_same xs number here no_subproblem within ∙ here_is;
    same = λ k less other. before k less ∙ get_or-set_other xs number k here no_subproblem other;
    with_pair = get_or_append_left (set xs number here ++ one ∷ []) (two ∷ []) no_subproblem (length xs) (omega (arith, length-append (set xs number here) (one ∷ []), length-set {A = Subproblem} xs number here))
        ∙ get_or_push (set xs number here) one no_subproblem (length xs) (length-set {A = Subproblem} xs number here) ∙ one_is;
    without = get_or_push (set xs number here ++ one ∷ []) two no_subproblem (suc (length xs)) (omega (arith, length-append (set xs number here) (one ∷ []), length-set {A = Subproblem} xs number here)) ∙ two_is;
  }

-- the search, step by step
module _ (before begun middle after : Search) (number : ℕ) (pair : Pair) (yes no : State) (old here : Subproblem) (first second : Option Origin) where
  pub added : number < length before.made.items → old ≡ get_or before.made.items number old → here ≡ record { origin = old.origin; state = split_state old.state }
      → begun.nodes ≡ before.nodes → begun.pivots ≡ before.pivots → begun.best ≡ before.best → begun.splits ≡ suc before.splits → begun.made.items ≡ set before.made.items number here
      → ((rank : Rank) (rest : List Rank) → before.waiting.keys ≡ rank ∷ rest → begun.waiting.keys ≡ rest) → ((rank : Rank) (rest : List Rank) → before.waiting.keys ≡ rank ∷ rest → All (RankComesBefore rank) rest)
      → first ≡ of number pair true → second ≡ of number pair false → IsPut begun middle first yes → IsPut middle after second no → IsSplitSearch before after number pair yes no
  added within old_is here_is nodes pivots best splits made ranks later first_is second_is one two =
      let old_at : old ≡ at before.made.items number = get_or_read before.made.items number old within old_is no_subproblem in
      let count : length begun.made.items ≡ length before.made.items = ap length made ∙ length-set {A = Subproblem} before.made.items number here in
      let more : length middle.made.items ≡ suc (length before.made.items) = omega (arith, ap length one.made, length-append begun.made.items (record { origin = first; state = yes } ∷ []), count) in
      record {
        nodes = two.nodes ∙ one.nodes ∙ nodes;
        pivots = two.pivots ∙ one.pivots ∙ pivots;
        best = two.best ∙ one.best ∙ best;
        splits = two.splits ∙ one.splits ∙ splits;
        made = subst (λ xs. IsGrown before.made.items xs number pair yes no) (sym (two.made ∙ ap (λ xs. xs ++ record { origin = second; state = no } ∷ []) (one.made ∙ ap (λ xs. xs ++ record { origin = first; state = yes } ∷ []) made)))
            (grown before.made.items number pair here (record { origin = first; state = yes }) (record { origin = second; state = no }) within yes no
            (here_is ∙ ap (λ s. record { origin = s.origin; state = split_state s.state }) old_at) (ap (λ o. record { origin = o; state = yes }) first_is) (ap (λ o. record { origin = o; state = no }) second_is));
        later = later;
        ranks = λ rank rest keys.
            two.ranks ∙ ap (λ n. ranks_with middle.waiting.keys n no) more
            ∙ ap (λ ks. ranks_with ks (suc (length before.made.items)) no) (one.ranks ∙ ap (λ n. ranks_with begun.waiting.keys n yes) count ∙ ap (λ ks. ranks_with ks (length before.made.items) yes) (ranks rank rest keys));
      }

-- the ranks behind the first
pub popped : (keys left : List Rank) (first : Option Rank) → IfSome first (λ k. keys ≡ k ∷ left) → (0 < length keys → IsSome first) → (rank : Rank) (rest : List Rank) → keys ≡ rank ∷ rest → left ≡ rest
popped keys left None removal some rank rest is = let e : false ≡ true = some (omega (arith, ap length is)) in cc
popped keys left (Some k) removal some rank rest is = cc

-- a rank that is less comes before another
less_before : (a b : Rank) → rank_cmp a b ≡ Less → RankComesBefore a b
less_before a b e = record { is = grind (arith, ints, nat_tests, e) }

pub popped_later : (keys left : List Rank) (first : Option Rank) → IfSome first (λ k. keys ≡ k ∷ left) → IfSome first (λ k. All (λ other. rank_cmp k other ≡ Less) left) → (0 < length keys → IsSome first)
    → (rank : Rank) (rest : List Rank) → keys ≡ rank ∷ rest → All (RankComesBefore rank) rest
popped_later keys left None removal above some rank rest is = let e : false ≡ true = some (omega (arith, ap length is)) in cc
popped_later keys left (Some k) removal above some rank rest is =
    let same : k ≡ rank = cc in
    let all : left ≡ rest = cc in
    subst (λ ks. All (RankComesBefore rank) ks) all (subst (λ r. All (RankComesBefore r) left) same (All-weaker (λ other. rank_cmp k other ≡ Less) (RankComesBefore k) (less_before k) left above))

-- what follows where a call went well
pub where_ok : {X : Type 0} {E : Type 0} (r : Result X E) (P Q : Type 0) → (P → Q) → OnOk r P → OnOk r Q
where_ok (Ok x) P Q follows is = follows is
where_ok (Err e) P Q follows is = tt

-- a subproblem is put behind a list, and then ranked as it is read there
pub put_behind : (before after : Search) (origin : Option Origin) (one : State) (own : Subproblem) (number : ℕ) → after.nodes ≡ before.nodes → after.pivots ≡ before.pivots → after.best ≡ before.best → after.splits ≡ before.splits
    → after.made.items ≡ before.made.items ++ record { origin = origin; state = one } ∷ [] → number ≡ length before.made.items → own ≡ get_or after.made.items number own → after.waiting.keys ≡ ranks_with before.waiting.keys number own.state
    → IsPut before after origin one
put_behind before after origin one own number nodes pivots best splits made there is ranks =
    let pushed : Subproblem = record { origin = origin; state = one } in
    let read : own ≡ pushed = is ∙ ap (λ xs. get_or xs number own) made ∙ get_or_push before.made.items pushed own number (sym there) in
    record {
      nodes = nodes;
      pivots = pivots;
      best = best;
      splits = splits;
      made = made;
      ranks = ranks ∙ ap (λ n. ranks_with before.waiting.keys n own.state) there ∙ ap (λ (s : Subproblem). ranks_with before.waiting.keys (length before.made.items) s.state) read;
    }
