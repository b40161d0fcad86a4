-- What holds at all nodes of a tree, or at some node.
use Rattle.std.proofs.Common.{ℕ, zero, suc, true, false, List, [], ◌∷◌, ◌++◌, All, length-append, refl, sym, ◌∙◌, subst, arith}
use Rattle.std.specs.List.{Any}
use Rattle.std.proofs.lemmas.List.{get_or_append_left}
use Rattle.std.proofs.lemmas.List.Elements.{All-append, All-cons, All-head, All-nil, All-tail}
use Rattle.fleet_model.specs.Kept.{Domains}
use Rattle.dual_bound.specs.Bound.{part}
use Rattle.dual_bound.specs.declared.trees.Tree.{Tree}
use Rattle.cert_check.specs.Nodes.{Node, nodes_in}

abbrev pub node : Domains → Tree → Node
node keeps whole = record { keeps = keeps; tree = whole }

-- the nodes of two lists
abbrev pub nodes_below : Domains → ℕ → ℕ → Tree → Tree → List Node
nodes_below keeps leg choice with_pair without = nodes_in (part keeps leg choice true) with_pair ++ nodes_in (part keeps leg choice false) without

-- ---- at all
pub all_one : {N : Type 0} (P : N → Type 0) (one : N) → P one → All P (one ∷ [])
all_one P one here = All-cons P one [] here (All-nil P)

pub all_more : {N : Type 0} (P : N → Type 0) (one : N) (first second : List N) → P one → All P first → All P second → All P (one ∷ (first ++ second))
all_more P one first second here all other = All-cons P one (first ++ second) here (All-append P first second all other)

-- each of two lists
pub first_all : {N : Type 0} (P : N → Type 0) (xs ys : List N) → All P (xs ++ ys) → All P xs
first_all P xs ys all k d below = subst P (get_or_append_left xs ys d k below) (all k d (omega (arith, length-append xs ys)))

pub second_all : {N : Type 0} (P : N → Type 0) (xs ys : List N) → All P (xs ++ ys) → All P ys
second_all P [] ys all = all
second_all P (x ∷ xs) ys all = second_all P xs ys (All-tail P x (xs ++ ys) all)

-- .. behind a first one
pub both_all : {N : Type 0} (P : N → Type 0) (one : N) (first second : List N) → All P (one ∷ (first ++ second)) → All P first × All P second
both_all P one first second all =
    let below = All-tail P one (first ++ second) all in
    (first_all P first second below, second_all P first second below)

-- what holds of a first one and of each list behind it goes over to others, one by one
pub all_turned : {N : Type 0} (P : N → Type 0) (one other : N) (first second third fourth : List N) → (P one → P other) → (All P first → All P third) → (All P second → All P fourth)
    → All P (one ∷ (first ++ second)) → All P (other ∷ (third ++ fourth))
all_turned P one other first second third fourth own of_first of_second all =
    let both = both_all P one first second all in
    all_more P other third fourth (own (All-head P one (first ++ second) all)) (of_first both.0) (of_second both.1)

-- ---- at some
pub any_here : {N : Type 0} (P : N → Type 0) (one : N) (rest : List N) → P one → Any P (one ∷ rest)
any_here P one rest here = (0, one, omega arith, refl, here)

pub any_after : {N : Type 0} (P : N → Type 0) (one : N) (rest : List N) → Any P rest → Any P (one ∷ rest)
any_after P one rest (k, x, below, is, holds) = (suc k, x, omega (arith, below), is, holds)

pub any_first : {N : Type 0} (P : N → Type 0) (xs ys : List N) → Any P xs → Any P (xs ++ ys)
any_first P xs ys (k, x, below, is, holds) = (k, x, omega (arith, below, length-append xs ys), get_or_append_left xs ys x k below ∙ is, holds)

pub any_second : {N : Type 0} (P : N → Type 0) (xs ys : List N) → Any P ys → Any P (xs ++ ys)
any_second P [] ys any = any
any_second P (x ∷ xs) ys any = any_after P x (xs ++ ys) (any_second P xs ys any)

-- where it is
pub only : {N : Type 0} (P : N → Type 0) (one : N) → Any P (one ∷ []) → P one
only P one (zero, x, below, is, holds) = subst P (sym is) holds
only P one (suc k, x, below, is, holds) = absurd (omega (arith, below))

by_list : {N : Type 0} {X : Type 0} (P : N → Type 0) (xs ys : List N) → Any P (xs ++ ys) → (Any P xs → X) → (Any P ys → X) → X
by_list P [] ys any p q = q any
by_list P (x ∷ xs) ys (zero, y, below, is, holds) p q = p (any_here P x xs (subst P (sym is) holds))
by_list P (x ∷ xs) ys (suc k, y, below, is, holds) p q =
    by_list P xs ys (k, y, omega (arith, below), is, holds) (λ any. p (any_after P x xs any)) q

pub by_place : {N : Type 0} {X : Type 0} (P : N → Type 0) (one : N) (first second : List N) → Any P (one ∷ (first ++ second)) → (P one → X) → (Any P first → X) → (Any P second → X) → X
by_place P one first second (zero, x, below, is, holds) here p q = here (subst P (sym is) holds)
by_place P one first second (suc k, x, below, is, holds) here p q = by_list P first second (k, x, omega (arith, below), is, holds) p q

-- what holds at some place goes over to others
pub any_turned : {N : Type 0} (P : N → Type 0) (one other : N) (first second third fourth : List N) → (P one → ⊥) → (Any P first → Any P third) → (Any P second → Any P fourth)
    → Any P (one ∷ (first ++ second)) → Any P (other ∷ (third ++ fourth))
any_turned P one other first second third fourth never of_first of_second any =
    by_place P one first second any (λ here. absurd (never here)) (λ there. any_after P other _ (any_first P third fourth (of_first there))) (λ there. any_after P other _ (any_second P third fourth (of_second there)))
