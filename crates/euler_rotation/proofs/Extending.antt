-- What extends a prefix: the first leg that may follow, what extends the prefix with it, and then the rest.
use Rattle.std.proofs.Common.{◌≡◌, ℕ, zero, suc, ◌-◌, ◌<◌, ◌≤◌, Bool, if◌then◌else◌, Some, List, [], ◌∷◌, ◌++◌, drop, length, slice_index, refl, sym, ◌∙◌, ap, append_assoc, arith}
use Rattle.std.specs.List.{filter, flat_map}
use Rattle.std.proofs.lemmas.Bool.{eq-eqb}
use Rattle.std.proofs.lemmas.List.{append-nil}
use Rattle.sums.proofs.Tests.{none_some, some_is}
use Rattle.fleet_model.specs.declared.parts.Connection.{Connection}
use Rattle.fleet_model.specs.declared.tables.Tables.{Tables}
use Rattle.fleet_model.specs.Counts.{choice_at}
use Rattle.euler_rotation.specs.declared.path.Level.{Level}
use Rattle.euler_rotation.specs.Asked.{followers_of}
use Rattle.euler_rotation.specs.Prefixes.{is_open, may_follow, may_turn, preorder, preorder_from}
use Rattle.euler_rotation.specs.Walks.{extensions, legs_of_path, pending, top_of}
use Rattle.sums.proofs.Filters.{filter_both}

module _ (t : Tables) (a : List ℕ) (f : ℕ) (pairs : List Connection) (days : ℕ) (order : List ℕ) where
  -- behind as many legs as the order has there is nothing
  nothing_behind : (front : List ℕ) (legs : List ℕ) → flat_map (preorder_from t a f pairs days order zero front) legs ≡ []
  nothing_behind front [] = refl
  nothing_behind front (l ∷ legs) = nothing_behind front legs

  pub none_extend : (path : List Level) (from : ℕ) → length order ≤ length path → extensions t a f pairs days order path from ≡ []
  none_extend [] from full = refl
  none_extend (x ∷ outer) from full =
      ap (λ n. flat_map (preorder_from t a f pairs days order n (legs_of_path (x ∷ outer))) (filter (is_open t f days (legs_of_path (x ∷ outer))) (drop from (followers_of t a f pairs order x.leg)))) (none full)
      ∙ nothing_behind (legs_of_path (x ∷ outer)) (filter (is_open t f days (legs_of_path (x ∷ outer))) (drop from (followers_of t a f pairs order x.leg)))
    where
      none : {m n : ℕ} → m ≤ n → m - n ≡ 0
      none le = omega arith

  pub none_open : (path : List Level) (top : Level) (from : ℕ) → top_of path ≡ Some top
      → filter (is_open t f days (legs_of_path path)) (drop from (followers_of t a f pairs order top.leg)) ≡ [] → extensions t a f pairs days order path from ≡ []
  none_open [] top from is none = refl
  none_open (x ∷ outer) top from is none =
      ap (λ l. flat_map behind (filter (is_open t f days (legs_of_path (x ∷ outer))) (drop from (followers_of t a f pairs order l)))) (ap (λ y. y.leg) (some_is x top is))
      ∙ ap (flat_map behind) none
    where
      behind : ℕ → List (List ℕ)
      behind = preorder_from t a f pairs days order (length order - length (x ∷ outer)) (legs_of_path (x ∷ outer))

  -- what a prefix begins, where its last leg is the fleet's
  pub from_prefix : (path : List Level) (level : Level) (m n : ℕ) → choice_at a level.leg ≡ f → n ≡ suc m → m ≡ length order - length (level ∷ path)
      → preorder_from t a f pairs days order n (legs_of_path path) level.leg ≡ legs_of_path (level ∷ path) ∷ extensions t a f pairs days order (level ∷ path) 0
  from_prefix path level m n own is less =
      ap (λ k. preorder_from t a f pairs days order k (legs_of_path path) level.leg) is
      ∙ ap (λ ls. legs_of_path (level ∷ path) ∷ flat_map (preorder_from t a f pairs days order m (legs_of_path (level ∷ path))) ls)
      (filter_both (may_follow t a f pairs days (legs_of_path path) level.leg) (may_turn t a f pairs level.leg) (is_open t f days (legs_of_path (level ∷ path))) (λ l. refl) order)
      ∙ ap (λ b. legs_of_path (level ∷ path) ∷ flat_map (preorder_from t a f pairs days order m (legs_of_path (level ∷ path)))
      (filter (is_open t f days (legs_of_path (level ∷ path))) (if b then filter (may_turn t a f pairs level.leg) order else []))) (sym (eq-eqb _ _ own))
      ∙ ap (λ k. legs_of_path (level ∷ path) ∷ flat_map (preorder_from t a f pairs days order k (legs_of_path (level ∷ path)))
      (filter (is_open t f days (legs_of_path (level ∷ path))) (drop 0 (followers_of t a f pairs order level.leg)))) less

  pub first_extends : (path : List Level) (top level : Level) (from : ℕ) → top_of path ≡ Some top → length path < length order → choice_at a level.leg ≡ f
      → filter (is_open t f days (legs_of_path path)) (drop from (followers_of t a f pairs order top.leg))
      ≡ level.leg ∷ filter (is_open t f days (legs_of_path path)) (drop level.next (followers_of t a f pairs order top.leg))
      → extensions t a f pairs days order path from
      ≡ legs_of_path (level ∷ path) ∷ (extensions t a f pairs days order (level ∷ path) 0 ++ extensions t a f pairs days order path level.next)
  first_extends [] top level from is less own first = absurd (none_some is)
  first_extends (x ∷ outer) top level from is less own first =
      ap (λ l. flat_map behind (filter passes (drop from (followers_of t a f pairs order l)))) same
      ∙ ap (flat_map behind) first
      ∙ ap (λ xs. xs ++ flat_map behind (filter passes (drop level.next (followers_of t a f pairs order top.leg))))
      (from_prefix (x ∷ outer) level (length order - length (level ∷ x ∷ outer)) (length order - length (x ∷ outer)) own (one_less (length order) (length (x ∷ outer)) less) refl)
      ∙ ap (λ l. legs_of_path (level ∷ x ∷ outer) ∷ (extensions t a f pairs days order (level ∷ x ∷ outer) 0 ++ flat_map behind (filter passes (drop level.next (followers_of t a f pairs order l))))) (sym same)
    where
      behind : ℕ → List (List ℕ)
      behind = preorder_from t a f pairs days order (length order - length (x ∷ outer)) (legs_of_path (x ∷ outer))

      passes : ℕ → Bool
      passes = is_open t f days (legs_of_path (x ∷ outer))

      same : x.leg ≡ top.leg
      same = ap (λ y. y.leg) (some_is x top is)

      one_less : (m n : ℕ) → n < m → m - n ≡ suc (m - suc n)
      one_less m n lt = omega arith

  -- ---- what is pending
  pub pending_deeper : (path : List Level) (top level : Level) (from : ℕ) → top_of path ≡ Some top
      → extensions t a f pairs days order path from ≡ legs_of_path (level ∷ path) ∷ (extensions t a f pairs days order (level ∷ path) 0 ++ extensions t a f pairs days order path level.next)
      → pending t a f pairs days order path from ≡ legs_of_path (level ∷ path) ∷ pending t a f pairs days order (level ∷ path) 0
  pending_deeper [] top level from is first = absurd (none_some is)
  pending_deeper (x ∷ outer) top level from is first =
      ap (λ xs. xs ++ pending t a f pairs days order outer x.next) first
      ∙ ap (λ xs. legs_of_path (level ∷ x ∷ outer) ∷ xs)
      (append_assoc (extensions t a f pairs days order (level ∷ x ∷ outer) 0) (extensions t a f pairs days order (x ∷ outer) level.next) (pending t a f pairs days order outer x.next))

  -- the first leg of the order begins all
  pub preorder_first : (level : Level) → 0 < length order → choice_at a level.leg ≡ f → level.leg ≡ slice_index order 0
      → preorder t a f pairs days order ≡ legs_of_path (level ∷ []) ∷ pending t a f pairs days order (level ∷ []) 0
  unfolding preorder
  preorder_first level some own is =
      ap (preorder_from t a f pairs days order (length order) []) (sym is)
      ∙ from_prefix [] level (length order - length (level ∷ [])) (length order) own (one_less (length order) some) refl
      ∙ ap (λ xs. legs_of_path (level ∷ []) ∷ xs) (sym (append-nil (extensions t a f pairs days order (level ∷ []) 0)))
    where
      one_less : (m : ℕ) → 0 < m → m ≡ suc (m - suc 0)
      one_less m lt = omega arith
