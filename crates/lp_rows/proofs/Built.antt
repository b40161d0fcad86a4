-- Lists that a loop makes entry by entry.
use Rattle.std.proofs.Common.{◌≡◌, ℕ, ◌+◌, ◌-◌, ◌<◌, ◌≤◌, List, [], ◌∷◌, ◌++◌, length, get_or, refl, ◌∙◌, inl, inr, arith}
use Rattle.std.proofs.lemmas.Bool.{cases_lt}
use Rattle.std.proofs.lemmas.List.{get_or_append_left, get_or_push, length_push}
use Rattle.fleet_model.specs.declared.tables.Tables.{Tables}
use Rattle.fleet_model.specs.Kept.{Domains}
use Rattle.fleet_model.specs.Schedule.{fleets_in, period_of, stations_in}
use Rattle.fleet_model.proofs.PeriodMinutes.{some_minutes}
use Rattle.node_aggregate.specs.Nodes.{AreNodesAt}
use Rattle.node_aggregate.proofs.Rising.{place_low}
use Rattle.node_aggregate.proofs.Starts.{start_within, starts_rise}
use Rattle.lp_rows.specs.Layout.{AreByStation, HaveNodes, starts_in}

-- so many entries, each of which is as wanted at its place
pub record AreBuilt {X : Type 0} (P : ℕ → X → Type 0) (d : X) (xs : List X) (n : ℕ) : Type 0 where
  pub all : length xs ≡ n
  pub each : (k : ℕ) → k < n → P k (get_or xs k d)

pub none_built : {X : Type 0} (P : ℕ → X → Type 0) (d : X) → AreBuilt P d [] 0
none_built P d = record { all = refl; each = λ k below. absurd (omega arith) }

pub one_more_built : {X : Type 0} (P : ℕ → X → Type 0) (d : X) (xs grown : List X) (n : ℕ) (x : X) → grown ≡ xs ++ x ∷ [] → AreBuilt P d xs n → P n x → AreBuilt P d grown (n + 1)
one_more_built P d xs grown n x e built here = rw e (record {
  all = omega (arith, length_push xs x, built.all);
  each = λ k below. elim (cases_lt k n) [
    | inl before ↦ rw (get_or_append_left xs (x ∷ []) d k (omega (arith, built.all))) (built.each k before)
    | inr last ↦ let same : k ≡ n = omega arith in rw (same, get_or_push xs x d n built.all) here
  ];
})

pub stations_built : (t : Tables) (keeps : Domains) (f n : ℕ) (stations : List (List ℕ)) → n ≡ stations_in t → AreBuilt (AreNodesAt t keeps f) [] stations n → HaveNodes t keeps f stations
stations_built t keeps f n stations e built = record { all = built.all ∙ e; each = λ s below. built.each s (omega arith) }

-- the last start is a minute of the period, and each start is no less than its place
few_nodes : (t : Tables) (keeps : Domains) (f s : ℕ) (starts : List ℕ) → AreNodesAt t keeps f s starts → length starts ≤ period_of t
few_nodes t keeps f s starts at = elim (cases_lt 1 (length starts)) [
  | inl more ↦
      let last = place_low starts (starts_rise t keeps f s starts at (omega arith)) (length starts - 1) (omega arith) in
      omega (arith, last, start_within t keeps f s starts at (length starts - 1) (omega arith))
  | inr one ↦ omega (arith, some_minutes t)
]

pub shape_built : (t : Tables) (keeps : Domains) (n : ℕ) (fleets : List (List (List ℕ))) → n ≡ fleets_in t → AreBuilt (HaveNodes t keeps) [] fleets n → AreByStation t fleets
shape_built t keeps n fleets e built = record {
  fleets = built.all ∙ e;
  stations = λ f below. (built.each f (omega arith)).all;
  few = λ f s known within. few_nodes t keeps f s (starts_in fleets f s) ((built.each f (omega arith)).each s within);
}
