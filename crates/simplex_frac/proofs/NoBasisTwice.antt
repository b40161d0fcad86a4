-- No basis comes twice in a run from right sides of at least 0, so it has no more tables than there are bases.
use Rattle.std.proofs.Common.{◌≡◌, ℕ, suc, ◌+◌, ◌-◌, ◌<◌, ◌≤◌, true, length, List, Some, ℤ, pos, ◌≤ℤ◌, sym, ◌∙◌, ap, subst, inl, inr, arith}
use Rattle.std.specs.Prelude.{Contains, unwrap_or}
use Rattle.std.proofs.lemmas.Bool.{cases_lt}
use Rattle.std.proofs.lemmas.List.{get_or_default}
use Rattle.sums.proofs.Naturals.{plus_0, plus_suc}
use Rattle.sums.proofs.Ranks.{is_place, place_found, place_is, count_of_places, sets_few}
use Rattle.sums.proofs.Tests.{some_is, same_tests, never_passes}
use Rattle.frac_row.specs.declared.row.FracRow.{FracRow}
use Rattle.row_store.specs.declared.problem.Rows.{Rows}
use Rattle.row_store.specs.Table.{number_at, phase_row, cost_row}
use Rattle.row_store.specs.Choice.{entering}
use Rattle.row_store.specs.Problem.{IsProblem, first_table}
use Rattle.row_store.proofs.Choices.{before_entering}
use Rattle.row_store.proofs.Ties.{least_of_ties}
use Rattle.simplex_frac.specs.Tableaux.{Tableau, first_tableau}
use Rattle.simplex_frac.specs.ReachedTables.{IsReachedBySteps, IsTableOf}
use Rattle.simplex_frac.proofs.BasicSums.{IsBasicTable, basic_table, basic, basic_apart}
use Rattle.simplex_frac.proofs.ReachedPoints.{has_tables, phase_is, cost_is, last_is}
use Rattle.simplex_frac.specs.Bases.{NoBasisTwice, PivotsAreFew, IsStartedBy, IsSpentEarly, bases_of}
use Rattle.simplex_frac.specs.Duality.{AreRightSidesAtLeast0}
use Rattle.simplex_frac.specs.Ends.{end_of}
use Rattle.simplex_frac.specs.Outcomes.{Reaches}
use Rattle.simplex_frac.specs.Run.{turn, stage}
use Rattle.simplex_frac.specs.declared.outcome.Outcome.{Outcome}
use Rattle.simplex_frac.specs.declared.turn.Turn.{Turn}
use Rattle.simplex_frac.specs.declared.turn.Turn.TheVariants.{Best, NoPoint, Ray, Pivot}
use Rattle.simplex_frac.proofs.Cycles.{is_basic, no_cycle}
use Rattle.simplex_frac.proofs.OneOutcome.{reached_before}
use Rattle.simplex_frac.proofs.OnePivot.{IsOnePivot, side_of}
use Rattle.simplex_frac.proofs.RightSides.{run_keeps_right_sides}
use Rattle.simplex_frac.proofs.RunLaws.{IsStep, stage_step, reached_from}
use Rattle.simplex_frac.proofs.TurnCauses.{Improves, ImprovesNot, improves_not, entering_improves, pivot_enters, pivot_leaves}
use Rattle.simplex_frac.proofs.Turns.{IsPivotPlace, pivot_place}

-- ---- the pivot at a tableau
row_of : Turn → ℕ
row_of Best = 0
row_of NoPoint = 0
row_of (Ray column) = 0
row_of (Pivot row column) = row

column_of : Turn → ℕ
column_of Best = 0
column_of NoPoint = 0
column_of (Ray column) = 0
column_of (Pivot row column) = column

reached_of : (rows : Rows) (made : ℕ) (now : Tableau) → IsProblem rows → stage (first_table rows) rows.columns made ≡ Some now → IsReachedBySteps rows now.table now.basis
reached_of rows made now p e = record { problem = p; reached = reached_from (first_table rows) rows.columns made now e }

step_is : (rows : Rows) (made : ℕ) (new : Tableau) (s : IsStep (first_table rows) rows.columns made new) → IsProblem rows → AreRightSidesAtLeast0 rows → IsOnePivot rows s.before new s.row s.column
step_is rows made new s p sides = record {
  reached = h;
  line = subst (λ n. s.row < n) (phase_is t) place.line;
  real = place.real;
  positive = place.positive;
  sides = λ line lt. side line lt;
  improves = pair Improves s.column (entering_improves s.before.table rows.columns s.column enters);
  earlier = λ other lt. pair ImprovesNot other (improves_not _ _ (before_entering s.before.table rows.columns s.column other enters lt));
  ties = λ line lt some none. least_of_ties s.before.table s.before.basis s.column s.row line (pivot_leaves s.before rows.columns s.row s.column s.turns)
      (λ k below. subst (λ c. pos 0 ≤ℤ number_at s.before.table k c) (sym (last_is t)) (side k (subst (λ n. k < n) (phase_is t) below)))
      (subst (λ n. line < n) (sym (phase_is t)) lt) some (ap (number_at s.before.table line) (last_is t) ∙ none);
  is = ap (λ t. t.table) s.is;
  basis = ap (λ t. t.basis) s.is;
}
  where
    h : IsReachedBySteps rows s.before.table s.before.basis
    h = reached_of rows made s.before p s.reached

    t : IsTableOf rows s.before.table s.before.basis
    t = has_tables rows s.before.table s.before.basis h

    place : IsPivotPlace s.before rows.columns s.row s.column
    place = pivot_place s.before rows.columns s.row s.column s.turns

    enters : entering s.before.table rows.columns ≡ Some s.column
    enters = pivot_enters s.before rows.columns s.row s.column s.turns

    side : (line : ℕ) → line < length rows.lines → pos 0 ≤ℤ side_of rows s.before line
    side line lt =
        subst (λ c. pos 0 ≤ℤ number_at s.before.table line c) (last_is t)
        (run_keeps_right_sides rows made s.before.table s.before.basis line (record { problem = p; reaches = record { reached = s.reached } }) sides lt)

    pair : (P : ℤ → ℤ → Type 0) (c : ℕ) → P (number_at s.before.table (phase_row s.before.table) c) (number_at s.before.table (cost_row s.before.table) c) → P (number_at s.before.table (length rows.lines) c) (number_at s.before.table (length rows.lines + 1) c)
    pair P c k =
        subst (λ r. P (number_at s.before.table (length rows.lines) c) (number_at s.before.table r c)) (cost_is t)
        (subst (λ r. P (number_at s.before.table r c) (number_at s.before.table (cost_row s.before.table) c)) (phase_is t) k)

pivot_is : (rows : Rows) (made : ℕ) (old new : Tableau) → IsProblem rows → AreRightSidesAtLeast0 rows → stage (first_table rows) rows.columns made ≡ Some old → stage (first_table rows) rows.columns (suc made) ≡ Some new
    → IsOnePivot rows old new (row_of (turn old rows.columns)) (column_of (turn old rows.columns))
unfolding row_of column_of
pivot_is rows made old new p sides e f =
    let s : IsStep (first_table rows) rows.columns made new = stage_step (first_table rows) rows.columns made new f in
    let same : s.before ≡ old = some_is _ _ (sym s.reached ∙ e) in
    subst (λ t. IsOnePivot rows t new (row_of (turn t rows.columns)) (column_of (turn t rows.columns))) same
    (subst (λ d. IsOnePivot rows s.before new (row_of d) (column_of d)) (sym s.turns) (step_is rows made new s p sides))

-- ---- the tableau of each stage that the run reaches
now_at : Rows → ℕ → Tableau
now_at rows k = unwrap_or (stage (first_table rows) rows.columns k) (first_tableau (first_table rows) rows.columns)

stage_now : (rows : Rows) (made : ℕ) (last : Tableau) → stage (first_table rows) rows.columns made ≡ Some last → (k : ℕ) → k ≤ made → stage (first_table rows) rows.columns k ≡ Some (now_at rows k)
unfolding now_at
stage_now rows made last e k le = of_before (reached_before (first_table rows) rows.columns k made last le e)
  where
    of_before : (before : Tableau) × (stage (first_table rows) rows.columns k ≡ Some before) → stage (first_table rows) rows.columns k ≡ Some (unwrap_or (stage (first_table rows) rows.columns k) (first_tableau (first_table rows) rows.columns))
    of_before (before, f) = f ∙ ap Some (sym (ap (λ o. unwrap_or o (first_tableau (first_table rows) rows.columns)) f))

basic_of : (rows : Rows) (made : ℕ) (last : Tableau) → IsProblem rows → stage (first_table rows) rows.columns made ≡ Some last → (k : ℕ) → k ≤ made → IsBasicTable rows (now_at rows k).table (now_at rows k).basis
basic_of rows made last p e k le = basic_table rows (now_at rows k).table (now_at rows k).basis (reached_of rows k (now_at rows k) p (stage_now rows made last e k le))

-- no two of them have the same basic columns
never_twice : (rows : Rows) (early late : ℕ) (last : Tableau) → IsProblem rows → AreRightSidesAtLeast0 rows → early < late → stage (first_table rows) rows.columns late ≡ Some last
    → ((c : ℕ) → is_basic rows (now_at rows early) c ≡ is_basic rows (now_at rows late) c) → ⊥
never_twice rows early late last p sides order e same =
    no_cycle rows (λ k. now_at rows (early + k)) (λ k. row_of (turn (now_at rows (early + k)) rows.columns)) (λ k. column_of (turn (now_at rows (early + k)) rows.columns)) (late - early) (omega arith)
    (λ k le. reached_of rows (early + k) (now_at rows (early + k)) p (stage_now rows late last e (early + k) (omega arith)))
    (λ k lt. pivot_is rows (early + k) (now_at rows (early + k)) (now_at rows (early + suc k)) p sides (stage_now rows late last e (early + k) (omega arith))
    (subst (λ j. stage (first_table rows) rows.columns j ≡ Some (now_at rows (early + suc k))) (plus_suc early k) (stage_now rows late last e (early + suc k) (omega arith))))
    (λ c. ap (λ j. is_basic rows (now_at rows j) c) (plus_0 early) ∙ same c ∙ ap (λ j. is_basic rows (now_at rows j) c) (together early late order))
  where
    together : (m n : ℕ) → m < n → n ≡ m + (n - m)
    together m n lt = omega arith

-- ---- as lists of columns
contains_is : (rows : Rows) (table : List FracRow) (basis : List ℕ) (c : ℕ) → IsTableOf rows table basis → Contains basis c → is_place (basic basis) (length rows.lines) c ≡ true
contains_is rows table basis c t (k, lt, e) =
    let below : k < length rows.lines = subst (λ n. k < n) t.basis_in lt in
    place_is (basic basis) (length rows.lines) c k below (get_or_default basis k 0 c lt ∙ e)

basic_contains : (rows : Rows) (table : List FracRow) (basis : List ℕ) (c : ℕ) → IsTableOf rows table basis → is_place (basic basis) (length rows.lines) c ≡ true → Contains basis c
basic_contains rows table basis c t on = of_line (place_found (basic basis) (length rows.lines) c on)
  where
    of_line : (k : ℕ) × (k < length rows.lines) × (basic basis k ≡ c) → Contains basis c
    of_line (k, below, e) =
        let lt : k < length basis = subst (λ n. k < n) (sym t.basis_in) below in
        (k, lt, get_or_default basis k c 0 lt ∙ e)

pub no_basis_twice : NoBasisTwice
unfolding now_at
no_basis_twice rows early late table later_table basis later_basis order h k sides same =
    never_twice rows early late (record { table = later_table; basis = later_basis }) h.problem sides order k.reaches.reached
    (λ c. ap (λ t. is_basic rows t c) (at early table basis h.reaches) ∙ alike c ∙ sym (ap (λ t. is_basic rows t c) (at late later_table later_basis k.reaches)))
  where
    at : (made : ℕ) (table : List FracRow) (basis : List ℕ) → Reaches (first_table rows) rows.columns made table basis → now_at rows made ≡ record { table = table; basis = basis }
    at made table basis r = ap (λ o. unwrap_or o (first_tableau (first_table rows) rows.columns)) r.reached

    t : IsTableOf rows table basis
    t = has_tables rows table basis (reached_of rows early (record { table = table; basis = basis }) h.problem h.reaches.reached)

    u : IsTableOf rows later_table later_basis
    u = has_tables rows later_table later_basis (reached_of rows late (record { table = later_table; basis = later_basis }) k.problem k.reaches.reached)

    alike : (c : ℕ) → is_place (basic basis) (length rows.lines) c ≡ is_place (basic later_basis) (length rows.lines) c
    alike c = same_tests _ _
        (λ on. contains_is rows later_table later_basis c u ((same c).0 (basic_contains rows table basis c t on)))
        (λ on. contains_is rows table basis c t ((same c).1 (basic_contains rows later_table later_basis c u on)))

-- ---- so many tables are so many sets of columns
all_alike : (rows : Rows) (one other : Tableau) → IsBasicTable rows one.table one.basis → IsBasicTable rows other.table other.basis → ((c : ℕ) → c < rows.columns + length rows.lines → is_basic rows one c ≡ is_basic rows other c)
    → (c : ℕ) → is_basic rows one c ≡ is_basic rows other c
all_alike rows one other t u same c = elim (cases_lt c (rows.columns + length rows.lines)) [
  | inl lt ↦ same c lt
  | inr ge ↦ never_passes _ (λ on. none one t ge (place_found (basic one.basis) (length rows.lines) c on)) ∙ sym (never_passes _ (λ on. none other u ge (place_found (basic other.basis) (length rows.lines) c on)))
]
  where
    none : (now : Tableau) → IsBasicTable rows now.table now.basis → rows.columns + length rows.lines ≤ c → (line : ℕ) × (line < length rows.lines) × (basic now.basis line ≡ c) → ⊥
    none now t ge (line, lt, e) = past (basic now.basis line) c (rows.columns + length rows.lines) (t.units.within line lt) ge e
      where
        past : (a b n : ℕ) → a < n → n ≤ b → a ≡ b → ⊥
        past a b n p q e = omega arith

few : (rows : Rows) (made : ℕ) (last : Tableau) → IsProblem rows → AreRightSidesAtLeast0 rows → stage (first_table rows) rows.columns made ≡ Some last → suc made ≤ bases_of rows.columns (length rows.lines)
few rows made last p sides e =
    sets_few (λ k. is_basic rows (now_at rows k)) (suc made) (rows.columns + length rows.lines) (length rows.lines)
    (λ k below. let t : IsBasicTable rows (now_at rows k).table (now_at rows k).basis = basic_of rows made last p e k (omega arith) in
    count_of_places (basic (now_at rows k).basis) (length rows.lines) (rows.columns + length rows.lines) t.units.within
    (λ j i lt less same. basic_apart rows (now_at rows k).table (now_at rows k).basis j i t lt less same))
    (λ early late order below same.
    never_twice rows early late (now_at rows late) p sides order (stage_now rows made last e late (omega arith))
    (all_alike rows (now_at rows early) (now_at rows late) (basic_of rows made last p e early (omega arith)) (basic_of rows made last p e late (omega arith)) same))

pub pivots_are_few : PivotsAreFew
pivots_are_few rows made table basis h sides = let enough : suc made ≤ bases_of rows.columns (length rows.lines) = few rows made (record { table = table; basis = basis }) h.problem sides h.reaches.reached in omega arith

-- ---- the outcome at a table that the run has reached
pub reached_is_few : (rows : Rows) (first : List FracRow) (columns made : ℕ) (table : List FracRow) (basis : List ℕ) → IsStartedBy rows first columns → Reaches first columns made table basis → made < bases_of columns (length rows.lines)
reached_is_few rows first columns made table basis h r =
    subst (λ n. made < bases_of n (length rows.lines)) h.columns_in
    (pivots_are_few rows made table basis (record { problem = h.problem; reaches = record { reached = back } }) h.right_sides)
  where
    back : stage (first_table rows) rows.columns made ≡ Some (record { table = table; basis = basis })
    back = subst (λ n. stage (first_table rows) n made ≡ Some (record { table = table; basis = basis })) (sym h.columns_in) (subst (λ t. stage t columns made ≡ Some (record { table = table; basis = basis })) h.is r.reached)

pub spent_early : (first : List FracRow) (columns made : ℕ) (table : List FracRow) (basis held : List ℕ) (does : Turn) (outcome : Outcome) → Reaches first columns made table basis → outcome ≡ end_of does held made → IsSpentEarly first columns outcome
spent_early first columns made table basis held does outcome r e = subst (IsSpentEarly first columns) (sym e) (of_turn does)
  where
    of_turn : (does : Turn) → IsSpentEarly first columns (end_of does held made)
    of_turn Best = tt
    of_turn NoPoint = tt
    of_turn (Ray column) = tt
    of_turn (Pivot row column) = λ rows h. reached_is_few rows first columns made table basis h r
