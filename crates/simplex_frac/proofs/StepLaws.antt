-- Laws of steps over any first table.
use Rattle.std.proofs.Common.{◌≡◌, ℕ, ◌+◌, ◌-◌, ◌<◌, ℤ, pos, ◌*ℤ◌, ◌<ℤ◌, List, [], ◌∷◌, length, None, refl, sym, ◌∙◌, ap, subst, arith, length-set}
use Rattle.std.specs.Prelude.{◌↔◌}
use lib.IntN.{*ℤ_comm}
use Rattle.sums.proofs.Places.{length-list_below}
use Rattle.sums.proofs.Integers.{*ℤ_assoc, *ℤ_left_comm, *ℤ_cancel}
use Rattle.frac_row.specs.declared.row.FracRow.{FracRow}
use Rattle.row_store.specs.declared.error.Place.{Place}
use Rattle.row_store.specs.Table.{row_at, height_of, columns_of, HasColumns, IsTable}
use Rattle.row_store.specs.Pivot.{pivoted, pivot_growth}
use Rattle.row_store.specs.Points.{surplus, MeetsLines}
use Rattle.row_store.specs.Steps.{made_positive, stepped, step_growth}
use Rattle.row_store.proofs.Tables.{pivoted_is_table, length-pivoted, columns_of-pivoted, in_table}
use Rattle.row_store.proofs.Points.{keeps_points, keeps_surplus}
use Rattle.simplex_frac.specs.Tableaux.{Tableau, first_tableau, IsStep, after_step, tableau_after, AreSteps}
use Rattle.simplex_frac.specs.StepLaws.{KeepsShape, StepsKeepPoints, StepsKeepSurplus, StepsKeepShape}
use Rattle.simplex_frac.proofs.Uprights.{IsUpright, upright, upright_height, upright_points, upright_den, upright_surplus}

-- a step is a pivot of an upright table
pub record IsUprightPivot (old new : List FracRow) (row column : ℕ) : Type 0 where
  pub table : List FracRow
  pub upright : IsUpright old table row column
  pub fits : pivot_growth table row column ≡ None
  pub is : new ≡ pivoted table row column

pub pivot_of_step : (table : List FracRow) (columns row column : ℕ) → IsTable table → IsStep table columns row column → IsUprightPivot table (stepped table row column) row column
unfolding stepped step_growth
pivot_of_step table columns row column is s = record {
  table = made_positive table row column;
  upright = upright table row column is (in_table table row s.line) s.number;
  fits = s.fits;
  is = refl;
}

-- ---- the shape
first_shape : (first : List FracRow) (columns : ℕ) → IsTable first → HasColumns first columns → KeepsShape first columns (first_tableau first columns)
unfolding first_tableau
first_shape first columns is shape =
    record { is_table = is; shape = shape; height = refl; basis = length-list_below (λ line. columns + line) (height_of first) }

step_shape : (first : List FracRow) (columns : ℕ) (now : Tableau) (place : Place) → IsStep now.table columns place.row place.column → KeepsShape first columns now → KeepsShape first columns (after_step now place)
unfolding after_step
step_shape first columns now place s k =
    let p : IsUprightPivot now.table (stepped now.table place.row place.column) place.row place.column = pivot_of_step now.table columns place.row place.column k.is_table s in
    let lt : place.row < length p.table = subst (λ n. place.row < n) (sym p.upright.height) (in_table now.table place.row s.line) in
    record {
      is_table = subst IsTable (sym p.is) (pivoted_is_table p.table place.row place.column p.upright.is_table lt p.upright.positive p.fits);
      shape = ap columns_of p.is ∙ columns_of-pivoted p.table place.row place.column p.upright.is_table lt ∙ p.upright.width ∙ k.shape
          ∙ ap (λ n. columns + (n - 2) + 1) (sym (ap length p.is ∙ length-pivoted p.table place.row place.column ∙ p.upright.height));
      height = ap length p.is ∙ length-pivoted p.table place.row place.column ∙ p.upright.height ∙ k.height;
      basis = length-set now.basis place.row place.column ∙ k.basis;
    }

pub shape_after : (first : List FracRow) (columns : ℕ) (places : List Place) → IsTable first → HasColumns first columns → AreSteps first columns places → KeepsShape first columns (tableau_after first columns places)
shape_after first columns [] is shape s = first_shape first columns is shape
shape_after first columns (place ∷ before) is shape s =
    step_shape first columns (tableau_after first columns before) place s.1 (shape_after first columns before is shape s.0)

pub steps_keep_shape : StepsKeepShape
steps_keep_shape first columns table basis is shape r = subst (KeepsShape first columns) r.is (shape_after first columns r.places is shape r.steps)

-- ---- points
first_is : (first : List FracRow) (columns : ℕ) → (first_tableau first columns).table ≡ first
unfolding first_tableau
first_is first columns = refl

after_is : (now : Tableau) (place : Place) → (after_step now place).table ≡ stepped now.table place.row place.column
unfolding after_step
after_is now place = refl

both : {P Q R : Type 0} → P ↔ Q → Q ↔ R → P ↔ R
both f g = (λ p. g.0 (f.0 p), λ r. f.1 (g.1 r))

real_column : (table : List FracRow) (columns column : ℕ) → HasColumns table columns → column < columns → column < columns_of table
real_column table columns column h lt = omega arith

step_points : (first : List FracRow) (columns : ℕ) (now : Tableau) (place : Place) (point : ℕ → ℤ) (scale : ℤ) → IsStep now.table columns place.row place.column → KeepsShape first columns now → MeetsLines (after_step now place).table point scale ↔ MeetsLines now.table point scale
step_points first columns now place point scale s k =
    let p : IsUprightPivot now.table (stepped now.table place.row place.column) place.row place.column = pivot_of_step now.table columns place.row place.column k.is_table s in
    let one : MeetsLines (pivoted p.table place.row place.column) point scale ↔ MeetsLines p.table point scale =
    keeps_points p.table place.row place.column point scale p.upright.is_table (subst (λ n. place.row < n) (sym (upright_height p.upright)) s.line)
    (subst (λ n. place.column < n) (sym p.upright.width) (real_column now.table columns place.column k.shape s.real)) p.upright.positive in
    let here : MeetsLines (after_step now place).table point scale ↔ MeetsLines p.table point scale = subst (λ t. MeetsLines t point scale ↔ MeetsLines p.table point scale) (sym (after_is now place ∙ p.is)) one in
    both here (upright_points now.table p.table place.row place.column point scale p.upright)

points_after : (first : List FracRow) (columns : ℕ) (places : List Place) (point : ℕ → ℤ) (scale : ℤ) → IsTable first → HasColumns first columns → AreSteps first columns places → MeetsLines (tableau_after first columns places).table point scale ↔ MeetsLines first point scale
points_after first columns [] point scale is shape s =
    (λ h. subst (λ t. MeetsLines t point scale) (first_is first columns) h, λ h. subst (λ t. MeetsLines t point scale) (sym (first_is first columns)) h)
points_after first columns (place ∷ before) point scale is shape s =
    both (step_points first columns (tableau_after first columns before) place point scale s.1 (shape_after first columns before is shape s.0))
    (points_after first columns before point scale is shape s.0)

pub steps_keep_points : StepsKeepPoints
steps_keep_points first columns table basis point scale is shape r =
    subst (λ t. MeetsLines t.table point scale ↔ MeetsLines first point scale) r.is (points_after first columns r.places point scale is shape r.steps)

-- ---- surpluses
same_columns : (table first : List FracRow) (columns : ℕ) → HasColumns table columns → HasColumns first columns → length table ≡ length first → columns_of table - 1 ≡ columns_of first - 1
same_columns table first columns h k e = omega arith

-- two ratios that are a third one are alike
joined : (s d s' d' s'' d'' : ℤ) → pos 0 <ℤ d' → (s *ℤ d') ≡ (s' *ℤ d) → (s' *ℤ d'') ≡ (s'' *ℤ d') → (s *ℤ d'') ≡ (s'' *ℤ d)
joined s d s' d' s'' d'' above e f =
    *ℤ_cancel d' _ _ above
    (*ℤ_left_comm d' s d'' ∙ sym (*ℤ_assoc s d' d'') ∙ ap (λ x. x *ℤ d'') e ∙ *ℤ_assoc s' d d'' ∙ *ℤ_left_comm s' d d''
    ∙ ap (λ x. d *ℤ x) f ∙ *ℤ_left_comm d s'' d' ∙ ap (λ x. s'' *ℤ x) (*ℤ_comm d d') ∙ *ℤ_left_comm s'' d' d)

step_surplus : (first : List FracRow) (columns : ℕ) (now : Tableau) (place : Place) (point : ℕ → ℤ) (scale : ℤ) (row : ℕ) → IsStep now.table columns place.row place.column → KeepsShape first columns now → MeetsLines now.table point scale → row < length now.table
    → (surplus (row_at (after_step now place).table row) (columns_of now.table - 1) point scale *ℤ (row_at now.table row).den) ≡ (surplus (row_at now.table row) (columns_of now.table - 1) point scale *ℤ (row_at (after_step now place).table row).den)
step_surplus first columns now place point scale row s k met lt =
    let p : IsUprightPivot now.table (stepped now.table place.row place.column) place.row place.column = pivot_of_step now.table columns place.row place.column k.is_table s in
    let one = keeps_surplus p.table place.row place.column row point scale p.upright.is_table (subst (λ n. place.row < n) (sym (upright_height p.upright)) s.line)
    (subst (λ n. place.column < n) (sym p.upright.width) (real_column now.table columns place.column k.shape s.real)) p.upright.positive
    ((upright_points now.table p.table place.row place.column point scale p.upright).1 met) (subst (λ n. row < n) (sym p.upright.height) lt) in
    over p.table (after_step now place).table p.upright (after_is now place ∙ p.is) one
  where
    over : (between after : List FracRow) → IsUpright now.table between place.row place.column → after ≡ pivoted between place.row place.column
        → (surplus (row_at (pivoted between place.row place.column) row) (columns_of between - 1) point scale *ℤ (row_at between row).den) ≡ (surplus (row_at between row) (columns_of between - 1) point scale *ℤ (row_at (pivoted between place.row place.column) row).den)
        → (surplus (row_at after row) (columns_of now.table - 1) point scale *ℤ (row_at now.table row).den) ≡ (surplus (row_at now.table row) (columns_of now.table - 1) point scale *ℤ (row_at after row).den)
    over between after u e one =
        let wide : (surplus (row_at after row) (columns_of now.table - 1) point scale *ℤ (row_at between row).den) ≡ (surplus (row_at between row) (columns_of now.table - 1) point scale *ℤ (row_at after row).den) =
        subst (λ t. (surplus (row_at t row) (columns_of now.table - 1) point scale *ℤ (row_at between row).den) ≡ (surplus (row_at between row) (columns_of now.table - 1) point scale *ℤ (row_at t row).den)) (sym e)
        (subst (λ n. (surplus (row_at (pivoted between place.row place.column) row) (n - 1) point scale *ℤ (row_at between row).den) ≡ (surplus (row_at between row) (n - 1) point scale *ℤ (row_at (pivoted between place.row place.column) row).den)) u.width one) in
        ap (λ d. surplus (row_at after row) (columns_of now.table - 1) point scale *ℤ d) (sym (upright_den now.table between place.row place.column row u))
        ∙ wide ∙ ap (λ x. x *ℤ (row_at after row).den) (upright_surplus now.table between place.row place.column row point scale u s.line met)

surplus_after : (first : List FracRow) (columns : ℕ) (places : List Place) (point : ℕ → ℤ) (scale : ℤ) (row : ℕ) → IsTable first → HasColumns first columns → AreSteps first columns places → MeetsLines first point scale → row < length first
    → (surplus (row_at (tableau_after first columns places).table row) (columns_of first - 1) point scale *ℤ (row_at first row).den) ≡ (surplus (row_at first row) (columns_of first - 1) point scale *ℤ (row_at (tableau_after first columns places).table row).den)
surplus_after first columns [] point scale row is shape s meets lt =
    ap (λ t. surplus (row_at t row) (columns_of first - 1) point scale *ℤ (row_at first row).den) (first_is first columns)
    ∙ ap (λ t. surplus (row_at first row) (columns_of first - 1) point scale *ℤ (row_at t row).den) (sym (first_is first columns))
surplus_after first columns (place ∷ before) point scale row is shape s meets lt =
    let now : Tableau = tableau_after first columns before in
    let k : KeepsShape first columns now = shape_after first columns before is shape s.0 in
    let in_now : row < length now.table = subst (λ n. row < n) (sym k.height) lt in
    let one = step_surplus first columns now place point scale row s.1 k ((points_after first columns before point scale is shape s.0).1 meets) in_now in
    joined _ _ _ _ _ _ (k.is_table.rows row in_now).positive
    (subst (λ n. (surplus (row_at (after_step now place).table row) n point scale *ℤ (row_at now.table row).den) ≡ (surplus (row_at now.table row) n point scale *ℤ (row_at (after_step now place).table row).den)) (same_columns now.table first columns k.shape shape k.height) one)
    (surplus_after first columns before point scale row is shape s.0 meets lt)

pub steps_keep_surplus : StepsKeepSurplus
steps_keep_surplus first columns table basis point scale row is shape r meets lt =
    subst (λ t. (surplus (row_at t.table row) (columns_of first - 1) point scale *ℤ (row_at first row).den) ≡ (surplus (row_at first row) (columns_of first - 1) point scale *ℤ (row_at t.table row).den)) r.is
    (surplus_after first columns r.places point scale row is shape r.steps meets lt)
