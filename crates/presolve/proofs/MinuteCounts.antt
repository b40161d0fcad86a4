-- The aircraft that a pair keeps busy, added to those of its fleet minute by minute.
use Rattle.std.proofs.Common.{◌≡◌, ℕ, ◌+◌, ◌*◌, ◌<◌, ◌==◌, ◌&&◌, nat_lt, if◌then◌else◌, List, length, get_or, set, length-set, refl, ap, ◌∙◌, arith}
use Rattle.std.proofs.lemmas.Bool.Decides.{nat_tests}
use Rattle.std.proofs.lemmas.List.{get_or_default}
use Rattle.fleet_model.specs.Schedule.{fleets_in, period_of}
use Rattle.fleet_model.specs.declared.parts.Pair.{Pair}
use Rattle.fleet_model.specs.declared.tables.Tables.{Tables}
use Rattle.presolve.specs.Cells.{AreMore, cell_of}
use Rattle.presolve.specs.Rules.{busy_at}
use Rattle.presolve.specs.declared.cells.TheConstants.{CELL_WIDTH}
use Rattle.presolve.proofs.CellLaws.{few_minutes, set_there, within_cells}

module _ (t : Tables) (p : Pair) (fleet : ℕ) where
  -- what is added below a minute
  abbrev pub busy_below : ℕ → ℕ → ℕ → ℕ
  busy_below n f m = if (fleet == f) && nat_lt m n then busy_at t p m else 0

  abbrev pub HaveBusy : ℕ → List ℕ → List ℕ → Type 0
  HaveBusy n = AreMore (busy_below n) (fleets_in t) (period_of t)

  pub none_busy : (cells : List ℕ) → HaveBusy 0 cells cells
  none_busy cells = record { width = refl; each = λ f m known early. grind (arith, nat_tests) }

  module _ (n : ℕ) (old cells : List ℕ) (width : length old ≡ fleets_in t * CELL_WIDTH) (known : fleet < fleets_in t) (early : n < period_of t) (before : HaveBusy n old cells) where
    pub within : fleet * CELL_WIDTH + n < length cells
    within = omega (arith, before.width, width, within_cells (fleets_in t) fleet n known (omega (arith, few_minutes t, early)))

    pub is_old : (x : ℕ) → x ≡ get_or cells (fleet * CELL_WIDTH + n) x → x ≡ cell_of old fleet n
    is_old x read =
        let none : busy_below n fleet n ≡ 0 = grind (arith, nat_tests) in
        omega (arith, read, get_or_default cells (fleet * CELL_WIDTH + n) x 0 within, before.each fleet n known early, none)

    pub one_minute_more : (x y : ℕ) → x ≡ get_or cells (fleet * CELL_WIDTH + n) x → y ≡ busy_at t p n → HaveBusy (n + 1) old (set cells (fleet * CELL_WIDTH + n) (x + y))
    one_minute_more x y read busy = record {
      width = length-set cells (fleet * CELL_WIDTH + n) (x + y) ∙ before.width;
      each = set_there cells (λ f m. cell_of old f m + busy_below (n + 1) f m) (fleets_in t) (period_of t) fleet n (x + y) (few_minutes t) (before.width ∙ width) known early
          (omega (arith, is_old x read, busy, here)) (λ f m in_fleets in_period other. before.each f m in_fleets in_period ∙ ap (λ k. cell_of old f m + k) (same f m other));
    }
      where
        here : busy_below (n + 1) fleet n ≡ busy_at t p n
        here = grind (arith, nat_tests)

        same : (f m : ℕ) → (f ≡ fleet → m ≡ n → ⊥) → busy_below n f m ≡ busy_below (n + 1) f m
        same f m other = grind (arith, nat_tests)

  pub all_minutes : (n : ℕ) (old cells : List ℕ) → n ≡ period_of t → HaveBusy n old cells → AreMore (λ f m. if fleet == f then busy_at t p m else 0) (fleets_in t) (period_of t) old cells
  all_minutes n old cells all before = record {
    width = before.width;
    each = λ f m known early. before.each f m known early ∙ ap (λ k. cell_of old f m + k) (early_enough f m (omega arith));
  }
    where
      early_enough : (f m : ℕ) → m < n → busy_below n f m ≡ (if fleet == f then busy_at t p m else 0)
      early_enough f m early = grind (arith, nat_tests)
