-- The steps of a search for the entering column and the leaving row.
use Rattle.std.proofs.Common.{◌≡◌, ℕ, ◌+◌, ◌<◌, Bool, true, false, cond, if◌then◌else◌, zero, suc, ◌&&◌, ℤ, pos, ◌<ℤ◌, ◌≤ℤ◌, get_or, ◌-◌, length, List, Option, Some, None, ◌⊎◌, inl, inr, option_map, refl, sym, ◌∙◌, ap, subst, arith, add-one}
use Rattle.sums.specs.Places.{first_below, or_else}
use Rattle.sums.proofs.Places.{first_found, nothing_at}
use Rattle.sums.proofs.Tests.{none_some, passed_over, picked, unlike}
use Rattle.frac_row.specs.declared.row.FracRow.{FracRow}
use Rattle.row_store.specs.Choice.{entering, is_improving, improves, is_positive, goes_first, better, candidate_at, best_below, leaving}
use Rattle.row_store.specs.declared.choice.Candidate.{Candidate}
use Rattle.std.proofs.lemmas.Int.{ints}
use Rattle.row_store.specs.Table.{number_at, height_of, columns_of}
use Rattle.row_store.proofs.SignTests.{positive_is}

-- no column so far improves
abbrev pub NoneEnters : List FracRow → ℕ → Type 0
NoneEnters table columns = first_below (λ column. if is_improving table column then Some column else None) columns ≡ None

pub entering_found : (table : List FracRow) (columns column : ℕ) → NoneEnters table column → column < columns → is_improving table column ≡ true → Some column ≡ entering table columns
unfolding entering
entering_found table columns column none lt e =
    sym (first_found (λ j. if is_improving table j then Some j else None) column columns column none (taken (is_improving table column) e) lt)
  where
    taken : (b : Bool) → b ≡ true → cond b (Some column) None ≡ Some column
    taken true e = refl
    taken false e = cc

pub entering_more : (table : List FracRow) (column : ℕ) → NoneEnters table column → is_improving table column ≡ false → NoneEnters table (column + 1)
entering_more table column none e =
    subst (NoneEnters table) (sym (add-one column)) (ap (λ o. or_else o (if is_improving table column then Some column else None)) none ∙ passed (is_improving table column) e)
  where
    passed : (b : Bool) → b ≡ false → cond b (Some column) None ≡ None
    passed false e = refl
    passed true e = cc

pub entering_none : (table : List FracRow) (columns column : ℕ) → NoneEnters table column → column ≡ columns → None ≡ entering table columns
unfolding entering
entering_none table columns column none e = sym (subst (NoneEnters table) e none)

-- what the phase row and the cost row say of a column
pub improving_is : (table : List FracRow) (height column : ℕ) (p q : ℤ) (b : Bool) → height + 2 ≡ length table → p ≡ number_at table height column → q ≡ number_at table (height + 1) column → b ≡ improves p q → b ≡ is_improving table column
improving_is table height column p q b tall ep eq e =
    let same : height ≡ height_of table = omega arith in
    e ∙ ap (λ x. improves x q) ep ∙ ap (improves (number_at table height column)) eq ∙ ap (λ h. improves (number_at table h column) (number_at table (h + 1) column)) same

-- ---- the leaving row
positive_test : (z : ℤ) → pos 0 <ℤ z → is_positive z ≡ true
positive_test z h = grind (arith, ints)

other_test : (z : ℤ) → z ≤ℤ pos 0 → is_positive z ≡ false
other_test z h = grind (arith, ints)

pick_other : {X : Type 0} (b c : Bool) (x y : X) → b ≡ false → y ≡ cond (b && c) x y
pick_other false c x y e = refl
pick_other true c x y e = unlike e

pick_second : {X : Type 0} (b c : Bool) (x y : X) → b ≡ true → c ≡ false → y ≡ cond (b && c) x y
pick_second true false x y p q = refl
pick_second false c x y p q = unlike (sym p)
pick_second true true x y p q = unlike q

pick_first : {X : Type 0} (b c : Bool) (x y : X) → b ≡ true → c ≡ true → x ≡ cond (b && c) x y
pick_first true true x y p q = refl
pick_first false c x y p q = unlike (sym p)
pick_first true false x y p q = unlike (sym q)

pub better_stays : (best : Option Candidate) (next : Candidate) → next.entry ≤ℤ pos 0 → best ≡ better best next
unfolding better
better_stays None next h = passed_over (is_positive next.entry) (Some next) None (other_test next.entry h)
better_stays (Some best) next h = pick_other (is_positive next.entry) (goes_first next best) (Some next) (Some best) (other_test next.entry h)

pub better_alone : (best : Option Candidate) (next : Candidate) → best ≡ None → pos 0 <ℤ next.entry → Some next ≡ better best next
unfolding better
better_alone best next e h = rw e (picked (is_positive next.entry) (Some next) None (positive_test next.entry h))

pub better_next : (best : Option Candidate) (next other : Candidate) → best ≡ Some other → pos 0 <ℤ next.entry → goes_first next other ≡ true → Some next ≡ better best next
unfolding better
better_next best next other e h first = rw e (pick_first (is_positive next.entry) (goes_first next other) (Some next) (Some other) (positive_test next.entry h) first)

pub better_best : (best : Option Candidate) (next other : Candidate) → best ≡ Some other → pos 0 <ℤ next.entry → goes_first next other ≡ false → Some other ≡ better best next
unfolding better
better_best best next other e h first = rw e (pick_second (is_positive next.entry) (goes_first next other) (Some next) (Some other) (positive_test next.entry h) first)

-- the best line so far is one of them, and has a positive entry
pub record IsBest (table : List FracRow) (basis : List ℕ) (column bound : ℕ) (best : Candidate) : Type 0 where
  pub line : best.row < bound
  pub is : best ≡ candidate_at table basis column best.row
  pub positive : pos 0 <ℤ best.entry

better_is : (table : List FracRow) (basis : List ℕ) (column row : ℕ) (best : Option Candidate) (chosen : Candidate) → ((other : Candidate) → best ≡ Some other → IsBest table basis column row other) → better best (candidate_at table basis column row) ≡ Some chosen → IsBest table basis column (suc row) chosen
unfolding better
better_is table basis column row None chosen h e =
    let found = split (is_positive (number_at table row column)) e in
    same_candidate (sym found.1) (positive_is (number_at table row column) found.0)
  where
    split : (b : Bool) → cond b (Some (candidate_at table basis column row)) None ≡ Some chosen → (b ≡ true) × (candidate_at table basis column row ≡ chosen)
    split true e = (refl, cc)
    split false e = cc

    same_candidate : chosen ≡ candidate_at table basis column row → pos 0 <ℤ number_at table row column → IsBest table basis column (suc row) chosen
    same_candidate same p = rw same (record { line = omega arith; is = refl; positive = p })
better_is table basis column row (Some best) chosen h e =
    elim (split (is_positive (number_at table row column)) (goes_first (candidate_at table basis column row) best) e) [
      | inl found ↦ same_candidate (sym found.1) (positive_is (number_at table row column) found.0)
      | inr same ↦ rw (sym same) (later (h best refl))
    ]
  where
    split : (b d : Bool) → cond (b && d) (Some (candidate_at table basis column row)) (Some best) ≡ Some chosen → ((b ≡ true) × (candidate_at table basis column row ≡ chosen)) ⊎ (best ≡ chosen)
    split true true e = inl (refl, cc)
    split true false e = inr cc
    split false d e = inr cc

    same_candidate : chosen ≡ candidate_at table basis column row → pos 0 <ℤ number_at table row column → IsBest table basis column (suc row) chosen
    same_candidate same p = rw same (record { line = omega arith; is = refl; positive = p })

    later : IsBest table basis column row best → IsBest table basis column (suc row) best
    later b = record { line = omega (arith, b.line); is = b.is; positive = b.positive }

pub best_is : (table : List FracRow) (basis : List ℕ) (column bound : ℕ) (best : Candidate) → best_below table basis column bound ≡ Some best → IsBest table basis column bound best
best_is table basis column zero best e = absurd (none_some e)
  where
    none_some : None ≡ Some best → ⊥
    none_some e = cc
best_is table basis column (suc row) best e =
    better_is table basis column row (best_below table basis column row) best (best_is table basis column row) e

-- the leaving row is a line with a positive entry
pub leaving_is : (table : List FracRow) (basis : List ℕ) (column row : ℕ) → leaving table basis column ≡ Some row → (row < height_of table) × (pos 0 <ℤ number_at table row column)
unfolding leaving
leaving_is table basis column row e = of_best (best_below table basis column (height_of table)) refl e
  where
    of_best : (o : Option Candidate) → o ≡ best_below table basis column (height_of table) → option_map (λ best. best.row) o ≡ Some row → (row < height_of table) × (pos 0 <ℤ number_at table row column)
    of_best None p e = absurd (none_some e)
    of_best (Some best) p e =
        let is : IsBest table basis column (height_of table) best = best_is table basis column (height_of table) best (sym p) in
        let same : best.row ≡ row = cc in
        (subst (λ r. r < height_of table) same is.line, subst (λ r. pos 0 <ℤ number_at table r column) same (rw (ap (λ b. b.entry) is.is) at is.positive))

-- the next line, as it is read
pub next_is : (table : List FracRow) (basis : List ℕ) (column row right : ℕ) (best outcome : Option Candidate) (p q : ℤ) → p ≡ number_at table row column → q ≡ number_at table row right → right + 1 ≡ columns_of table → outcome ≡ better best (record { row = row; basic = get_or basis row 0; entry = p; right_side = q }) → outcome ≡ better best (candidate_at table basis column row)
next_is table basis column row right best outcome p q ep eq er e =
    let last : right ≡ columns_of table - 1 = omega arith in
    let side : q ≡ number_at table row (columns_of table - 1) = subst (λ j. q ≡ number_at table row j) last eq in
    e ∙ ap (λ x. better best (record { row = row; basic = get_or basis row 0; entry = x; right_side = q })) ep
    ∙ ap (λ x. better best (record { row = row; basic = get_or basis row 0; entry = number_at table row column; right_side = x })) side

-- one line more
pub best_more : (table : List FracRow) (basis : List ℕ) (column row right : ℕ) (best outcome : Option Candidate) (p q : ℤ) → best ≡ best_below table basis column row → p ≡ number_at table row column → q ≡ number_at table row right → right + 1 ≡ columns_of table → outcome ≡ better best (record { row = row; basic = get_or basis row 0; entry = p; right_side = q }) → outcome ≡ best_below table basis column (row + 1)
best_more table basis column row right best outcome p q eb ep eq er e =
    next_is table basis column row right best outcome p q ep eq er e
    ∙ ap (λ o. better o (candidate_at table basis column row)) eb ∙ ap (best_below table basis column) (sym (add-one row))

pub leaving_from : (table : List FracRow) (basis : List ℕ) (column row : ℕ) (best : Option Candidate) → best ≡ best_below table basis column row → row ≡ height_of table → option_map (λ b. b.row) best ≡ leaving table basis column
unfolding leaving
leaving_from table basis column row best e same = ap (option_map (λ b. b.row)) (e ∙ ap (best_below table basis column) same)

-- the entering column is one of the first, and improves
pub entering_is : (table : List FracRow) (columns column : ℕ) → entering table columns ≡ Some column → (column < columns) × (is_improving table column ≡ true)
unfolding entering
entering_is table columns column e = among columns e
  where
    one : (b : Bool) (k : ℕ) → cond b (Some k) None ≡ Some column → (k ≡ column) × (b ≡ true)
    one true k e = (cc, refl)
    one false k e = absurd (none_some e)
      where
        none_some : None ≡ Some column → ⊥
        none_some e = cc

    either : (o p : Option ℕ) → or_else o p ≡ Some column → (o ≡ Some column) ⊎ (p ≡ Some column)
    either (Some k) p e = inl e
    either None p e = inr e

    among : (n : ℕ) → first_below (λ j. if is_improving table j then Some j else None) n ≡ Some column → (column < n) × (is_improving table column ≡ true)
    among zero e = absurd (none_some e)
      where
        none_some : None ≡ Some column → ⊥
        none_some e = cc
    among (suc n) e =
        elim (either (first_below (λ j. if is_improving table j then Some j else None) n) (if is_improving table n then Some n else None) e) [
          | inl before ↦ later n (among n before)
          | inr here ↦ at_last n (one (is_improving table n) n here)
        ]
      where
        later : (n : ℕ) → (column < n) × (is_improving table column ≡ true) → (column < suc n) × (is_improving table column ≡ true)
        later n (lt, t) = (omega arith, t)

        at_last : (n : ℕ) → (n ≡ column) × (is_improving table n ≡ true) → (column < suc n) × (is_improving table column ≡ true)
        at_last n (e, t) = (omega arith, subst (λ k. is_improving table k ≡ true) e t)

-- no column before it improves
pub before_entering : (table : List FracRow) (columns column other : ℕ) → entering table columns ≡ Some column → other < column → is_improving table other ≡ false
unfolding entering
before_entering table columns column other e before = among columns e
  where
    passed : (b : Bool) → cond b (Some other) None ≡ None → b ≡ false
    passed false h = refl
    passed true h = cc

    one : (b : Bool) (k : ℕ) → cond b (Some k) None ≡ Some column → k ≡ column
    one true k e = cc
    one false k e = absurd (none_some e)

    either : (o p : Option ℕ) → or_else o p ≡ Some column → (o ≡ Some column) ⊎ ((o ≡ None) × (p ≡ Some column))
    either (Some k) p e = inl e
    either None p e = inr (refl, e)

    among : (n : ℕ) → first_below (λ j. if is_improving table j then Some j else None) n ≡ Some column → is_improving table other ≡ false
    among zero e = absurd (none_some e)
    among (suc n) e =
        elim (either (first_below (λ j. if is_improving table j then Some j else None) n) (if is_improving table n then Some n else None) e) [
          | inl found ↦ among n found
          | inr last ↦ let same : n ≡ column = one (is_improving table n) n last.1 in
              passed (is_improving table other) (nothing_at (λ j. if is_improving table j then Some j else None) n other last.0 (subst (λ k. other < k) (sym same) before))
        ]
