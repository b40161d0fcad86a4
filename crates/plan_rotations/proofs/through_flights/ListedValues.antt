-- The values of through pairs, entry by entry from the last.
use Rattle.std.proofs.Common.{◌≡◌, ◌≢◌, ℕ, suc, ◌-◌, ◌<◌, ◌≤◌, ◌==◌, ◌&&◌, Bool, true, false, if◌then◌else◌, List, ◌∷◌, length, slice_index, slice_set, drop, Option, Some, unwrap_or, unsigned_abs, ℤ, pos, refl, sym, ◌∙◌, ap, subst, inl, inr, arith, drop-cons, get_or, get_or-set_same, get_or-set_other}
use Rattle.std.proofs.lemmas.Bool.{cases_eq}
use Rattle.std.proofs.lemmas.Bool.Decides.{nat_tests}
use Rattle.std.proofs.Math.Seq.{drop-length}
use Rattle.sums.specs.Places.{list_below}
use Rattle.sums.proofs.Places.{get_or-list_below, length-list_below}
use Rattle.sums.proofs.Naturals.{one_behind}
use Rattle.fleet_model.specs.declared.parts.Through.{Through}
use Rattle.lines_of_flying.specs.ground_turns.Throughs.{is_through_of, through_value_in}
use Rattle.plan_rotations.specs.through_flights.Worths.{through_pair}

pub none_listed : (values : List ℕ) (entries : List Through) (n arriving : ℕ) → values ≡ list_below (λ _. 0) n → (departing : ℕ) → departing < n
    → slice_index values departing ≡ unsigned_abs (unwrap_or (through_value_in (drop (length entries) entries) (through_pair arriving departing)) (pos 0))
none_listed values entries n arriving e departing lt =
    ap (λ xs. slice_index xs departing) e ∙ get_or-list_below {X = ℕ} (λ _. 0) n departing 0 lt
    ∙ sym (ap (λ es. unsigned_abs (unwrap_or (through_value_in es (through_pair arriving departing)) (pos 0))) (drop-length entries))

-- the entry before the last ones
abbrev pub nothing : Through
nothing = record { arriving = 0; departing = 0; value = pos 0 }

-- an entry of another pair is passed by
passed : (b : Bool) (value : ℤ) (rest : Option ℤ) → b ≡ false → unsigned_abs (unwrap_or (if b then Some value else rest) (pos 0)) ≡ unsigned_abs (unwrap_or rest (pos 0))
passed true value rest e = cc
passed false value rest e = refl

-- one entry more, of this arriving leg
pub one_listed : (values : List ℕ) (entries : List Through) (n arriving left : ℕ) (entry : Through) → left < length entries → get_or entries left nothing ≡ entry
    → entry.arriving ≡ arriving → entry.departing < length values
    → ((departing : ℕ) → departing < n → slice_index values departing ≡ unsigned_abs (unwrap_or (through_value_in (drop (suc left) entries) (through_pair arriving departing)) (pos 0)))
    → (departing : ℕ) → departing < n
    → slice_index (slice_set values entry.departing (unsigned_abs entry.value)) departing ≡ unsigned_abs (unwrap_or (through_value_in (drop left entries) (through_pair arriving departing)) (pos 0))
one_listed values entries n arriving left entry left_lt is same entry_lt before departing lt =
    elim (cases_eq departing entry.departing) [
      | inl here ↦
          ap (slice_index (slice_set values entry.departing (unsigned_abs entry.value))) here
          ∙ get_or-set_same values entry.departing (unsigned_abs entry.value) 0 entry_lt
          ∙ sym (ap (λ es. unsigned_abs (unwrap_or (through_value_in es (through_pair arriving departing)) (pos 0))) first ∙ taken (is_through_of (through_pair arriving departing) entry) (passes here))
      | inr there ↦
          get_or-set_other values entry.departing departing (unsigned_abs entry.value) 0 there
          ∙ before departing lt
          ∙ sym (ap (λ es. unsigned_abs (unwrap_or (through_value_in es (through_pair arriving departing)) (pos 0))) first ∙ passed (is_through_of (through_pair arriving departing) entry) entry.value (through_value_in (drop (suc left) entries) (through_pair arriving departing)) (fails there))
    ]
  where
    first : drop left entries ≡ entry ∷ drop (suc left) entries
    first = drop-cons entries left nothing left_lt ∙ ap (λ e. e ∷ drop (suc left) entries) is

    passes : departing ≡ entry.departing → is_through_of (through_pair arriving departing) entry ≡ true
    passes here = both entry.arriving arriving entry.departing departing same (sym here)
      where
        both : (a b c d : ℕ) → a ≡ b → c ≡ d → ((a == b) && (c == d)) ≡ true
        both a b c d e f = grind (arith, nat_tests)

    fails : departing ≢ entry.departing → is_through_of (through_pair arriving departing) entry ≡ false
    fails there = neither (entry.arriving == arriving) entry.departing departing (λ e. there (sym e))
      where
        neither : (b : Bool) (c d : ℕ) → c ≢ d → (b && (c == d)) ≡ false
        neither true c d ne = grind (arith, nat_tests)
        neither false c d ne = refl

    taken : (b : Bool) → b ≡ true
        → unsigned_abs (unwrap_or (if b then Some entry.value else through_value_in (drop (suc left) entries) (through_pair arriving departing)) (pos 0)) ≡ unsigned_abs entry.value
    taken true e = refl
    taken false e = cc

-- the last entries are read
pub first_values : (values : List ℕ) (entries read : List Through) (n m arriving : ℕ) → values ≡ list_below (λ _. 0) m → m ≡ n → read ≡ entries
    → (departing : ℕ) → departing < n → slice_index values departing ≡ unsigned_abs (unwrap_or (through_value_in (drop (length read) entries) (through_pair arriving departing)) (pos 0))
first_values values entries read n m arriving e size same departing lt =
    none_listed values entries n arriving (e ∙ ap (list_below (λ _. 0)) size) departing lt
    ∙ sym (ap (λ es. unsigned_abs (unwrap_or (through_value_in (drop (length es) entries) (through_pair arriving departing)) (pos 0))) same)

pub values_size : (values : List ℕ) (n m : ℕ) → values ≡ list_below (λ _. 0) m → m ≡ n → length values ≡ n
values_size values n m e size = ap length e ∙ length-list_below (λ _. 0) m ∙ size

pub more_values : (values new : List ℕ) (entries read : List Through) (n arriving left value : ℕ) (entry : Through) → read ≡ entries → 0 < left → left ≤ length entries
    → entry ≡ get_or read (left - 1) nothing → entry.arriving ≡ arriving → entry.departing < n → length values ≡ n → value ≡ unsigned_abs entry.value
    → new ≡ slice_set values entry.departing value
    → ((departing : ℕ) → departing < n → slice_index values departing ≡ unsigned_abs (unwrap_or (through_value_in (drop left entries) (through_pair arriving departing)) (pos 0)))
    → (departing : ℕ) → departing < n
    → slice_index new departing ≡ unsigned_abs (unwrap_or (through_value_in (drop (left - 1) entries) (through_pair arriving departing)) (pos 0))
more_values values new entries read n arriving left value entry same some within is arrives entry_lt size worth e before departing lt =
    ap (λ xs. slice_index xs departing) (e ∙ ap (slice_set values entry.departing) worth)
    ∙ one_listed values entries n arriving (left - 1) entry (omega arith) (sym (is ∙ ap (λ es. get_or es (left - 1) nothing) same)) arrives (subst (λ m. entry.departing < m) (sym size) entry_lt)
    (λ k k_lt. before k k_lt ∙ ap (λ m. unsigned_abs (unwrap_or (through_value_in (drop m entries) (through_pair arriving k)) (pos 0))) (one_behind left some)) departing lt

-- and of another arriving leg
pub same_values : (values : List ℕ) (entries read : List Through) (n arriving left : ℕ) (entry : Through) → read ≡ entries → 0 < left → left ≤ length entries
    → entry ≡ get_or read (left - 1) nothing → entry.arriving ≢ arriving
    → ((departing : ℕ) → departing < n → slice_index values departing ≡ unsigned_abs (unwrap_or (through_value_in (drop left entries) (through_pair arriving departing)) (pos 0)))
    → (departing : ℕ) → departing < n
    → slice_index values departing ≡ unsigned_abs (unwrap_or (through_value_in (drop (left - 1) entries) (through_pair arriving departing)) (pos 0))
same_values values entries read n arriving left entry same some within is other before departing lt =
    before departing lt ∙ ap (λ m. unsigned_abs (unwrap_or (through_value_in (drop m entries) (through_pair arriving departing)) (pos 0))) (one_behind left some)
    ∙ sym (ap (λ es. unsigned_abs (unwrap_or (through_value_in es (through_pair arriving departing)) (pos 0))) first
    ∙ passed (is_through_of (through_pair arriving departing) entry) entry.value (through_value_in (drop (suc (left - 1)) entries) (through_pair arriving departing)) (fails entry.arriving arriving (entry.departing == departing) other))
  where
    first : drop (left - 1) entries ≡ entry ∷ drop (suc (left - 1)) entries
    first = drop-cons entries (left - 1) nothing (omega arith) ∙ ap (λ e. e ∷ drop (suc (left - 1)) entries) (sym (is ∙ ap (λ es. get_or es (left - 1) nothing) same))

    fails : (a b : ℕ) (c : Bool) → a ≢ b → ((a == b) && c) ≡ false
    fails a b c differ = grind (arith, nat_tests)
