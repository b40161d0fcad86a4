-- What a through pair that can be flown is worth.
use Rattle.std.proofs.Common.{◌≡◌, ℕ, suc, ◌+◌, ◌<◌, ◌≤◌, Bool, true, false, if◌then◌else◌, List, [], ◌∷◌, length, slice_index_or, Option, Some, None, IsSome, unwrap_or, unsigned_abs, ℤ, pos, ◌≤ℤ◌, refl, ap, inl, inr, arith}
use Rattle.std.proofs.lemmas.Int.{ints}
use Rattle.fleet_model.specs.declared.limits.TheConstants.{MAX_COST}
use Rattle.fleet_model.specs.declared.parts.Connection.{Connection}
use Rattle.fleet_model.specs.declared.parts.Through.{Through}
use Rattle.fleet_model.specs.declared.tables.Tables.{Tables}
use Rattle.fleet_model.specs.Counts.{choice_at}
use Rattle.lines_of_flying.specs.ground_turns.Throughs.{is_through_of, through_value, through_value_in}
use Rattle.plan_rotations.specs.declared.through_flights.worths.TheConstants.{CLEAN_WORTH, MAX_VALUE}
use Rattle.plan_rotations.specs.through_flights.Worths.{IsCleanTurn, IsShort, IsTurnWorth, listed_value}

-- a value that is found is that of an entry
value_found : (P : ℤ → Type 0) (entries : List Through) (pair : Connection) → P (pos 0) → ((k : ℕ) (d : Through) → k < length entries → P (slice_index_or entries k d).value)
    → P (unwrap_or (through_value_in entries pair) (pos 0))
value_found P [] pair none each = none
value_found P (entry ∷ entries) pair none each =
    either (is_through_of pair entry) (value_found P entries pair none (λ k d lt. each (suc k) d (omega arith)))
  where
    either : (b : Bool) → P (unwrap_or (through_value_in entries pair) (pos 0)) → P (unwrap_or (if b then Some entry.value else through_value_in entries pair) (pos 0))
    either true rest = each 0 entry (omega arith)
    either false rest = rest

pub listed_small : (t : Tables) (pair : Connection) → listed_value t pair ≤ MAX_VALUE
listed_small t pair = value_found (λ z. unsigned_abs z ≤ MAX_VALUE) t.throughs pair (omega arith) (λ k d lt.
    let fits = t.in_range.throughs_fit.each k d lt in
    small _ fits.no_less fits.no_more)
  where
    small : (z : ℤ) → pos 0 ≤ℤ z → z ≤ℤ MAX_COST → unsigned_abs z ≤ MAX_VALUE
    small z no_less no_more = omega (arith, ints)

pub listed_some : (t : Tables) (pair : Connection) → pos 0 ≤ℤ unwrap_or (through_value t pair) (pos 0)
listed_some t pair = value_found (λ z. pos 0 ≤ℤ z) t.throughs pair (omega (arith, ints)) (λ k d lt. (t.in_range.throughs_fit.each k d lt).no_less)

-- a pair with a value above 0 is listed
listed_above : (o : Option ℤ) → 0 < unsigned_abs (unwrap_or o (pos 0)) → IsSome o
listed_above (Some z) above = refl
listed_above None above = absurd (omega arith)

pub through_worth : (t : Tables) (a : List ℕ) (f : ℕ) (pair : Connection) (value : ℕ) → value ≡ listed_value t pair → IsCleanTurn t a f pair → IsShort t f pair
    → IsTurnWorth t a f pair (CLEAN_WORTH + value)
through_worth t a f pair value is clean short = record {
  clean = λ _. omega arith;
  through = λ _. ap (λ v. CLEAN_WORTH + v) is;
  idle = λ idle. absurd (idle.other clean.turn.comes_on);
  known = inr (inr clean);
  above = λ more. record {
    listed = listed_above (through_value t pair) (positive _ _ is (omega arith));
    turn = clean.turn;
    clean = clean.clean;
    no_night = short.no_night;
    short = short.short;
  };
  most = small _ _ is (listed_small t pair);
}
  where
    positive : (a b : ℕ) → a ≡ b → 0 < a → 0 < b
    positive a b e lt = omega arith

    small : (a b : ℕ) → a ≡ b → b ≤ MAX_VALUE → CLEAN_WORTH + a ≤ CLEAN_WORTH + MAX_VALUE
    small a b e le = omega arith

-- what isn't such a pair is worth nothing, or as much as a clean turn
pub no_worth : (t : Tables) (a : List ℕ) (f : ℕ) (pair : Connection) → choice_at a pair.arriving ≡ f → (IsCleanTurn t a f pair → ⊥) → IsTurnWorth t a f pair 0
no_worth t a f pair own not = record {
  clean = λ is. absurd (not is);
  through = λ it. absurd (not (record { turn = it.turn; clean = it.clean }));
  idle = λ idle. absurd (idle.other own);
  known = inl refl;
  above = λ more. absurd (omega (arith, more));
  most = omega arith;
}

pub clean_worth : (t : Tables) (a : List ℕ) (f : ℕ) (pair : Connection) → IsCleanTurn t a f pair → (IsShort t f pair → ⊥) → IsTurnWorth t a f pair CLEAN_WORTH
clean_worth t a f pair is not = record {
  clean = λ _. omega arith;
  through = λ it. absurd (not (record { no_night = it.no_night; short = it.short }));
  idle = λ idle. absurd (idle.other is.turn.comes_on);
  known = inr (inr is);
  above = λ more. absurd (omega (arith, more));
  most = omega arith;
}
