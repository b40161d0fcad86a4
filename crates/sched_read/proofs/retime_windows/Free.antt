-- Where nothing stands in the way of one window more.
use Rattle.std.proofs.Common.{◌≡◌, ℕ, ◌<◌, ◌≤◌, nat_le, nat_lt, Bool, true, false, if◌then◌else◌, List, [], ◌∷◌, ◌++◌, length, ℤ, Option, Some, None, refl, arith}
use Rattle.std.proofs.lemmas.Bool.Decides.{nat_tests}
use Rattle.fleet_model.specs.declared.limits.TheConstants.{MAX_TRIPLES}
use Rattle.fleet_model.specs.declared.refusals.TheConstants.{DUPLICATE, TOO_MANY, TOO_MANY_CHOICES, TOO_MANY_OF_FLIGHT}
use Rattle.table_rows.specs.Names.{is_among}
use Rattle.sched_read.specs.retime_windows.Keys.{key_with, triples_by, windows_on}
use Rattle.sched_read.specs.retime_windows.Windows.{window_refusal}
use Rattle.sched_read.specs.declared.retime_windows.window.TheConstants.{MAX_WINDOWS, MAX_WINDOWS_OF_LEG}

pub record IsFree (fleets : List ℕ) (earlier : List (List ℕ)) (leg : ℕ) (minutes : ℤ) : Type 0 where
  pub fresh : is_among (key_with leg minutes) earlier ≡ false
  pub below : length earlier < MAX_WINDOWS
  pub room : windows_on earlier leg < 8
  pub few : triples_by fleets (earlier ++ key_with leg minutes ∷ []) ≤ MAX_TRIPLES

passed : (b : Bool) (kind : ℕ) (rest : Option ℕ) → (if b then Some kind else rest) ≡ None → (b ≡ false) × (rest ≡ None)
passed true kind rest none = absurd (cc none)
passed false kind rest none = (refl, none)

pub is_free : (fleets : List ℕ) (earlier : List (List ℕ)) (leg : ℕ) (minutes : ℤ) → window_refusal fleets earlier leg minutes ≡ None → IsFree fleets earlier leg minutes
unfolding window_refusal
is_free fleets earlier leg minutes none =
    let fresh = passed (is_among (key_with leg minutes) earlier) DUPLICATE _ none in
    let below = passed (nat_le MAX_WINDOWS (length earlier)) TOO_MANY _ fresh.1 in
    let room = passed (nat_le MAX_WINDOWS_OF_LEG (windows_on earlier leg)) TOO_MANY_OF_FLIGHT _ below.1 in
    let few = passed (nat_lt MAX_TRIPLES (triples_by fleets (earlier ++ key_with leg minutes ∷ []))) TOO_MANY_CHOICES _ room.1 in
    record {
      fresh = fresh.0;
      below = not_at MAX_WINDOWS (length earlier) below.0;
      room = not_at MAX_WINDOWS_OF_LEG (windows_on earlier leg) room.0;
      few = not_past MAX_TRIPLES (triples_by fleets (earlier ++ key_with leg minutes ∷ [])) few.0;
    }
  where
    not_at : (m n : ℕ) → nat_le m n ≡ false → n < m
    not_at m n refused = grind (arith, nat_tests)

    not_past : (m n : ℕ) → nat_lt m n ≡ false → n ≤ m
    not_past m n refused = grind (arith, nat_tests)
