-- Charges within their limits wherever an entry tells one are so everywhere.
use Rattle.std.proofs.Common.{◌≡◌, ℕ, ◌<◌, ◌≤◌, Bool, true, false, ◌&&◌, ◌==◌, if◌then◌else◌, List, [], ◌∷◌, All, MatchBool, ◌⊎◌, inl, inr, ℤ, pos, refl, subst, arith}
use Rattle.std.proofs.lemmas.Bool.Decides.{nat_tests}
use Rattle.std.proofs.lemmas.Int.{ints}
use Rattle.std.proofs.lemmas.List.{get_or_default}
use Rattle.std.proofs.lemmas.List.Elements.{All-head, All-tail}
use Rattle.fleet_model.specs.Schedule.{days_in}
use Rattle.fleet_model.specs.declared.tables.Tables.{Tables}
use Rattle.dual_bound.specs.OfTables.{ArePricesOf}
use Rattle.dual_bound.specs.Prices.{AreCharges, IsCharge, is_charge_of, last_charge}
use Rattle.dual_bound.specs.declared.prices.Charge.{Charge}
use Rattle.dual_bound.specs.declared.prices.Prices.{Prices}
use Rattle.cert_check.specs.PriceRules.{AreChargesAt, IsChargeAt, entry_at, no_entry}

-- an entry of a station and a day, with what is known of it
record IsOf (P : Charge → Type 0) (s d : ℕ) (entry : Charge) : Type 0 where
  pub holds : P entry
  pub station : entry.station ≡ s
  pub day : entry.day ≡ d

same_of : (x s y d : ℕ) → ((x == s) && (y == d)) ≡ true → (x ≡ s) × (y ≡ d)
same_of x s y d e = grind (arith, nat_tests)

-- there is an entry of the station and the day, or the charge stays as it was before all entries
told_or_none : (P : Charge → Type 0) (s d : ℕ) (entries : List Charge) (v : ℤ) → All P entries → ((entry : Charge) × IsOf P s d entry) ⊎ (last_charge v entries s d ≡ v)
unfolding last_charge
told_or_none P s d [] v all = inr refl
told_or_none P s d (entry ∷ entries) v all = by_test (told_or_none P s d entries v (All-tail P entry entries all)) (is_charge_of s d entry) refl
  where
    by_test : ((other : Charge) × IsOf P s d other) ⊎ (last_charge v entries s d ≡ v) → (b : Bool) → is_charge_of s d entry ≡ b
        → ((other : Charge) × IsOf P s d other) ⊎ (last_charge (if b then entry.charge else v) entries s d ≡ v)
    by_test later false e = later
    by_test later true e =
        let here = same_of entry.station s entry.day d e in
        inl (entry, record { holds = All-head P entry entries all; station = here.0; day = here.1 })

charged_everywhere : (t : Tables) (prices : Prices) → All (IsChargeAt t prices) prices.charges → (s d : ℕ) → 0 < d → d ≤ days_in t → IsCharge t prices s d
charged_everywhere t prices all s d some within = elim (told_or_none (IsChargeAt t prices) s d prices.charges (pos 0) all) [
  | inl there ↦ rw (there.1.station, there.1.day) at (there.1.holds.is (rw there.1.day some) (rw there.1.day within))
  | inr none ↦ record { some = omega (arith, ints, none); within = omega (arith, ints, none); only_limited = λ no_limit. none }
]

-- the answer of the test of all charges, from those of the entries
pub charged_by_entries : (t : Tables) (prices : Prices) (b : Bool) → ArePricesOf t prices → MatchBool b (AreChargesAt t prices) (¬ (AreChargesAt t prices)) → MatchBool b (AreCharges t prices) (¬ (AreCharges t prices))
charged_by_entries t prices true known all =
    λ s d there some within. charged_everywhere t prices (λ k e below. subst (IsChargeAt t prices) (get_or_default prices.charges k no_entry e below) (all k below)) s d some within
charged_by_entries t prices false known none =
    λ charges. none (λ k below. record { is = λ some within. charges (entry_at prices k).station (entry_at prices k).day (known.charges k no_entry below) some within })
