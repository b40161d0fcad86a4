-- The room of a day of a station, among all.
use Rattle.std.proofs.Common.{◌≡◌, ◌+◌, ◌-◌, ◌<◌, Bool, true, false, ◌==◌, ◌&&◌, ℤ, pos, refl, ◌∙◌, ap, arith}
use Rattle.sums.specs.Below.{sum_below_ℤ}
use Rattle.sums.proofs.WholeSums.{sum_below_ℤ-same}
use Rattle.sums.proofs.WholeSwaps.{sum_below_ℤ-one, where_true}
use Rattle.fleet_model.specs.declared.tables.Tables.{Tables}
use Rattle.fleet_model.specs.Schedule.{stations_in}
use Rattle.lp_rows.specs.declared.kinds.Park.{Park}
use Rattle.lp_rows.specs.Entries.{IsPark, one_if, same_park}
use Rattle.lp_rows.specs.Layout.{park_at, parking_days}
use Rattle.lp_rows.proofs.ListSums.{test_out}
use Rattle.lp_rows.proofs.Picks.{one_before}

pub two_deep : (a b : Bool) (z : ℤ) → where_true (a && b) z ≡ where_true a (where_true b z)
two_deep true b z = refl
two_deep false b z = refl

pub as_mask : (b : Bool) → one_if b ≡ where_true b (pos 1)
as_mask true = refl
as_mask false = refl

-- a day by its number
pub by_number : (p : Park) → 0 < p.day → park_at p.station (p.day - 1) ≡ p
by_number p some = ap (λ d. record { station = p.station; day = d }) (omega arith)

-- of the days of all stations, this one alone
pub pick_room : (t : Tables) (p : Park) → IsPark t p → (u : Park → ℤ)
    → sum_below_ℤ (λ s. sum_below_ℤ (λ k. where_true (same_park p (park_at s k)) (u (park_at s k))) (parking_days t s)) (stations_in t) ≡ u p
pick_room t p known u =
    sum_below_ℤ-same (λ s. sum_below_ℤ (λ k. where_true (same_park p (park_at s k)) (u (park_at s k))) (parking_days t s))
    (λ s. where_true (p.station == s) (sum_below_ℤ (λ k. where_true (p.day - 1 == k) (u (park_at s k))) (parking_days t s))) (stations_in t)
    (λ s within.
    sum_below_ℤ-same (λ k. where_true (same_park p (park_at s k)) (u (park_at s k))) (λ k. where_true (p.station == s) (where_true (p.day - 1 == k) (u (park_at s k)))) (parking_days t s)
    (λ k below. two_deep (p.station == s) (p.day == k + 1) (u (park_at s k)) ∙ ap (λ b. where_true (p.station == s) (where_true b (u (park_at s k)))) (one_before p.day k known.some))
    ∙ test_out (p.station == s) (λ k. where_true (p.day - 1 == k) (u (park_at s k))) (parking_days t s))
    ∙ sum_below_ℤ-one p.station (λ s. sum_below_ℤ (λ k. where_true (p.day - 1 == k) (u (park_at s k))) (parking_days t s)) (stations_in t) known.station
    ∙ sum_below_ℤ-one (p.day - 1) (λ k. u (park_at p.station k)) (parking_days t p.station) (omega (arith, known.some, known.day))
    ∙ ap u (by_number p known.some)
