-- A leg and the other leg of its round trip: numbers, and the sum of what two such legs add.
use Rattle.std.proofs.Common.{◌≡◌, ℕ, ◌+◌, ◌-◌, ◌*◌, ◌/◌, ◌<◌, ◌≤◌, true, false, not, nat_lt, arith}
use Rattle.std.specs.Prelude.{if◌then◌else◌}
use Rattle.std.proofs.lemmas.Bool.Decides.{nat_tests}
use Rattle.fleet_model.specs.Period.{day_of_minute, minute_of_day, minutes_of}
use Rattle.table_maker.specs.Fields.{is_out}

-- the other leg of the round trip
abbrev pub partner : ℕ → ℕ
partner leg = if is_out leg then leg + 1 else leg - 1

pub partner_within : (n leg : ℕ) → leg < 2 * n → partner leg < 2 * n
partner_within n leg within = grind (arith, nat_tests)

pub partner_half : (leg : ℕ) → partner leg / 2 ≡ leg / 2
partner_half leg = grind (arith, nat_tests)

pub partner_way : (leg : ℕ) → is_out (partner leg) ≡ not (is_out leg)
partner_way leg = grind (arith, nat_tests)

pub partner_once : (l k : ℕ) → partner l ≡ partner k → l ≡ k
partner_once l k same = grind (arith, nat_tests)

-- the legs of a round trip by its number
pub out_half : (i : ℕ) → 2 * i / 2 ≡ i
out_half i = omega arith

pub back_half : (i : ℕ) → (2 * i + 1) / 2 ≡ i
back_half i = omega arith

pub out_way : (i : ℕ) → is_out (2 * i) ≡ true
out_way i = grind (arith, nat_tests)

pub back_way : (i : ℕ) → is_out (2 * i + 1) ≡ false
back_way i = grind (arith, nat_tests)

pub out_partner : (i : ℕ) → partner (2 * i) ≡ 2 * i + 1
out_partner i = grind (arith, nat_tests)

pub back_partner : (i : ℕ) → partner (2 * i + 1) ≡ 2 * i
back_partner i = grind (arith, nat_tests)

-- a minute so many after another, both counted from the day start
pub later : (leaves more day_start : ℕ) → day_start < minutes_of 1 → minute_of_day (minute_of_day (leaves + more) + minutes_of 1 - day_start)
    ≡ minute_of_day (minute_of_day (minute_of_day leaves + minutes_of 1 - day_start) + more)
later leaves more day_start within = omega (arith, within)

-- One period passes from a departure from the hub to the same departure in the next period, where both flights, two turns
-- of 30 minutes and a stay of at least 60 take less than that: it starts in a flight or in a wait.
pub one_period : (departs block stay : ℕ) → departs < minutes_of 1 → block ≤ 180 → 60 ≤ stay → stay ≤ 120
    → (day_of_minute (departs + (block + 30)) + (if nat_lt (minute_of_day (departs + (block + stay))) (minute_of_day (departs + (block + 30))) then 1 else 0))
    + (day_of_minute (minute_of_day (departs + (block + stay)) + (block + 30)) + (if nat_lt departs (minute_of_day (minute_of_day (departs + (block + stay)) + (block + 30))) then 1 else 0)) ≡ 1
one_period departs block stay within short least most = grind (arith, nat_tests)
