-- Settings are within their limits, or they aren't.
use Rattle.std.proofs.Common.{ℕ, ◌<◌, ◌≤◌, ◌⊎◌, inl, inr, arith}
use Rattle.std.proofs.lemmas.Bool.{cases_lt}
use Rattle.fleet_model.specs.Limits.{AreSettings}
use Rattle.fleet_model.specs.declared.limits.TheConstants.{MAX_LEAST_NIGHT, MAX_PERIOD, MINUTES_PER_DAY}
use Rattle.fleet_model.specs.declared.parts.Settings.{Settings}

pub fit_or_not : (settings : Settings) → AreSettings settings ⊎ ¬ (AreSettings settings)
fit_or_not settings = elim (cases_lt settings.day_start MINUTES_PER_DAY) [
  | inr late ↦ inr (λ fits. omega (arith, late, fits.day_start))
  | inl day_start ↦ elim (cases_lt settings.through_max MINUTES_PER_DAY) [
    | inr long ↦ inr (λ fits. omega (arith, long, fits.through_max))
    | inl through_max ↦ elim (cases_lt MAX_LEAST_NIGHT settings.least_night) [
      | inl great ↦ inr (λ fits. omega (arith, great, fits.least_night))
      | inr least_night ↦ elim (cases_lt settings.period 1) [
        | inl none ↦ inr (λ fits. omega (arith, none, fits.some_days))
        | inr some_days ↦ elim (cases_lt MAX_PERIOD settings.period) [
          | inl many ↦ inr (λ fits. omega (arith, many, fits.few_days))
          | inr few_days ↦ inl (record { day_start = day_start; through_max = through_max; least_night = least_night; some_days = some_days; few_days = few_days })
        ]
      ]
    ]
  ]
]
