-- Of the pairs that may be flown, the pairs of a part may be flown too.
use Rattle.std.proofs.Common.{◌≡◌, Bool, List, sym, subst}
use Rattle.sums.proofs.Tests.{first_true}
use Rattle.fleet_model.specs.Kept.{Domains, kept_by, narrowed}
use Rattle.fleet_model.specs.Whole.{KeepAllowed}
use Rattle.fleet_model.specs.declared.kept.Step.{Step}
use Rattle.fleet_model.specs.declared.tables.Tables.{Tables}

pub allowed_part : (t : Tables) (keeps : Domains) (step : Step) → KeepAllowed t keeps → KeepAllowed t (narrowed keeps step)
allowed_part t keeps step allowed = record { each = λ p pair kept. allowed.each p pair (first_true (keeps p) _ kept) }

pub allowed_rows : (t : Tables) (rows : List (List Bool)) (keeps : Domains) → kept_by rows ≡ keeps → KeepAllowed t keeps → KeepAllowed t (kept_by rows)
allowed_rows t rows keeps e allowed = subst (KeepAllowed t) (sym e) allowed
