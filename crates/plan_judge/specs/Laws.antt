-- What is always so of verdicts.
use Rattle.std.specs.Prelude.{◌≡◌, ℕ, List}
use Rattle.fleet_model.specs.declared.tables.Tables.{Tables}
use Rattle.plan_judge.specs.Verdicts.{IsVerdict}
use Rattle.plan_judge.specs.declared.verdicts.Verdict.{Verdict}

-- an assignment has one verdict at most
abbrev pub OneVerdict : Type 0
OneVerdict = (t : Tables) (a : List ℕ) (v w : Verdict) → IsVerdict t a v → IsVerdict t a w → v ≡ w
