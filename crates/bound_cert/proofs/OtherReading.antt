-- Reading a proof looks at no settings but the days of the period: a text reads alike by the lists of tables by any other
-- settings of as many days.
use Rattle.bound_cert.specs.Lines.{◌>>=◌, Left, Reading, left_of}
use Rattle.bound_cert.specs.Nodes.{head_is, proof_at, rest_at}
use Rattle.bound_cert.specs.ReadProof.{ReadsAs}
use Rattle.bound_cert.specs.declared.reading.Proof.{Proof}
use Rattle.dual_bound.proofs.TablesBy.{Fits, tables_by}
use Rattle.dual_bound.specs.declared.nodes.Node.{Node}
use Rattle.fleet_model.proofs.PeriodMinutes.{days_are_period}
use Rattle.fleet_model.specs.Schedule.{days_in, fleet_names, last_of}
use Rattle.fleet_model.specs.declared.parts.Departure.{Departure}
use Rattle.fleet_model.specs.declared.parts.Fleet.{Fleet}
use Rattle.fleet_model.specs.declared.parts.Leg.{Leg}
use Rattle.fleet_model.specs.declared.parts.PairCost.{PairCost}
use Rattle.fleet_model.specs.declared.parts.Station.{Station}
use Rattle.fleet_model.specs.declared.parts.Through.{Through}
use Rattle.fleet_model.specs.declared.tables.Tables.{Tables}
use Rattle.proof_lines.specs.Choices.{choice_told}
use Rattle.proof_lines.specs.Known.{codes_of, flights_of}
use Rattle.std.proofs.Common.{◌≡◌, ◌∙◌, Bool, List, None, Option, Some, ap, arith, drop, refl, sym, ℕ, ℤ}

module _ (s : List Station) (f : List Fleet) (l : List Leg) (c : List PairCost) (h : List Through) (d : List Departure) (windows optional : Bool) (a b : Fits s f l c h d windows optional) where
  abbrev first : Tables
  first = tables_by s f l c h d windows optional a

  abbrev second : Tables
  second = tables_by s f l c h d windows optional b

  -- a choice of a leg is told alike
  told_alike : (leg : ℕ) (flier : Option ℕ) (minutes : ℤ) → choice_told first leg flier minutes ≡ choice_told second leg flier minutes
  unfolding choice_told
  told_alike leg (Some fleet) minutes = refl
  told_alike leg None minutes = refl

  -- what lines read as, where this is the last minute of the period and how many days it has, and choices are told so
  read_by : Left → ℕ → ℕ → (ℕ → Option ℕ → ℤ → Option ℕ) → Reading (Bool × List Node)
  read_by left last days choice =
      head_is windows left >>= λ version.
      rest_at (record { version = version; legs = flights_of first; fleets = fleet_names first; stations = codes_of first; last = last; days = days; windows = windows; optional = optional; choice = choice }) (drop 1 left)

  alike : days_in first ≡ days_in second → (left : Left) → proof_at first left ≡ proof_at second left
  unfolding proof_at read_by
  alike same left =
      let last : last_of first ≡ last_of second = omega (arith, days_are_period first, days_are_period second, same) in
      ap (λ minute. read_by left minute (days_in first) (choice_told first)) last ∙ ap (λ days. read_by left (last_of second) days (choice_told first)) same
      ∙ ap (read_by left (last_of second) (days_in second)) (λ i. λ leg flier minutes. told_alike leg flier minutes i)

  -- a text that reads by some settings reads as the same proof by others of as many days
  pub reads_by : days_in first ≡ days_in second → (text : List ℕ) (proof : Proof) → ReadsAs first text proof → ReadsAs second text proof
  reads_by same text proof reads = sym (alike same (left_of text)) ∙ reads
