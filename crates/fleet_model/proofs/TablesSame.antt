-- Tables are their lists and settings.
use Rattle.std.proofs.Common.{◌≡◌, Bool, List, ap, sym, subst, ◌∙◌}
use Rattle.std.proofs.Props.{props}
use Rattle.fleet_model.specs.Limits.{AreTables}
use Rattle.fleet_model.specs.Windows.{departures_of_legs}
use Rattle.fleet_model.specs.declared.parts.Departure.{Departure}
use Rattle.fleet_model.specs.declared.parts.Fleet.{Fleet}
use Rattle.fleet_model.specs.declared.parts.Leg.{Leg}
use Rattle.fleet_model.specs.declared.parts.PairCost.{PairCost}
use Rattle.fleet_model.specs.declared.parts.Settings.{Settings}
use Rattle.fleet_model.specs.declared.parts.Station.{Station}
use Rattle.fleet_model.specs.declared.parts.Through.{Through}
use Rattle.fleet_model.specs.declared.tables.Tables.{Tables}

-- tables of lists that keep their limits
abbrev tables_of : (s : List Station) (f : List Fleet) (l : List Leg) (c : List PairCost) (h : List Through) (settings : Settings) (d : List Departure) (windows optional : Bool) → AreTables s f l c h settings d windows optional → Tables
tables_of s f l c h settings d windows optional fit =
    record { stations = s; fleets = f; legs = l; costs = c; throughs = h; settings = settings; departures = d; windows = windows; optional = optional; in_range = fit }

-- that lists keep their limits is shown in one way
fit_once : (s : List Station) (f : List Fleet) (l : List Leg) (c : List PairCost) (h : List Through) (settings : Settings) (d : List Departure) (windows optional : Bool) (a b : AreTables s f l c h settings d windows optional) → a ≡ b
fit_once s f l c h settings d windows optional a b = let prop : IsProp (AreTables s f l c h settings d windows optional) = hlevel props in prop a b

pub tables_same : (a b : Tables) → a.stations ≡ b.stations → a.fleets ≡ b.fleets → a.legs ≡ b.legs → a.costs ≡ b.costs → a.throughs ≡ b.throughs → a.settings ≡ b.settings
    → a.windows ≡ b.windows → a.optional ≡ b.optional → a ≡ b
tables_same a b stations fleets legs costs throughs settings windows optional =
    let Parts : Type 0 = List Station × List Fleet × List Leg × List PairCost × List Through × Settings × List Departure × Bool × Bool in
    let departures : a.departures ≡ b.departures = a.in_range.departures_fit ∙ ap departures_of_legs legs ∙ sym b.in_range.departures_fit in
    let parts_a : Parts = (a.stations, a.fleets, a.legs, a.costs, a.throughs, a.settings, a.departures, a.windows, a.optional) in
    let parts_b : Parts = (b.stations, b.fleets, b.legs, b.costs, b.throughs, b.settings, b.departures, b.windows, b.optional) in
    let same : parts_a ≡ parts_b = cc in
    let Same : Parts → Type 0 = λ p. (fit : AreTables p.0 p.1 p.2 p.3 p.4 p.5 p.6 p.7 p.8) → a ≡ tables_of p.0 p.1 p.2 p.3 p.4 p.5 p.6 p.7 p.8 fit in
    let here : Same parts_a = λ fit.
    ap (tables_of a.stations a.fleets a.legs a.costs a.throughs a.settings a.departures a.windows a.optional)
    (fit_once a.stations a.fleets a.legs a.costs a.throughs a.settings a.departures a.windows a.optional a.in_range fit) in
    subst Same same here b.in_range
