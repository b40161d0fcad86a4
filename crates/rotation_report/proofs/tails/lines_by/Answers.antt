use Rattle.std.proofs.Common.{◌<◌, ℕ, [], List, length, slice_index_or, sym, ap, subst, ◌∙◌}
use Rattle.sums.proofs.Places.{length-list_below}
use Rattle.lines_of_flying.specs.Lines.{AreLegsOfTables, days_of_tour, legs_on_day}
use Rattle.rotation_report.proofs.TourLegs.{line_legs}
use Rattle.rotation_report.proofs.tails.lines_by.Goals as goal

pub returns-clause-fits : goal.returns-clause-fits
returns-clause-fits c =
    let t = c.args.tables.now in
    let f = c.args.fleet in
    let tour = c.args.tour.now in
    record {
      fleet = c.requires.fleet;
      each_day = ap length c.in_ok-cut.ensures ∙ length-list_below (λ d. legs_on_day t f tour d (length tour)) (days_of_tour t f tour) ∙ c.requires.tour.days;
      legs = λ k. (let P : List (List ℕ) → Type 0 = λ lines. k < length lines → AreLegsOfTables t (slice_index_or lines k []) in subst P (sym c.in_ok-cut.ensures) (line_legs t f tour c.requires.tour.known k));
    }
