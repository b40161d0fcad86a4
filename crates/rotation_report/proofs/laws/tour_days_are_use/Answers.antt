use Rattle.std.proofs.Common.{length, sym, ◌∙◌}
use Rattle.sums.proofs.Places.{length-list_below}
use Rattle.lines_of_flying.specs.Lines.{days_of_tour, legs_on_day}
use Rattle.lines_of_flying.proofs.TourLines.{days_are_use}
use Rattle.rotation_report.proofs.laws.tour_days_are_use.Goals as goal

pub returns : goal.returns
returns c t a f tour is = sym (length-list_below (λ d. legs_on_day t f tour d (length tour)) (days_of_tour t f tour)) ∙ days_are_use t a f tour is
