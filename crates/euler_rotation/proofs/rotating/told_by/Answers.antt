use Rattle.std.proofs.Common.{◌≡◌, ◌≤◌, ◌<◌, ◌==◌, ◌&&◌, ℕ, true, false, nat_le, sym, ◌∙◌, subst, arith}
use Rattle.std.proofs.lemmas.Bool.Decides.{nat_tests}
use Rattle.euler_rotation.proofs.Answering.{all_kept, none_found, not_kept}
use Rattle.euler_rotation.proofs.FoundTours.{spent_found, tour_found}
use Rattle.euler_rotation.proofs.rotating.told_by.Goals as goal

-- what the test tells, of the least minutes, the nights and the days
all_long : (least used days : ℕ) → ((least == 0) && nat_le used days) ≡ true → least ≡ 0
all_long least used days e = grind (arith, nat_tests)

as_many : (least used days : ℕ) → ((least == 0) && nat_le used days) ≡ true → used ≤ days
as_many least used days e = grind (arith, nat_tests)

fewer : (least used days : ℕ) → ((least == 0) && nat_le used days) ≡ false → least ≡ 0 → days < used
fewer least used days e none = grind (arith, nat_tests)

pub begun-requires-clause-asked : goal.begun-requires-clause-asked
begun-requires-clause-asked c = c.requires.told.is_asked

pub begun-requires-clause-kept : goal.begun-requires-clause-kept
begun-requires-clause-kept c = c.is_kept_tour.ensures.0 c.if-is_kept_tour.true

pub returns-then-is_kept_tour : goal.returns-then-is_kept_tour
returns-then-is_kept_tour c = record { nights = c.requires.told.nights; tour = c.in_ok-begun.ensures.kept; begins = c.in_ok-begun.ensures.begins }

pub returns-then-are_alike : goal.returns-then-are_alike
returns-then-are_alike c = let alike = sym c.are_alike.ensures ∙ c.if-are_alike.true in record {
  nights = c.requires.told.nights;
  tour = record { legs = c.args.tour.now; tour = c.requires.told.holds };
  none = λ legs kept.
      not_kept c.args.clean.now.asked.now c.args.tour.now c.is_kept_tour.result c.is_kept_tour.ensures.1 c.if-is_kept_tour.false
      (all_kept c.args.clean.now.asked.now.tables.now c.args.clean.now.asked.now.plan.now c.args.clean.now.asked.now.fleet c.args.clean.now.asked.now.pairs.now c.args.clean.now.asked.now.days c.args.tour.now legs
      (all_long c.args.clean.now.asked.now.tables.now.settings.least_night c.args.used c.args.clean.now.asked.now.days alike) c.requires.told.nights c.requires.told.holds
      (subst (λ used. used ≤ c.args.clean.now.asked.now.days) c.requires.told.used_is
      (as_many c.args.clean.now.asked.now.tables.now.settings.least_night c.args.used c.args.clean.now.asked.now.days alike)) kept);
}

pub begun-requires-in-Tour-clause-asked : goal.begun-requires-in-Tour-clause-asked
begun-requires-in-Tour-clause-asked c = c.requires.told.is_asked

pub begun-requires-in-Tour-clause-kept : goal.begun-requires-in-Tour-clause-kept
begun-requires-in-Tour-clause-kept c =
    tour_found c.args.clean.now.asked.now c.args.tour.now c.in-Tour.legs c.as_slice.result.now c.args.visits c.in_ok-legs.field-0 c.in_ok-legs.ensures
    c.in-Tour.is c.as_slice.ensures

pub returns-in_ok-begun-in-Tour : goal.returns-in_ok-begun-in-Tour
returns-in_ok-begun-in-Tour c = record { nights = c.requires.told.nights; tour = c.in_ok-begun-in-Tour.ensures.kept; begins = c.in_ok-begun-in-Tour.ensures.begins }

pub returns-in-Nothing : goal.returns-in-Nothing
returns-in-Nothing c = record {
  nights = c.requires.told.nights;
  tour = record { legs = c.args.tour.now; tour = c.requires.told.holds };
  none = none_found c.args.clean.now.asked.now c.args.tour.now c.args.visits c.in_ok-legs.field-0 c.in_ok-legs.ensures c.in-Nothing.is
      c.requires.told.is_asked c.requires.told.holds;
}

pub returns-in-Spent : goal.returns-in-Spent
returns-in-Spent c = record {
  nights = c.requires.told.nights;
  tour = record { legs = c.args.tour.now; tour = c.requires.told.holds };
  few = λ none_short. subst (λ used. c.args.clean.now.asked.now.days < used) c.requires.told.used_is
      (fewer c.args.clean.now.asked.now.tables.now.settings.least_night c.args.used c.args.clean.now.asked.now.days (sym c.are_alike.ensures ∙ c.if-are_alike.false) none_short);
  visited = spent_found c.args.clean.now.asked.now c.args.tour.now c.in-Spent.prefix c.args.visits c.in_ok-legs.field-0 c.in_ok-legs.ensures c.in-Spent.is;
}
