use Rattle.std.proofs.Common.{◌≡◌, ◌<◌, ◌==◌, ℕ, length, Bool, true, false, refl, arith}
use Rattle.std.proofs.lemmas.Bool.Decides.{nat_tests}
use Rattle.euler_rotation.proofs.Told.{fails, refuted}
use Rattle.euler_rotation.proofs.TourTurns.{kept_from, tour_known, tour_met, tour_order}
use Rattle.euler_rotation.proofs.kept.is_kept_tour.Goals as goal

none_flown : (b : Bool) (n : ℕ) → b ≡ (n == 0) → b ≡ true → 0 < n → ⊥
none_flown b n told e some = grind (arith, nat_tests)

some_flown : (b : Bool) (n : ℕ) → b ≡ (n == 0) → b ≡ false → 0 < n
some_flown b n told e = grind (arith, nat_tests)

pub returns-then-is_empty : goal.returns-then-is_empty
returns-then-is_empty c = fails (λ kept. none_flown c.is_empty.result (length c.args.legs.now) c.is_empty.ensures c.if-is_empty.true kept.tour.some)

pub returns-then-not-are_known : goal.returns-then-not-are_known
returns-then-not-are_known c = fails (λ kept. refuted c.if-not-are_known.ensures
    (tour_known c.args.clean.now.asked.now.tables.now c.args.clean.now.asked.now.plan.now c.args.clean.now.asked.now.fleet c.args.legs.now kept.tour))

pub returns-then-not-are_met : goal.returns-then-not-are_met
returns-then-not-are_met c = fails (λ kept. refuted c.if-not-are_met.ensures
    (tour_met c.args.clean.now.asked.now.tables.now c.args.clean.now.asked.now.plan.now c.args.clean.now.asked.now.fleet c.args.legs.now kept.tour))

pub returns-then-not-is_often : goal.returns-then-not-is_often
returns-then-not-is_often c = fails (λ kept. refuted c.if-not-is_often.ensures kept.kept)

pub returns-then-not-hold : goal.returns-then-not-hold
returns-then-not-hold c = fails (λ kept. refuted c.if-not-hold.ensures kept.holds)

pub is_often-requires-clause-known : goal.is_often-requires-clause-known
is_often-requires-clause-known c = c.if-not-are_known.ensures.0 refl

pub is_order-requires-clause-known : goal.is_order-requires-clause-known
is_order-requires-clause-known c = c.if-not-are_known.ensures.0 refl

pub returns : goal.returns
returns c = (
  (λ passed.
      kept_from c.args.clean.now.asked.now.tables.now c.args.clean.now.asked.now.plan.now c.args.clean.now.asked.now.fleet c.requires.asked.plain c.args.clean.now.asked.now.pairs.now
      c.args.clean.now.asked.now.days c.args.legs.now (some_flown c.is_empty.result (length c.args.legs.now) c.is_empty.ensures c.if-is_empty.false)
      (c.if-not-are_met.ensures.0 refl) (c.if-not-is_often.ensures.0 refl) (c.if-not-hold.ensures.0 refl) (c.is_order.ensures.0 passed)),
  (λ kept. c.is_order.ensures.1 (tour_order c.args.clean.now.asked.now.tables.now c.args.clean.now.asked.now.plan.now c.args.clean.now.asked.now.fleet c.args.legs.now kept.tour)),
)
