use Rattle.std.proofs.Common.{◌≡◌, ℕ, ◌+◌, ◌%◌, ◌<◌, length, ◌∙◌, ap, arith}
use Rattle.std.proofs.lemmas.List.{get_or_read}
use Rattle.lines_of_flying.specs.Following.{next_place}
use Rattle.lines_of_flying.specs.Grounds.{landings_at, need_at}
use Rattle.lines_of_flying.proofs.Followers.{some_landings}
use Rattle.lines_of_flying.proofs.following.next_place.Goals as goal

both_same : (a b c x y z : ℕ) → a ≡ x → b ≡ y → c ≡ z → (a + b) % c ≡ (x + y) % z
both_same a b c x y z first second third = cc

pub overflow_add-result : goal.overflow_add-result
overflow_add-result c =
    let g = c.args.ground.now in
    let there = c.leg.ensures.fits.to in
    let low : c.leg.result.now.to < length c.args.places.now.needs.items = omega (arith, there, c.requires.places.each_station) in
    let need = get_or_read c.args.places.now.needs.items c.leg.result.now.to c.index.result.now low c.index.ensures 0 ∙ c.requires.places.needs c.leg.result.now.to there in
    omega (arith, need, c.requires.places.few c.leg.result.now.to there, c.place_of.ensures.few, g.tables.now.in_range.legs_fit.few)

pub returns : goal.returns
unfolding next_place
returns c =
    let g = c.args.ground.now in
    let there = c.leg.ensures.fits.to in
    let low : c.leg.result.now.to < length c.args.places.now.needs.items = omega (arith, there, c.requires.places.each_station) in
    let same = ap (λ leg. leg.to) c.leg.ensures.value in
    both_same _ _ _ _ _ _ c.place_of.ensures.value
    (get_or_read c.args.places.now.needs.items c.leg.result.now.to c.index.result.now low c.index.ensures 0 ∙ c.requires.places.needs c.leg.result.now.to there ∙ ap (need_at g) same)
    (c.landings.ensures.value ∙ ap (landings_at g) same)

pub nonzero_rem-result : goal.nonzero_rem-result
nonzero_rem-result c =
    some_landings c.args.ground.now.tables.now c.args.ground.now.plan.now c.args.ground.now.fleet c.args.ground.now.pairs.now c.requires.held
    c.args.leg c.leg.result.now.to c.landings.result c.requires.leg c.requires.flies c.requires.free (ap (λ leg. leg.to) c.leg.ensures.value) c.landings.ensures.value
